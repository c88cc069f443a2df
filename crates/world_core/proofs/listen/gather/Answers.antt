use Rattle.std.proofs.Common.{◌≡◌, ℕ, suc, ◌<◌, ◌≤◌, ◌+◌, ◌-◌, length, List, take, sym, subst, ◌∙◌, ap, arith}
use Rattle.std.specs.List.{filter}
use Rattle.std.proofs.lemmas.Bool.{false≢true}
use Rattle.air_base.specs.declared.air.Send.{Send}
use Rattle.world_core.specs.Topology.{latency_of, is_open}
use Rattle.world_core.specs.Heard.{is_audible, age_of}
use Rattle.world_core.specs.Sends.{sends_of}
use Rattle.world_core.specs.Chain.{send_at}
use Rattle.world_core.specs.Over.{heard_over}
use Rattle.world_core.proofs.Chained.{newest_le, newest_node, over_step}
use Rattle.world_core.proofs.Looks.{in_time, shut, stop, whole, back_is, back_place}
use Rattle.world_core.proofs.listen.gather.Goals as goal
use Rattle.world_core.proofs.listen.gather.Goals.{then-is_open, else-is_open}

pub loop-place-init : goal.loop-place-init
loop-place-init c =
    let l = c.args.sends.now in
    let k : ℕ = c.args.from in
    record {
      within = let h = newest_le l k (length l) in let e = c.requires.last in omega arith;
      own = λ i e. newest_node l k (length l) i (e ∙ c.requires.last);
      rest = ap (λ (xs : List Send). heard_over (age_of c.args.topo.now c.args.node c.args.cycle) c.args.heard (filter (is_audible c.args.topo.now c.args.node c.args.cycle) xs)) (whole l k c.args.last c.requires.last);
    }

pub returns-then-first-byte_time : goal.returns-then-first-byte_time
returns-then-first-byte_time c =
    let t = c.args.topo.now in
    let l = c.args.sends.now in
    let k : ℕ = c.args.from in
    let j : ℕ = c.args.node in
    let s : ℕ = c.args.cycle in
    let n : ℕ = c.loop-place.place in
    let late : (send_at l (n - 1)).cycle + latency_of t k j + t.byte_time ≤ s = let a = c.latency_of-latency.ensures.value in let b = c.byte_time-byte_time.ensures.value in let d = c.if-first-byte_time.true in omega arith in
    let none = stop t l k j s n c.loop-place.invariant.within (let h = c.loop-place-test.true in omega arith) c.loop-place.invariant.own c.requires.rises late in
    sym (ap (heard_over (age_of t j s) c.loop-place.so_far) none) ∙ c.loop-place.invariant.rest

pub loop-place-smaller : goal.loop-place-smaller
loop-place-smaller c =
    (back_place c.args.sends.now c.args.ways.now c.args.from c.loop-place.place c.requires.chain c.loop-place.invariant.within (let h = c.loop-place-test.true in omega arith) c.loop-place.invariant.own).0

pub loop-place-preserved : goal.loop-place-preserved
loop-place-preserved c =
    let t = c.args.topo.now in
    let l = c.args.sends.now in
    let k : ℕ = c.args.from in
    let j : ℕ = c.args.node in
    let s : ℕ = c.args.cycle in
    let n : ℕ = c.loop-place.place in
    let i : ℕ = n - 1 in
    let x : Send = send_at l i in
    let inv = c.loop-place.invariant in
    let pos : 0 < n = let h = c.loop-place-test.true in omega arith in
    let q : suc i ≡ n = omega arith in
    let lt : i < length l = let h = inv.within in omega arith in
    let own : x.node ≡ k = inv.own i q in
    let e = back_is l c.args.ways.now k n c.requires.chain inv.within pos inv.own in
    let a = c.latency_of-latency.ensures.value in
    let b = c.byte_time-byte_time.ensures.value in
    let young = c.if-first-byte_time.false in
    let late = c.if-cycle-first.false in
    let age = age_of t j s in
    let step = over_step age (is_audible t j s) l k i c.loop-place.so_far c.if-is_open.so_far lt own
    (λ on. elim c.if-is_open.branch [
      | then-is_open w ↦ w.so_far-is ∙ w.heard_with-so_far.ensures
      | else-is_open w ↦ absurd (false≢true (sym (shut t k j s x own (sym c.is_open.ensures ∙ w.if-is_open.false)) ∙ on))
    ])
    (λ off. elim c.if-is_open.branch [
      | then-is_open w ↦ absurd (false≢true (sym off ∙ in_time t k j s x own c.requires.linked (sym c.is_open.ensures ∙ w.if-is_open.true) (omega arith) (omega arith)))
      | else-is_open w ↦ w.so_far-is
    ]) in
    let back = back_place l c.args.ways.now k n c.requires.chain inv.within pos inv.own in
    record {
      within = let h = inv.within in let g = back.0 in omega arith;
      own = back.1;
      rest = subst (λ (m : ℕ). heard_over age c.if-is_open.so_far (filter (is_audible t j s) (sends_of k (take m l))) ≡ heard_over age c.args.heard (filter (is_audible t j s) (sends_of k l))) (sym e)
          (step ∙ ap (λ (m : ℕ). heard_over age c.loop-place.so_far (filter (is_audible t j s) (sends_of k (take m l)))) q ∙ inv.rest);
    }
