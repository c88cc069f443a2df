use Rattle.std.proofs.Common.{sym, ◌∙◌, ◌<◌, ◌+◌, ℕ, List, take, get_or, set, length, arith, subst}
use Rattle.std.proofs.lemmas.Bool.{false≢true}
use Rattle.air_base.specs.declared.air.Ask.{Ask}
use Rattle.list_world.proofs.NextEntry.{IsFree, free_none, next_at, free_at, kept_at, fault_at}
use Rattle.list_world.proofs.laws.ask_fault.Goals as goal

abbrev none : Ask
none = record { node = 0; cycle = 0 }

pub loop-place-init : goal.loop-place-init
loop-place-init c = record { free = free_none (λ (x : Ask). x.node) (λ x. x.cycle) c.args.topo.now 1 64; kept = λ i d lt. absurd (omega arith) }

pub returns-then-not-may_come : goal.returns-then-not-may_come
returns-then-not-may_come c =
    let t = c.args.topo.now in
    let e = c.if-not-may_come.true in
    let i = c.loop-place.invariant in
    let inv = c.may_come.ensures in
    fault_at (λ (x : Ask). x.node) (λ x. x.cycle) t 1 c.args.asks.now c.loop-place.place c.loop-place.free c.loop-place-test.true i.free none (λ h. absurd (false≢true (sym e ∙ inv.1 h))) i.kept

pub loop-place-preserved : goal.loop-place-preserved
loop-place-preserved c =
    let t = c.args.topo.now in
    let xs = c.args.asks.now in
    let p = c.loop-place.place in
    let x = get_or xs p none in
    let lt = c.loop-place-test.true in
    let i = c.loop-place.invariant in
    let ok = c.may_come.ensures.0 c.if-not-may_come.false in
    let next = next_at (λ (x : Ask). x.node) (λ x. x.cycle) t 1 xs p c.loop-place.free lt i.free none ok.0 ok.1 in
    let room : x.node < length c.loop-place.free = let a = ok.0.0 in let r = c.nodes-nodes.ensures.lawful.ranges.nodes_to in let l = c.loop-place-test.array_long in omega arith in
    record {
      free = subst (λ (l : List ℕ). IsFree (λ (x : Ask). x.node) (λ x. x.cycle) t 1 l (take (p + 1) xs)) (λ j. set c.loop-place.free (sym c.from.ensures j) (x.cycle + 1))
          (free_at (λ (x : Ask). x.node) (λ x. x.cycle) t 1 xs p c.loop-place.free lt i.free none room next);
      kept = kept_at (λ (x : Ask). x.node) (λ x. x.cycle) t 1 xs p c.loop-place.free lt i.free none i.kept next;
    }
