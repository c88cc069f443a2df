use Rattle.std.proofs.Common.{◌≡◌, ℕ, ◌<◌, true, List, length, vec_len, refl, sym, subst, ap, ◌∙◌, arith, rules}
use Rattle.std.proofs.lemmas.Bool.{false≢true}
use Rattle.std.proofs.lemmas.List.Elements.{All-set}
use Rattle.fleet_threads.specs.declared.member.Member.{Member}
use Rattle.fleet_threads.specs.Member.{IsUnderWay}
use Rattle.fleet_threads.proofs.Lists.{stepped, one_more_over, one_more_look}
use Rattle.fleet_threads.proofs.threads.round.Goals.{then-not-step, else-not-step}
use Rattle.fleet_threads.proofs.threads.round.Goals as goal

pub loop-k-preserved : goal.loop-k-preserved
loop-k-preserved g c =
    let xs : List Member = c.loop-k.waiting.items in
    let k : ℕ = c.loop-k.k in
    let new : Member = c.step.new.self in
    let inv = c.loop-k.invariant in
    let len : length xs ≡ vec_len c.loop-k.waiting = search rules in
    let long : k < length xs = omega (arith, c.loop-k-test.true, c.len-k-end.ensures, inv.len, len) in
    record {
      all = All-set (IsUnderWay g.N.Session.table g.N.Session.world c.args.epoch.now.scenario.now g.N.Session.floor c.args.epoch.now.end) xs k new c.step.ensures.on.0 inv.all;
      numbers = stepped xs k c.index_mut.result.now new long (c.step.ensures.on.1 ∙ ap (λ (m : Member). m.runner.number) c.index_mut.ensures.value) ∙ inv.numbers;
      len = inv.len;
      once = let one = c.step.ensures.once refl in let more = one_more_look xs k c.index_mut.result.now new long c.index_mut.ensures.value one in let before = inv.once in omega arith;
      over = (λ on. elim c.if-not-step.branch [
        | then-not-step w ↦ absurd (false≢true (sym w.over-is ∙ on))
        | else-not-step w ↦ one_more_over c.args.epoch.now.end xs k new long (inv.over (sym w.over-is ∙ on)) (c.step.ensures.over (let e : c.step.result ≡ true = search rules in e))
      ]);
    }

pub loop-k-init : goal.loop-k-init
loop-k-init g c = record { all = c.requires; numbers = refl; len = refl; once = omega arith; over = (λ on i d lt. absurd (omega arith)) }

pub step-requires : goal.step-requires
step-requires g c =
    let len : length c.loop-k.waiting.items ≡ vec_len c.loop-k.waiting = search rules in
    let long : c.loop-k.k < length c.loop-k.waiting.items = omega (arith, c.loop-k-test.true, c.len-k-end.ensures, c.loop-k.invariant.len, len) in
    subst (IsUnderWay g.N.Session.table g.N.Session.world c.args.epoch.now.scenario.now g.N.Session.floor c.args.epoch.now.end) (sym c.index_mut.ensures.value) (c.loop-k.invariant.all c.loop-k.k c.index_mut.result.now long)

pub returns-clause-all : goal.returns-clause-all
returns-clause-all g c = c.loop-k.invariant.all

pub returns-clause-numbers : goal.returns-clause-numbers
returns-clause-numbers g c = c.loop-k.invariant.numbers

pub returns-clause-over : goal.returns-clause-over
returns-clause-over g c on k d lt =
    let len : length c.loop-k.waiting.items ≡ vec_len c.loop-k.waiting = search rules in
    c.loop-k.invariant.over on k d (omega (arith, lt, c.loop-k-test.false, c.len-k-end.ensures, c.loop-k.invariant.len, len))

pub returns-clause-once : goal.returns-clause-once
returns-clause-once g c =
    let len : length c.loop-k.waiting.items ≡ vec_len c.loop-k.waiting = search rules in
    omega (arith, c.loop-k.invariant.once, c.loop-k.auto.k-end, c.len-k-end.ensures, c.loop-k.invariant.len, len)
