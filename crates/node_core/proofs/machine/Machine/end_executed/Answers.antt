use Rattle.std.proofs.Common.{◌≡◌, ℕ, ◌+◌, ◌-◌, true, false, refl, sym, subst, arith}
use Rattle.node_core.specs.declared.machine.Machine.{Machine}
use Rattle.node_core.specs.Pace.Midway.{IsSprinted}
use Rattle.node_core.proofs.Sprints.{breaks, stays, steps_on}
use Rattle.node_core.proofs.machine.Machine.end_executed.Goals as goal

pub returns-then-passes_whole-clause-sprinted : goal.returns-then-passes_whole-clause-sprinted
returns-then-passes_whole-clause-sprinted c t first m h none p =
    let at : ℕ = c.args.at in
    let n : ℕ = c.args.taken in
    let x : Machine = c.passes_whole.new.self in
    let e = c.if-passes_whole.ensures in
    let there = steps_on t at n first m c.args.self.now x h none p (e.calm refl) (e.state refl) e.others (e.clock refl) in
    let more = c.from.ensures in
    let next : at + n ≡ at + c.from.result = omega (arith, more) in
    subst (λ (u : ℕ). IsSprinted t u false first x) next (stays t (at + n) first x there)

pub returns-clause-sprinted : goal.returns-clause-sprinted
returns-clause-sprinted c t first m h none p =
    let at : ℕ = c.args.at in
    let n : ℕ = c.args.taken in
    let broken = breaks t at first m h n c.args.self.now none p in
    subst (λ (z : Machine). IsSprinted t at true first (let v : Machine = record z { wait = n - 1 } in v)) (sym (c.if-passes_whole.ensures.same refl)) broken
