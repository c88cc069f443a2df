use Rattle.std.proofs.Common.{◌≡◌, ℕ, sym, subst}
use Rattle.data_space.specs.declared.cpu.Cpu.{Cpu}
use Rattle.node_core.specs.declared.machine.Machine.{Machine}
use Rattle.node_core.specs.Pace.Midway.{IsSprinting, IsStepped, beside, owing}
use Rattle.node_core.proofs.Sprints.{breaks}
use Rattle.node_core.proofs.machine.Machine.end_sprint.Goals as goal

pub returns-then-may_end_before-clause-sprinted : goal.returns-then-may_end_before-clause-sprinted
returns-then-may_end_before-clause-sprinted c t first m h none p =
    let at : ℕ = c.now-at.result in
    let clock : at ≡ c.args.self.now.bus.io.clock = c.now-at.ensures.value in
    let n : ℕ = c.args.taken in
    let w : Machine = record c.args.self.now { cpu = c.of_parts-self.result; owed = c.args.owed } in
    let q = subst (λ (k : Cpu). (let z : Machine = record c.args.self.now { cpu = k; owed = c.args.owed } in IsStepped at n m z)) (sym c.of_parts-self.ensures) (subst (λ (u : ℕ). IsStepped u n m (owing c.args.owed (beside c.args.regs.now c.args.core c.args.self.now))) (sym clock) p) in
    breaks t at first m (subst (λ (u : ℕ). IsSprinting t u first m) (sym clock) h) n w none q

pub returns-clause-sprinted : goal.returns-clause-sprinted
returns-clause-sprinted c t first m h none p =
    let at : ℕ = c.now-at.result in
    let clock : at ≡ c.args.self.now.bus.io.clock = c.now-at.ensures.value in
    let n : ℕ = c.args.taken in
    let q = subst (λ (k : Cpu). (let z : Machine = record c.args.self.now { cpu = k; owed = c.args.owed } in IsStepped at n m z)) (sym c.of_parts-self.ensures) (subst (λ (u : ℕ). IsStepped u n m (owing c.args.owed (beside c.args.regs.now c.args.core c.args.self.now))) (sym clock) p) in
    c.end_executed.ensures.sprinted t first m (subst (λ (u : ℕ). IsSprinting t u first m) (sym clock) h) none q
