use Rattle.std.proofs.Common.{ℕ, sym, subst, ap, ◌∙◌}
use Rattle.node_core.specs.declared.machine.Machine.{Machine}
use Rattle.node_core.specs.declared.pace.sprint.Step.{Step}
use Rattle.avr_program.specs.Program.{op_of}
use Rattle.data_space.specs.declared.cpu.Cpu.{Cpu}
use Rattle.data_space.specs.Core.{whole}
use Rattle.ihex_loader.specs.Flash.{Image}
use Rattle.node_core.specs.Pace.Midway.{IsStep, over, step_of}
use Rattle.avr_core.proofs.Lefts.{told}
use Rattle.node_core.specs.Bus.{bus_get, bus_put}
use Rattle.node_core.proofs.Steps.{did, leaves_devices, leaves_flag}
use Rattle.node_core.proofs.pace.sprint.one_step.Goals as goal

pub returns-clause-step : goal.returns-clause-step
returns-clause-step c first same may untold =
    let e = told bus_get bus_put c.args.program.now.bytes c.op_at-op.result.now (whole c.args.regs.now c.args.core.now) c.args.bus.now _ c.execute_plain-after.ensures in
    let x = c.execute_plain-after.new in
    let a = c.args in
    let m : Machine = over a.regs.now a.core.now a.bus.now a.count.now first in
    let t : ℕ = a.bus.now.io.clock in
    let o = c.execute_plain-after.result in
    let fetched = c.op_at-op.ensures ∙ ap (λ (p : Image). op_of p.bytes a.core.now.pc) (sym same) in
    let there = did t m c.op_at-op.result.now fetched may untold (whole x.regs x.core) x.bus c.args.program.now.bytes (ap (λ (p : Image). p.bytes) (sym same))
    o.0 o.1 e.0 e.1 e.2 e.3 in
    subst (λ (k : Step). IsStep t k m (over x.regs x.core x.bus c.told.new.count first)) (sym c.told.ensures.step)
    (subst (λ (n : ℕ). IsStep t (step_of o.0 o.1) m (over x.regs x.core x.bus n first)) (sym c.told.ensures.count) there)

pub returns-clause-flag : goal.returns-clause-flag
returns-clause-flag c =
    let e = told bus_get bus_put c.args.program.now.bytes c.op_at-op.result.now (whole c.args.regs.now c.args.core.now) c.args.bus.now _ c.execute_plain-after.ensures in
    let x = c.execute_plain-after.new in
    let a = c.args in
    let o = c.execute_plain-after.result in
    let from : Cpu = whole a.regs.now a.core.now in
    leaves_flag c.args.program.now.bytes c.op_at-op.result.now from (whole x.regs x.core) a.bus.now x.bus o.0 o.1 e.0 e.2 c.told.result c.told.ensures.step

pub returns-clause-apart : goal.returns-clause-apart
returns-clause-apart c =
    let e = told bus_get bus_put c.args.program.now.bytes c.op_at-op.result.now (whole c.args.regs.now c.args.core.now) c.args.bus.now _ c.execute_plain-after.ensures in
    let x = c.execute_plain-after.new in
    let a = c.args in
    let o = c.execute_plain-after.result in
    let from : Cpu = whole a.regs.now a.core.now in
    leaves_devices c.args.program.now.bytes c.op_at-op.result.now from (whole x.regs x.core) a.bus.now x.bus o.0 o.1 e.0 e.2 c.told.result c.told.ensures.step
