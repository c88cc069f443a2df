use Rattle.std.proofs.Common.{◌<◌, sym, ◌∙◌, arith}
use Rattle.node_core.specs.declared.machine.Machine.{Machine}
use Rattle.node_core.specs.Pace.Leaps.{LoadsStill}
use Rattle.node_core.proofs.Polls.{bit_round, gives_still, left_still}
use Rattle.node_core.proofs.Sprints.{none_of}
use Rattle.node_core.proofs.machine.Machine.bit_round.Goals as goal

pub returns-then-goes_on_by-clause-same : goal.returns-then-goes_on_by-clause-same
returns-then-goes_on_by-clause-same c =
    let m : Machine = c.args.self.now in
    let h : LoadsStill m.bus c.in-Some.at = c.reads_still.ensures c.if-not-reads_still.false in
    let still = left_still m.bus c.get.new.self c.in-Some.at c.in-Ok.byte h c.in-Ok.ensures.ok in
    λ i. let x : Machine = record m { bus = still i } in x

pub returns-else-goes_on_by-clause-same : goal.returns-else-goes_on_by-clause-same
returns-else-goes_on_by-clause-same c =
    let m : Machine = c.args.self.now in
    let h : LoadsStill m.bus c.in-Some.at = c.reads_still.ensures c.if-not-reads_still.false in
    let still = left_still m.bus c.get.new.self c.in-Some.at c.in-Ok.byte h c.in-Ok.ensures.ok in
    λ i. let x : Machine = record m { bus = still i } in x

pub returns-then-goes_on_by-clause-round : goal.returns-then-goes_on_by-clause-round
returns-then-goes_on_by-clause-round c =
    let m : Machine = c.args.self.now in
    let h : LoadsStill m.bus c.in-Some.at = c.reads_still.ensures c.if-not-reads_still.false in
    let fits : m.cpu.pc < 65536 = omega arith in
    bit_round m c.op-op.result c.in-Some.at c.in-Ok.byte c.op-op.ensures (c.goes_on_by.ensures c.if-goes_on_by.true) c.in-Some.ensures
    (gives_still m.bus c.get.new.self c.in-Some.at c.in-Ok.byte h c.in-Ok.ensures.ok)
    (sym (c.is_jump_by.ensures c.if-not-is_jump_by.false) ∙ c.op.ensures)
    (sym c.due.ensures ∙ none_of c.due.result (sym c.is_some.ensures ∙ c.if-is_some.false)) fits
