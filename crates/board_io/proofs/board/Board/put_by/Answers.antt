use Rattle.std.proofs.Common.{sym, subst}
use Rattle.board_io.specs.declared.rules.Rule.{Rule}
use Rattle.board_io.specs.Registers.{IsPut, put_by}
use Rattle.board_io.proofs.board.Board.put_by.Goals as goal

pub returns-in-Guarded : goal.returns-in-Guarded
returns-in-Guarded c =
    subst (λ (r : Rule). IsPut (put_by c.args.clock r c.args.self.now c.args.at c.args.x) c.args.self.now c.put_guarded.result c.put_guarded.new.self) (sym c.in-Guarded.is)
    (c.put_guarded.ensures c.args.clock)

pub returns-in-CpuControl : goal.returns-in-CpuControl
returns-in-CpuControl c =
    subst (λ (r : Rule). IsPut (put_by c.args.clock r c.args.self.now c.args.at c.args.x) c.args.self.now c.put_cpu_control.result c.put_cpu_control.new.self) (sym c.in-CpuControl.is)
    (c.put_cpu_control.ensures c.args.clock)
