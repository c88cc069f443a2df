use Rattle.std.proofs.Common.{sym, subst}
use Rattle.avr_core.proofs.Executes.{Takes, some_takes, takes}
use Rattle.avr_core.proofs.instructions.execute.Goals.{in_default-Some, in_default-None}
use Rattle.avr_core.proofs.instructions.execute.Goals as goal

pub returns-clause-takes : goal.returns-clause-takes
returns-clause-takes g c = elim c.match-told_plain.branch [
  | in_default-Some w ↦ subst Takes (sym w.result-is) (some_takes g.B.Bus.get_gives g.B.Bus.put_gives _ _ _ _ _ _ _ _ w.in_default-Some.is-1 c.told_plain.ensures.some)
  | in_default-None w ↦ subst Takes (sym w.result-is) (takes g.B.Bus.get_gives g.B.Bus.put_gives _ (g.P.ProgramMemory.image c.args.program.now).bytes c.args.op.now _ _ (w.execute_other-result.ensures.outcome (g.P.ProgramMemory.image c.args.program.now).bytes))
]
