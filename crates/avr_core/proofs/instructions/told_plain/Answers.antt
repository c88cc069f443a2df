use Rattle.avr_core.proofs.Lefts.{told}
use Rattle.avr_core.proofs.instructions.told_plain.Goals as goal

pub returns-clause-which : goal.returns-clause-which
returns-clause-which g c = (told g.B.Bus.get_gives g.B.Bus.put_gives (g.P.ProgramMemory.image c.args.program.now).bytes c.args.op.now _ _ _ c.execute_plain.ensures).1

pub returns-clause-some : goal.returns-clause-some
returns-clause-some g c = (told g.B.Bus.get_gives g.B.Bus.put_gives (g.P.ProgramMemory.image c.args.program.now).bytes c.args.op.now _ _ _ c.execute_plain.ensures).2

pub returns-clause-none : goal.returns-clause-none
returns-clause-none g c = (told g.B.Bus.get_gives g.B.Bus.put_gives (g.P.ProgramMemory.image c.args.program.now).bytes c.args.op.now _ _ _ c.execute_plain.ensures).3
