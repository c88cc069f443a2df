use Rattle.std.proofs.Common.{refl}
use Rattle.avr_decoder.specs.declared.op.Op.TheVariants as op
use Rattle.data_space.specs.Core.{pair_at}
use Rattle.avr_core.specs.FlowShapes.{relative}
use Rattle.avr_core.specs.FlowTable.{flow_effect}
use Rattle.instruction_laws.proofs.Returns.{comes_back}
use Rattle.instruction_laws.proofs.return_law.Goals as goal

pub returns-clause-call : goal.returns-clause-call
unfolding flow_effect
returns-clause-call g c = λ a is_sound first last flash k cpu bus mid bus' stack sound takes.
    comes_back a is_sound first last flash 2 cpu bus mid bus' stack sound takes (op.Call k) 4 (λ _. k) refl

pub returns-clause-relative : goal.returns-clause-relative
unfolding flow_effect
returns-clause-relative g c = λ a is_sound first last flash k cpu bus mid bus' stack sound takes.
    comes_back a is_sound first last flash 1 cpu bus mid bus' stack sound takes (op.Rcall k) 3 (relative k) refl

pub returns-clause-indirect : goal.returns-clause-indirect
unfolding flow_effect
returns-clause-indirect g c = λ a is_sound first last flash cpu bus mid bus' stack sound takes.
    comes_back a is_sound first last flash 1 cpu bus mid bus' stack sound takes op.Icall 3 (pair_at 30) refl
