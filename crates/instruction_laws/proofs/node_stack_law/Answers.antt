use Rattle.std.proofs.Common.{refl}
use Rattle.avr_decoder.specs.declared.op.Op.TheVariants as op
use Rattle.data_space.specs.Core.{pair_at}
use Rattle.avr_core.specs.FlowShapes.{relative}
use Rattle.avr_core.specs.FlowTable.{flow_effect}
use Rattle.avr_core.specs.Execute.{executed_over}
use Rattle.instruction_laws.proofs.NodeStack.{comes_back, push_pop}
use Rattle.instruction_laws.proofs.node_stack_law.Goals as goal

pub returns-clause-push : goal.returns-clause-push
unfolding executed_over
returns-clause-push c = λ flash r d cpu bus io sound. push_pop flash cpu bus io sound r d

pub returns-clause-call : goal.returns-clause-call
unfolding executed_over flow_effect
returns-clause-call c = λ flash k cpu bus sound within io. comes_back flash cpu bus io sound 2 within (op.Call k) 4 (λ _. k) refl

pub returns-clause-relative : goal.returns-clause-relative
unfolding executed_over flow_effect
returns-clause-relative c = λ flash k cpu bus sound within io. comes_back flash cpu bus io sound 1 within (op.Rcall k) 3 (relative k) refl

pub returns-clause-indirect : goal.returns-clause-indirect
unfolding executed_over flow_effect
returns-clause-indirect c = λ flash cpu bus sound within io. comes_back flash cpu bus io sound 1 within op.Icall 3 (pair_at 30) refl
