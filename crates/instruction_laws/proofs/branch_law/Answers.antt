use Rattle.std.proofs.Common.{ap, not}
use Rattle.avr_core.specs.FlowTable.{flow_effect}
use Rattle.instruction_laws.specs.Branches.{branches}
use Rattle.instruction_laws.proofs.branch_law.Goals as goal

pub returns-clause-lower : goal.returns-clause-lower
unfolding flow_effect
returns-clause-lower g c = λ a flash half m n k cpu bus h. ap (λ on. branches on k cpu bus) h.lower

pub returns-clause-same_or_higher : goal.returns-clause-same_or_higher
unfolding flow_effect
returns-clause-same_or_higher g c = λ a flash half m n k cpu bus h. ap (λ on. branches (not on) k cpu bus) h.lower

pub returns-clause-equal : goal.returns-clause-equal
unfolding flow_effect
returns-clause-equal g c = λ a flash half m n k cpu bus h. ap (λ on. branches on k cpu bus) h.equal

pub returns-clause-not_equal : goal.returns-clause-not_equal
unfolding flow_effect
returns-clause-not_equal g c = λ a flash half m n k cpu bus h. ap (λ on. branches (not on) k cpu bus) h.equal

pub returns-clause-less : goal.returns-clause-less
unfolding flow_effect
returns-clause-less g c = λ a flash half m n k cpu bus h. ap (λ on. branches on k cpu bus) h.less

pub returns-clause-greater_or_equal : goal.returns-clause-greater_or_equal
unfolding flow_effect
returns-clause-greater_or_equal g c = λ a flash half m n k cpu bus h. ap (λ on. branches (not on) k cpu bus) h.less
