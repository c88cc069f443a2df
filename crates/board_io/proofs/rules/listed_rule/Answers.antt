use Rattle.std.proofs.Common.{get_or, ap, ◌∙◌}
use Rattle.board_io.specs.declared.rules.Rule.TheVariants.{Reserved}
use Rattle.board_io.specs.declared.rules.TheConstants.{RULES}
use Rattle.board_io.proofs.Agree.{rule_is}
use Rattle.board_io.proofs.rules.listed_rule.Goals as goal

pub returns : goal.returns
returns c = ap (λ i. get_or RULES i Reserved) c.from.ensures ∙ rule_is c.args.at c.requires
