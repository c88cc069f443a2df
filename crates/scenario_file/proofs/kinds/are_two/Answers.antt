use Rattle.std.proofs.Common.{sym}
use Rattle.toml.specs.View.{view}
use Rattle.scenario_file.proofs.Lists.{two_above, two_below}
use Rattle.scenario_file.proofs.kinds.are_two.Goals as goal

pub returns-in_default : goal.returns-in_default
returns-in_default c = sym (two_below view c.args.values.now c.in_default.len_below)

pub returns-in_default-2 : goal.returns-in_default-2
returns-in_default-2 c = sym (two_above view c.args.values.now c.in_default.len_at_least)
