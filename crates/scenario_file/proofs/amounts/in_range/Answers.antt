use Rattle.std.proofs.Common.{rules}
use Rattle.toml.specs.View.{table_view}
use Rattle.scenario_file.proofs.Held.{in_range_is}
use Rattle.scenario_file.proofs.amounts.in_range.Goals as goal

pub returns : goal.returns
returns c = rw (← in_range_is c.args.version (table_view c.args.table.now)) (search rules)
