use Rattle.std.proofs.Common.{◌≡◌, length}
use Rattle.air_base.specs.Each.{each_below}
use Rattle.node_runner.specs.Scenario.{fleet_of}
use Rattle.world_core.specs.Order.{run_rows}
use Rattle.run_reports.specs.Profiles.{profile_at, window_of}
use Rattle.run_reports.proofs.profiles.profiles_of.Given as goal

abbrev pub invariant-loop-tally : goal.invariant-loop-tally
invariant-loop-tally l = l.text.items ≡ each_below (length l.yielded) (profile_at (window_of l.network) (run_rows (fleet_of l.network)))
