use Rattle.std.proofs.Common.{◌≡◌, ◌-◌, ◌≤◌, []}
use Rattle.sim_io.proofs.Pages.{Stands}
use Rattle.changes_text.specs.Line.{changes_text}
use Rattle.fleet_flight.specs.Origin.{flown}
use Rattle.fleet_flight.specs.Shadows.{IsWatching, groups_of}
use Rattle.fleet_flight.specs.Watched.{watched}
use Rattle.commands.proofs.watching.write_changes.Given as goal

abbrev pub invariant-loop-watching : goal.invariant-loop-watching
invariant-loop-watching g l = record {
  from : l.watching.from ≡ l.fn.watching.from;
  watching : IsWatching (g.B.Begins.origin l.watching.from) l.watching.floor l.watching.nodes.items l.watching.log.sends l.watching.shadows.items;
  within : l.watching.floor ≤ l.to;
  stands : Stands (g.O.Sink.taken l.fn.out)
      (changes_text (watched (flown (g.B.Begins.origin l.fn.watching.from)) (groups_of l.fn.watching.shadows.items) l.fn.watching.floor l.to))
      (changes_text (watched (flown (g.B.Begins.origin l.watching.from)) (groups_of l.watching.shadows.items) l.watching.floor l.to))
      (g.O.Sink.taken l.out) [];
  count : g.O.Sink.faults l.out ≡ g.O.Sink.faults l.fn.out;
}

abbrev pub decreases-loop-watching : goal.decreases-loop-watching
decreases-loop-watching g l = l.to - l.watching.floor
