use Rattle.std.proofs.Common.{◌≡◌}
use Rattle.std.specs.List.{All}
use Rattle.fleet_threads.specs.Member.{IsUnderWay, numbers}
use Rattle.fleet_threads.proofs.threads.rotate.Given as goal

abbrev pub invariant-loop : goal.invariant-loop
invariant-loop g l = record {
  next : (goal.iterator-loop g).can_next l.iterator';
  finite : (goal.iterator-loop g).is_finite l.iterator';
  all : All (IsUnderWay g.N.Session.table g.N.Session.world l.epoch.scenario.now g.N.Session.floor l.epoch.end) l.waiting.items;
  numbers : numbers l.waiting.items ≡ numbers l.fn.waiting.items;
}
