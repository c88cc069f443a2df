use Rattle.std.proofs.Common.{◌≡◌}
use Rattle.fleet_threads.specs.Member.{IsUnderWay}
use Rattle.fleet_threads.proofs.threads.work.Given as goal

abbrev pub invariant-loop : goal.invariant-loop
invariant-loop g l = record {
  next : (goal.iterator-loop g).can_next l.iterator';
  finite : (goal.iterator-loop g).is_finite l.iterator';
  member : IsUnderWay g.N.Session.table g.N.Session.world l.epoch.scenario.now g.N.Session.floor l.epoch.end l.member;
  number : l.member.runner.number ≡ l.fn.member.runner.number;
}
