use Rattle.std.proofs.Common.{◌≡◌, map}
use Rattle.std.specs.List.{All}
use Rattle.fleet_threads.specs.Run.{IsFirst, air_of}
use Rattle.fleet_threads.proofs.run.add_members.Given as goal

abbrev pub invariant-loop-air : goal.invariant-loop-air
invariant-loop-air l = record {
  airs : map air_of l.members.items ≡ l.yielded;
  first : All (IsFirst l.scenario) l.members.items;
}
