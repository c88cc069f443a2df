use Rattle.std.proofs.Common.{◌≡◌}
use Rattle.std.specs.Prelude.{vec_capacity}
use Rattle.world_core.proofs.Building.{Built}
use Rattle.world_core.proofs.ways.chained.Given as goal

abbrev pub invariant-loop-place : goal.invariant-loop-place
invariant-loop-place l = record {
  built : Built l.sends l.ways.items l.last l.place;
  capacity : vec_capacity l.ways ≡ vec_capacity l.fn.ways;
}
