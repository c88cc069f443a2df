use Rattle.std.proofs.Common.{◌≡◌, take}
use Rattle.world_core.specs.Topology.{greatest}
use Rattle.world_core.proofs.topo.greatest.Given as goal

abbrev pub invariant-loop-n : goal.invariant-loop-n
invariant-loop-n l = l.most ≡ greatest (take l.n-index l.own) l.least
