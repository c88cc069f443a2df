use Rattle.std.proofs.Common.{◌≡◌, take}
use Rattle.world_core.specs.Heard.{heard_from, age_of}
use Rattle.world_core.proofs.NodeByNode.{among}
use Rattle.world_core.proofs.listen.listen.Given as goal

abbrev pub invariant-loop-from : goal.invariant-loop-from
invariant-loop-from l = l.so_far ≡ heard_from (age_of l.topo l.node l.cycle) (among l.topo l.sends l.node l.cycle (take l.from-index l.from-items))
