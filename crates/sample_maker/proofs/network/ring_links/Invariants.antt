use Rattle.std.proofs.Common.{◌≡◌, map}
use Rattle.std.specs.List.{range_with_len}
use Rattle.sample_maker.specs.Network.{link_from}
use Rattle.sample_maker.proofs.network.ring_links.Given as goal

abbrev pub invariant-loop-k : goal.invariant-loop-k
invariant-loop-k l = l.links.items ≡ map (link_from l.nodes) (range_with_len 0 l.k)
