use Rattle.std.proofs.Common.{◌≡◌, map}
use Rattle.std.specs.List.{range_with_len}
use Rattle.sample_maker.specs.Sample.{image_of_node}
use Rattle.sample_maker.proofs.sample.images.Given as goal

abbrev pub invariant-loop-k : goal.invariant-loop-k
invariant-loop-k l = l.images.items ≡ map (image_of_node l.number) (range_with_len 0 l.k)
