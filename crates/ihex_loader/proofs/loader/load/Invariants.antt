use Rattle.std.proofs.Common.{◌≡◌, [], length, take, drop}
use Rattle.ihex_loader.specs.Image.{lines_of, first_fault}
use Rattle.ihex_loader.specs.Pass.{StandsFor}
use Rattle.ihex_loader.proofs.loader.load.Given as goal

abbrev pub invariant-loop-text : goal.invariant-loop-text
invariant-loop-text l = record {
  can : (goal.iterator-loop-text).can_next l.text-iterator;
  finite : (goal.iterator-loop-text).is_finite l.text-iterator;
  count : l.number ≡ length l.yielded;
  stands : StandsFor (take (length l.yielded) (lines_of l.bytes)) l.loader;
  fault : first_fault [] (lines_of l.bytes) ≡ first_fault (take (length l.yielded) (lines_of l.bytes)) (drop (length l.yielded) (lines_of l.bytes));
}
