use Rattle.std.proofs.Common.{◌≡◌, ◌*◌, take, length}
use Rattle.ihex_loader.specs.Flash.{bytes_of_words}
use Rattle.ihex_loader.proofs.flash.bytes_of.Given as goal

-- the bytes of the words so far
abbrev pub invariant-loop-word : goal.invariant-loop-word
invariant-loop-word l = record {
  len : length l.bytes.items ≡ 2 * l.word-index;
  bytes : l.bytes.items ≡ bytes_of_words (take l.word-index l.words);
}
