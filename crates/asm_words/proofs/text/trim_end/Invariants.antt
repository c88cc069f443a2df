use Rattle.std.proofs.Common.{◌≡◌, ◌≤◌, length}
use Rattle.asm_words.specs.Text.{trimmed}
use Rattle.asm_words.proofs.text.trim_end.Given as goal

abbrev pub decreases-loop-n : goal.decreases-loop-n
decreases-loop-n l = l.n

abbrev pub invariant-loop-n : goal.invariant-loop-n
invariant-loop-n l = record {
  within : l.n ≤ length l.text;
  same : trimmed l.n l.text ≡ trimmed (length l.text) l.text;
}
