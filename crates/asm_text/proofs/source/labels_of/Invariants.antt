use Rattle.std.proofs.Common.{◌≡◌, ◌≤◌, ℕ, List, drop, map}
use Rattle.asm_words.specs.Line.{line_of}
use Rattle.asm_words.specs.Labels.{label_at}
use Rattle.asm_text.specs.Source.{label_in, or_else}
use Rattle.asm_text.proofs.source.labels_of.Given as goal

abbrev pub invariant-loop-i : goal.invariant-loop-i
invariant-loop-i l = record {
  low : l.at ≤ 65536;
  same : (name : List ℕ) → label_in 0 0 (map (λ p. line_of p.now) l.pieces) name ≡ or_else (label_at l.labels name) (label_in l.i l.at (drop l.i (map (λ p. line_of p.now) l.pieces)) name);
}
