use Rattle.std.proofs.Common.{◌≡◌, drop, map}
use Rattle.asm_words.specs.Line.{line_of}
use Rattle.asm_words.specs.Labels.{label_at}
use Rattle.asm_text.specs.Source.{assembled_from, started}
use Rattle.asm_text.proofs.assembly.assemble.Given as goal

abbrev pub invariant-loop-i : goal.invariant-loop-i
invariant-loop-i l =
    assembled_from (label_at l.labels) 0 started (map (λ p. line_of p.now) l.piece-items)
    ≡ assembled_from (label_at l.labels) l.i l.program (drop l.i (map (λ p. line_of p.now) l.piece-items))
