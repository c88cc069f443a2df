use Rattle.std.proofs.Common.{◌≡◌, ℕ, None, refl, ap, sym, ◌∙◌}
use Rattle.avr_base.specs.Lines.{lowest_line, pending_of, vector_of}
use Rattle.node_core.proofs.processor.pending.Goals as goal

none_set : None ≡ vector_of (lowest_line 0)
unfolding lowest_line
none_set = refl

pub returns-then-lines-eq0 : goal.returns-then-lines-eq0
returns-then-lines-eq0 c =
    none_set ∙ (ap (λ (bits : ℕ). vector_of (lowest_line bits)) (sym c.if-lines-eq0.true) ∙ ap pending_of c.lines-lines.ensures)

pub returns : goal.returns
returns c = c.pending.ensures.value ∙ ap pending_of c.lines-lines.ensures
