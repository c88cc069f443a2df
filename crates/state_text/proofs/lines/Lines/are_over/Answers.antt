use Rattle.std.proofs.Common.{ap, sym, ◌∙◌}
use Rattle.state_text.specs.Reading.{Place}
use Rattle.state_text.proofs.Pieces.{none_left, left_none}
use Rattle.state_text.proofs.lines.Lines.are_over.Goals as goal

pub returns : goal.returns
returns c =
    let pieces = ap (λ (at : Place). at.pieces) (sym c.self.view_is) in (
      λ yes. pieces ∙ left_none c.self.inside.rest.now (sym c.is_empty.ensures ∙ yes),
      λ over. c.is_empty.ensures ∙ none_left c.self.inside.rest.now (sym pieces ∙ over),
    )
