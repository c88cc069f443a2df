use Rattle.std.proofs.Common.{◌≡◌, ◌+◌, ◌∷◌, ◌<◌, length, drop, map, sym, ap, ◌∙◌, arith}
use Rattle.std.proofs.lemmas.List.{get_or-map, length-map}
use Rattle.asm_words.specs.Line.{line_of, said}
use Rattle.asm_words.specs.Labels.{label_at}
use Rattle.asm_text.specs.Source.{label_in, or_else}
use Rattle.asm_text.proofs.Labels.{from_place}
use Rattle.asm_text.proofs.source.labels_of.Goals as goal

pub loop-i-preserved : goal.loop-i-preserved
loop-i-preserved c =
    let i = c.loop-i.i in
    let all = map (λ p. line_of p.now) c.args.pieces.now in
    let line = said c.read_line-line.result in
    let lt : i < length c.args.pieces.now = omega arith in
    let within : i < length all = rw (length-map c.args.pieces.now (λ p. line_of p.now)) lt in
    let here : drop i all ≡ line ∷ drop (i + 1) all =
    from_place all i line within (c.read_line-line.ensures ∙ sym (get_or-map (λ p. line_of p.now) c.args.pieces.now i _ line lt)) in
    record {
      low = c.behind-at.ensures.small;
      same = λ name.
          c.loop-i.invariant.same name
          ∙ (ap (λ ls. or_else (label_at c.loop-i.labels name) (label_in i c.loop-i.at ls name)) here
          ∙ (c.in_ok-note_label.ensures (drop (i + 1) all) name
          ∙ ap (λ a. or_else (label_at c.note_label.new.labels name) (label_in (i + 1) a (drop (i + 1) all) name)) (sym c.behind-at.ensures.value)));
    }
