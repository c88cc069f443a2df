use Rattle.std.proofs.Common.{◌≡◌, ◌+◌, ◌∷◌, ◌<◌, length, drop, map, sym, ap, ◌∙◌, arith, inl, inr, ⊎_elim}
use Rattle.std.proofs.lemmas.List.{get_or-map, length-map}
use Rattle.asm_words.specs.Line.{line_of, said}
use Rattle.asm_words.specs.Labels.{label_at}
use Rattle.asm_text.specs.Source.{assembled, assembled_from, label_in, started}
use Rattle.asm_text.proofs.Labels.{from_place}
use Rattle.asm_text.proofs.Steps.{if_err, if_ok, step_on, step_out, step_end, whole}
use Rattle.asm_text.proofs.assembly.assemble.Goals as goal

pub loop-i-preserved : goal.loop-i-preserved
loop-i-preserved c =
    let i = c.loop-i.i in
    let items = c.deref-piece-items.result.now in
    let all = map (λ p. line_of p.now) items in
    let line = said c.read_line.result in
    let lt : i < length items = omega arith in
    let within : i < length all = rw (length-map items (λ p. line_of p.now)) lt in
    let here : drop i all ≡ line ∷ drop (i + 1) all = from_place all i line within (c.read_line.ensures ∙ sym (get_or-map (λ p. line_of p.now) items i _ line lt)) in
    c.loop-i.invariant
    ∙ (ap (λ ls. assembled_from (label_at c.in_ok-labels.labels) i c.loop-i.program ls) here
    ∙ step_on (label_at c.in_ok-labels.labels) i c.loop-i.program c.take.new.self line (drop (i + 1) all) c.in-Ok.ensures.ok)

pub returns-in-Err-clause-err : goal.returns-in-Err-clause-err
returns-in-Err-clause-err c =
    let i = c.loop-i.i in
    let items = c.deref-piece-items.result.now in
    let all = map (λ p. line_of p.now) items in
    let look = label_at c.in_ok-labels.labels in
    let line = said c.read_line.result in
    let lt : i < length items = omega arith in
    let within : i < length all = rw (length-map items (λ p. line_of p.now)) lt in
    let here : drop i all ≡ line ∷ drop (i + 1) all = from_place all i line within (c.read_line.ensures ∙ sym (get_or-map (λ p. line_of p.now) items i _ line lt)) in
    let start : assembled c.args.text.now ≡ assembled_from look 0 started all =
    whole (λ p. p.now) c.args.text.now items look (ap (map (λ p. p.now)) c.deref-piece-items.ensures.value ∙ c.in_ok-pieces.ensures)
    (λ name. c.in_ok-labels.ensures name ∙ ap (λ ps. label_in 0 0 (map (λ p. line_of p.now) ps) name) (c.deref.ensures.value ∙ sym c.deref-piece-items.ensures.value)) in
    ⊎_elim (λ m. inl m)
    (λ w. inr (start ∙ (c.loop-i.invariant ∙ (ap (λ ls. assembled_from look i c.loop-i.program ls) here ∙ step_out look i c.loop-i.program _ line (drop (i + 1) all) w))))
    c.in-Err.ensures.err

pub returns-clause-ok : goal.returns-clause-ok
returns-clause-ok c =
    let i = c.loop-i.i in
    let items = c.deref-piece-items.result.now in
    let all = map (λ p. line_of p.now) items in
    let look = label_at c.in_ok-labels.labels in
    let done : i ≡ length items = omega arith in
    let end : i ≡ length all = done ∙ sym (length-map items (λ p. line_of p.now)) in
    let start : assembled c.args.text.now ≡ assembled_from look 0 started all =
    whole (λ p. p.now) c.args.text.now items look (ap (map (λ p. p.now)) c.deref-piece-items.ensures.value ∙ c.in_ok-pieces.ensures)
    (λ name. c.in_ok-labels.ensures name ∙ ap (λ ps. label_in 0 0 (map (λ p. line_of p.now) ps) name) (c.deref.ensures.value ∙ sym c.deref-piece-items.ensures.value)) in
    if_ok c.finish.result (λ words e. start ∙ (c.loop-i.invariant ∙ (step_end look i i c.loop-i.program all end ∙ e))) c.finish.ensures.ok

pub returns-clause-err : goal.returns-clause-err
returns-clause-err c =
    let i = c.loop-i.i in
    let items = c.deref-piece-items.result.now in
    let all = map (λ p. line_of p.now) items in
    let look = label_at c.in_ok-labels.labels in
    let done : i ≡ length items = omega arith in
    let end : i ≡ length all = done ∙ sym (length-map items (λ p. line_of p.now)) in
    let start : assembled c.args.text.now ≡ assembled_from look 0 started all =
    whole (λ p. p.now) c.args.text.now items look (ap (map (λ p. p.now)) c.deref-piece-items.ensures.value ∙ c.in_ok-pieces.ensures)
    (λ name. c.in_ok-labels.ensures name ∙ ap (λ ps. label_in 0 0 (map (λ p. line_of p.now) ps) name) (c.deref.ensures.value ∙ sym c.deref-piece-items.ensures.value)) in
    if_err c.finish.result (λ fault. ⊎_elim (λ m. inl m) (λ w. inr (start ∙ (c.loop-i.invariant ∙ (step_end look i i c.loop-i.program all end ∙ w))))) c.finish.ensures.err
