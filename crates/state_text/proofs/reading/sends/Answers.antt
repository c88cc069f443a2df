use Rattle.std.proofs.Common.{Ok, ◌++◌, sym, ap, ◌∙◌}
use Rattle.std.proofs.lemmas.Result.{err_from_is_err_and}
use Rattle.std.proofs.lemmas.List.{append-nil}
use Rattle.state_text.proofs.Loops.{with_sends, fails_on, line_fails, over_fails, send_fails, sends_end, one_send}
use Rattle.state_text.proofs.reading.sends.Goals as goal

pub returns-in_err-line : goal.returns-in_err-line
returns-in_err-line c =
    let p = err_from_is_err_and c.from_residual.result c.from_residual.ensures.1 in
    rw (p.1, p.2) (fails_on _ (λ xs. c.loop-sends.sends.items ++ xs) _ _ (line_fails _ c.args.topo.now c.args.cycle c.loop-sends.before c.loop-sends.lines c.in_err-line.ensures) c.loop-sends.invariant)

pub returns-in_err-over : goal.returns-in_err-over
returns-in_err-over c =
    let p = err_from_is_err_and c.from_residual-in_err-over.result c.from_residual-in_err-over.ensures.1 in
    rw (p.1, p.2) (fails_on _ (λ xs. c.loop-sends.sends.items ++ xs) _ _ (over_fails _ c.args.topo.now c.args.cycle c.loop-sends.before c.loop-sends.lines c.in_ok-line.line.now c.next_line.new.self c.in_ok-line.ensures (sym c.is_text.ensures ∙ c.if-is_text.true) c.in_err-over.ensures) c.loop-sends.invariant)

pub returns-then-is_text : goal.returns-then-is_text
returns-then-is_text c =
    let e = sends_end c.args.topo.now c.args.cycle c.loop-sends.before c.loop-sends.lines c.in_ok-line.line.now c.next_line.new.self c.in_ok-line.ensures (sym c.is_text.ensures ∙ c.if-is_text.true) in
    sym c.loop-sends.invariant ∙ (ap (with_sends c.loop-sends.sends.items) (e ∙ c.in_ok-over.ensures) ∙ ap Ok (append-nil c.loop-sends.sends.items))

pub returns-in_err-send : goal.returns-in_err-send
returns-in_err-send c =
    let p = err_from_is_err_and c.from_residual-in_err-send.result c.from_residual-in_err-send.ensures.1 in
    let number = c.number-number.ensures in
    let failed = rw number at c.in_err-send.ensures in
    rw (p.1, p.2) (fails_on _ (λ xs. c.loop-sends.sends.items ++ xs) _ _ (send_fails _ c.args.topo.now c.args.cycle c.loop-sends.before c.loop-sends.lines c.in_ok-line.line.now c.next_line.new.self c.in_ok-line.ensures (sym c.is_text.ensures ∙ c.if-is_text.false) failed) c.loop-sends.invariant)

pub loop-sends-preserved : goal.loop-sends-preserved
loop-sends-preserved c =
    let number = c.number-number.ensures in
    rw c.in_ok-push.ensures.items (one_send c.args.topo.now c.args.cycle c.loop-sends.before c.loop-sends.lines c.in_ok-line.line.now c.next_line.new.self c.loop-sends.sends.items c.in_ok-send.send _ c.in_ok-line.ensures (sym c.is_text.ensures ∙ c.if-is_text.false) (rw number at c.in_ok-send.ensures) c.loop-sends.invariant)
