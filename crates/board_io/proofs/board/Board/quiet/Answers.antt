use Rattle.std.proofs.Common.{◌≡◌, ℕ, ◌<◌, ◌+◌, true, ap, sym, ◌∙◌, subst, arith, inl, inr}
use Rattle.std.proofs.lemmas.Bool.{cases_lt}
use Rattle.board_io.specs.Passing.{is_at}
use Rattle.board_io.proofs.Steady.{loud_at, loud_too, quiet_at}
use Rattle.board_io.proofs.board.Board.quiet.Goals as goal

pub returns-clause-none : goal.returns-clause-none
returns-clause-none c i l =
    let within = c.cycles_before.ensures.within in
    quiet_at (c.args.cycle + i) c.args.self.now
    (ap (λ o. is_at o (c.args.cycle + i)) (sym c.next_event.ensures) ∙ c.cycles_before-frame.ensures.none i (omega (arith, within, l)))
    (ap (λ o. is_at o (c.args.cycle + i)) (sym c.done_at.ensures) ∙ c.cycles_before.ensures.none i l)

pub returns-clause-first : goal.returns-clause-first
returns-clause-first c l =
    let n : ℕ = c.cycles_before.result in
    let frame : ℕ = c.cycles_before-frame.result in
    let within = c.cycles_before.ensures.within in
    elim (cases_lt n frame) [
      | inl less ↦ loud_too (c.args.cycle + n) c.args.self.now (ap (λ o. is_at o (c.args.cycle + n)) (sym c.done_at.ensures) ∙ c.cycles_before.ensures.first less)
      | inr more ↦ (let same : frame ≡ n = omega (arith, within, more) in
          let below : frame < c.args.most = omega (arith, same, l) in
          let ends = subst (λ (m : ℕ). is_at c.next_event.result (c.args.cycle + m) ≡ true) same (c.cycles_before-frame.ensures.first below) in
          loud_at (c.args.cycle + n) c.args.self.now (ap (λ o. is_at o (c.args.cycle + n)) (sym c.next_event.ensures) ∙ ends))
    ]
