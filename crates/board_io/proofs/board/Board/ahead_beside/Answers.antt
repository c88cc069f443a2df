use Rattle.std.proofs.Common.{◌≡◌, ℕ, ◌+◌, ◌-◌, true, inl, inr, sym, ap, subst, arith}
use Rattle.std.proofs.lemmas.Bool.{cases_lt}
use Rattle.board_io.specs.Cycle.{board_quiet}
use Rattle.board_io.specs.declared.board.Board.{Board}
use Rattle.avr_base.specs.declared.interrupts.Lines.{Lines}
use Rattle.board_io.proofs.board.Board.ahead_beside.Goals as goal

pub returns-clause-ahead : goal.returns-clause-ahead
returns-clause-ahead c =
    let b : Board = c.args.self.now in
    let t : ℕ = c.args.clock in
    let quiet = c.quiet-calm.ensures in
    let within = quiet.within in
    let settled = c.requires.settled in
    let now = c.requires.now in
    let early = c.requires.early in
    record {
      settled = settled;
      now = now;
      early = omega (arith, early, within, now);
      quiet = λ u from below.
          (let i : ℕ = u - t in
          let here : t + i ≡ u = omega (arith, from) in
          subst (λ (w : ℕ). board_quiet w b ≡ true) here (quiet.none i (omega (arith, from, below))));
      calm = λ i below. elim (cases_lt (c.args.before.settled + i) t) [
        | inl passed ↦ c.requires.past i passed
        | inr from ↦ c.requires.calm i (omega (arith, below, within, from))
      ];
      past = c.requires.past;
      steady = c.requires.steady;
      lines = ap (λ (l : Lines). l.bits) (sym c.lines-lines.ensures);
      clear = c.clear_until.ensures.within;
      down = c.clear_until.ensures.down;
    }
