use Rattle.std.proofs.Common.{◌≡◌, ℕ, ◌+◌, ◌-◌, true, sym, ap, subst, arith}
use Rattle.board_io.specs.Cycle.{board_quiet}
use Rattle.board_io.specs.declared.board.Board.{Board}
use Rattle.avr_base.specs.declared.interrupts.Lines.{Lines}
use Rattle.board_io.proofs.board.Board.ahead.Goals as goal

pub returns-clause-ahead : goal.returns-clause-ahead
returns-clause-ahead c =
    let b : Board = c.args.self.now in
    let t : ℕ = c.args.settled in
    let calm = c.quiet-calm.ensures in
    let same = c.same_lines-same.ensures in
    let some = same.goes_on (omega arith) in
    let early = c.requires in
    let within = calm.within in
    let next = c.same_until-next.ensures.within in
    record {
      settled = omega arith;
      now = c.requires;
      early = omega (arith, early, within, next);
      quiet = λ u from below.
          (let i : ℕ = u - t in
          let here : t + i ≡ u = omega (arith, from) in
          subst (λ (w : ℕ). board_quiet w b ≡ true) here (calm.none i (omega (arith, from, below, next))));
      calm = c.same_until-next.ensures.calm;
      steady = λ i below. same.calm i (omega (arith, below, some));
      past = λ i below. absurd (omega (arith, below));
      lines = ap (λ (l : Lines). l.bits) (sym c.lines-lines.ensures);
      clear = c.clear_until.ensures.within;
      down = c.clear_until.ensures.down;
    }
