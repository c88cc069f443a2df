use Rattle.std.proofs.Common.{refl, sym}
use Rattle.state_text.proofs.Taken.{cycle_taken}
use Rattle.state_text.proofs.reading.cycle.Goals as goal

pub returns-clause-exact : goal.returns-clause-exact
returns-clause-exact c =
    let number = c.number-number.ensures in
    let parts = c.of-parts.ensures in
    let word = rw (number, parts) at c.in_ok-word.ensures in
    let ns = rw number at c.in_ok-numbers.ensures in
    cycle_taken _ _ _ _ _ _ _ c.in_ok-next_line.ensures word ns refl (sym c.if-not-is_cut.ensures.value)
