use Rattle.std.proofs.Common.{ap, sym, refl, arith}
use Rattle.avr_base.specs.Lines.{vector_of}
use Rattle.avr_base.proofs.Lowest.{clear-below, lowest-found, lowest-none, not-clear}
use Rattle.avr_base.proofs.interrupts.pending.Goals as goal

pub returns-then-first-lt34-clause-value : goal.returns-then-first-lt34-clause-value
returns-then-first-lt34-clause-value c = sym (ap vector_of (lowest-found c.args.lines.bits _ (omega arith) refl c.if-first-lt34.true))

pub returns-then-first-lt34-clause-none : goal.returns-then-first-lt34-clause-none
returns-then-first-lt34-clause-none c = (λ none. (cc), λ clear. absurd (not-clear c.args.lines.bits _ (omega arith) refl c.if-first-lt34.true clear))

pub returns-else-first-lt34-clause-value : goal.returns-else-first-lt34-clause-value
returns-else-first-lt34-clause-value c = sym (ap vector_of (lowest-none c.args.lines.bits _ (omega arith) refl c.if-first-lt34.false))

pub returns-else-first-lt34-clause-none : goal.returns-else-first-lt34-clause-none
returns-else-first-lt34-clause-none c = (λ none n from to. clear-below c.args.lines.bits _ n (omega arith) refl from (omega arith), λ clear. refl)
