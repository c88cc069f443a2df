use Rattle.std.proofs.Common.{◌≡◌, drop}
use Rattle.state_text.specs.Parts.{read_on}
use Rattle.state_text.proofs.numbers.value.Given as goal

abbrev pub invariant-loop-digit : goal.invariant-loop-digit
invariant-loop-digit l = read_on 0 l.digits ≡ read_on l.value (drop l.digit-index l.digits)
