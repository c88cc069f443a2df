use Rattle.std.proofs.Common.{◌≡◌, ◌≤◌, drop}
use Rattle.asm_words.specs.Number.{digits_from}
use Rattle.asm_words.proofs.number.digits.Given as goal

abbrev pub invariant-loop-b : goal.invariant-loop-b
invariant-loop-b l = record {
  small : l.value ≤ 65536;
  rest : digits_from l.base 0 l.text ≡ digits_from l.base l.value (drop l.b-index l.text);
}
