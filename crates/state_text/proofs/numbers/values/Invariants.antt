use Rattle.std.proofs.Common.{◌≡◌, ◌+◌, ◌++◌, true, length, take}
use Rattle.std.specs.Prelude.{map}
use Rattle.std.specs.List.{list_all}
use Rattle.state_text.specs.Parts.{is_decimal, value}
use Rattle.state_text.specs.Reading.{fits_word}
use Rattle.state_text.proofs.numbers.values.Given as goal

abbrev pub invariant-loop-place : goal.invariant-loop-place
invariant-loop-place g l = record {
  decimals : list_all is_decimal l.parts ≡ true;
  many : l.place + length l.parts ≡ g.row.N;
  long : length l.numbers ≡ g.row.N;
  fit : list_all fits_word l.fn.parts ≡ list_all fits_word l.parts;
  values : take l.place l.numbers ++ map value l.parts ≡ map value l.fn.parts;
}
