use Rattle.std.proofs.Common.{◌<◌, ◌≤◌, ◌≡◌, true, length, rules, arith}
use Rattle.std.specs.Char.{is_ascii_digit}
use Rattle.std.specs.List.{list_all}
use Rattle.command_words.proofs.Digits.{read_few}
use Rattle.command_words.proofs.operands.number.Goals as goal

-- digits are read, so `parse` answers no error
pub returns-in-Err-clause-value : goal.returns-in-Err-clause-value
returns-in-Err-clause-value c =
    let word = c.args.word.now in
    let digits : list_all is_ascii_digit word ≡ true = search rules in
    let some : 0 < length word = search rules in
    let few : length word ≤ 13 = omega arith in
    let read = read_few word c.parse.result c.parse.ensures.value.0 digits some few in
    absurd (cc (read, c.in-Err.is))
