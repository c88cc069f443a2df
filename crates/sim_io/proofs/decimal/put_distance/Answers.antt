use Rattle.std.proofs.Common.{rules, ◌≡◌, ◌+◌, ◌*◌, ◌++◌, ◌<◌, length, ap, ◌∙◌, arith}
use Rattle.arrayvec.specs.ArrayString.{array_string_len}
use Rattle.sim_io.specs.Digits.{offset_text}
use Rattle.sim_io.proofs.Behind.{behind}
use Rattle.sim_io.proofs.Short.{five_digits}
use Rattle.sim_io.proofs.decimal.put_distance.Goals as goal

pub push_str-requires-2 : goal.push_str-requires-2
push_str-requires-2 g c =
    let bound = c.unsigned_abs.ensures.bound in
    let same = c.from.ensures in
    let small : c.from.result * 2 < 100000 = omega (arith, bound, same) in
    let digits = ap length c.format.ensures.text in
    let five = five_digits (c.from.result * 2) small in
    let sign : array_string_len c.push_str.new.self ≡ array_string_len c.args.out.now + 2 = search (rules) in
    let room = c.requires in
    (search (rules), omega (arith, digits, five, sign, room))

-- the test is not named here, so that an edit of it is refused for what it prints
pub returns-clause-bytes : goal.returns-clause-bytes
unfolding offset_text
returns-clause-bytes g c =
    behind c.args.out.now.bytes _ c.format.result.now c.push_str.ensures.bytes c.push_str-2.ensures.bytes
    ∙ ap (λ t. c.args.out.now.bytes ++ t) (search (rules))

pub returns-clause-len : goal.returns-clause-len
returns-clause-len g c =
    let bound = c.unsigned_abs.ensures.bound in
    let same = c.from.ensures in
    let small : c.from.result * 2 < 100000 = omega (arith, bound, same) in
    let digits = ap length c.format.ensures.text in
    let five = five_digits (c.from.result * 2) small in
    let sign : array_string_len c.push_str.new.self ≡ array_string_len c.args.out.now + 2 = search (rules) in
    let last = c.push_str-2.ensures.len in
    omega (arith, digits, five, sign, last)
