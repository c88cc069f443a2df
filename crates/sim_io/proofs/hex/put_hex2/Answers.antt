use Rattle.std.proofs.Common.{◌++◌, ◌∷◌, [], length, length-append, ap, rules, ◌∙◌, arith}
use Rattle.std.proofs.lemmas.Str.Ascii.{encode_ascii}
use Rattle.sim_io.specs.Digits.{hex2}
use Rattle.sim_io.proofs.Behind.{behind}
use Rattle.sim_io.proofs.hex.put_hex2.Goals as goal

pub push-requires : goal.push-requires
push-requires g c =
    let one = ap length (encode_ascii c.hex_digit.result c.hex_digit.ensures.ascii) in
    let room = c.requires in
    (search (rules), omega (arith, one, room))

pub push-requires-2 : goal.push-requires-2
push-requires-2 g c =
    let first = ap length (c.push.ensures.ascii c.hex_digit.ensures.ascii) ∙ length-append c.args.out.now.bytes (c.hex_digit.result ∷ []) in
    let one = ap length (encode_ascii c.hex_digit-2.result c.hex_digit-2.ensures.ascii) in
    let room = c.requires in
    (search (rules), omega (arith, first, one, room))

pub returns-clause-bytes : goal.returns-clause-bytes
unfolding hex2
returns-clause-bytes g c =
    behind _ _ _ (c.push.ensures.ascii c.hex_digit.ensures.ascii) (c.push-2.ensures.ascii c.hex_digit-2.ensures.ascii)
    ∙ (λ i. c.args.out.now.bytes ++ (c.hex_digit.ensures.value i ∷ c.hex_digit-2.ensures.value i ∷ []))

pub returns-clause-len : goal.returns-clause-len
returns-clause-len g c =
    let first = ap length (c.push.ensures.ascii c.hex_digit.ensures.ascii) ∙ length-append c.args.out.now.bytes (c.hex_digit.result ∷ []) in
    let second = ap length (c.push-2.ensures.ascii c.hex_digit-2.ensures.ascii) ∙ length-append c.push.new.self.bytes (c.hex_digit-2.result ∷ []) in
    omega (arith, first, second)
