use Rattle.std.proofs.Common.{◌≡◌, ◌++◌, length, ap, ◌∙◌, arith, rules}
use Rattle.avr_disassembler.specs.Text.{shown, operands_text, text_of}
use Rattle.sim_io.proofs.Behind.{behind}
use Rattle.avr_disassembler.proofs.Short.{short}
use Rattle.avr_disassembler.proofs.show.put_text.Goals as goal

pub returns-clause-bytes : goal.returns-clause-bytes
unfolding text_of
returns-clause-bytes g c =
    behind c.args.out.now.bytes c.mnemonic_of.result.now (operands_text c.operands_of.result) c.push_str.ensures.bytes c.put_operands.ensures.bytes
    ∙ (λ i. c.args.out.now.bytes ++ (c.mnemonic_of.ensures i ++ operands_text (c.operands_of.ensures i)))

pub returns-clause-len : goal.returns-clause-len
returns-clause-len g c =
    let few = short c.args.op in
    let mnemonic : length c.mnemonic_of.result.now ≡ length (shown c.args.op).mnemonic = ap length c.mnemonic_of.ensures in
    let first = c.push_str.ensures.len in
    let then = c.put_operands.ensures.len in
    omega (arith, few, mnemonic, first, then)

pub put_operands-requires : goal.put_operands-requires
put_operands-requires g c =
    let few = short c.args.op in
    let mnemonic : length c.mnemonic_of.result.now ≡ length (shown c.args.op).mnemonic = ap length c.mnemonic_of.ensures in
    let first = c.push_str.ensures.len in
    let room = c.requires in
    (search (rules), omega (arith, few, mnemonic, first, room))

pub push_str-requires : goal.push_str-requires
push_str-requires g c =
    let few = short c.args.op in
    let mnemonic : length c.mnemonic_of.result.now ≡ length (shown c.args.op).mnemonic = ap length c.mnemonic_of.ensures in
    let room = c.requires in
    (search (rules), omega (arith, few, mnemonic, room))
