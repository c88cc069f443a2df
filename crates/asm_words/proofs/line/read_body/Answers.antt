use Rattle.std.proofs.Common.{◌≡◌, ◌∙◌, ◌-◌, sym, ap, arith, drop, length, take, take_all, Some}
use Rattle.std.proofs.lemmas.List.{length-drop}
use Rattle.asm_words.specs.Line.{Code, instruction_of}
use Rattle.asm_words.proofs.Bodies.{code_is}
use Rattle.asm_words.proofs.line.read_body.Goals as goal

pub returns-in-Some : goal.returns-in-Some
returns-in-Some c =
    let body = c.args.body.now in
    let e = c.split_instruction.ensures in
    let whole : take (length body - 5) (drop 5 body) ≡ drop 5 body = let n = length-drop 5 body in take_all (length body - 5) (drop 5 body) (omega (arith, n)) in
    (λ i. Code (e.address i) (e.mnemonic i) (e.operands i)) ∙ ap (λ t. Code (Some c.in-Some.at) (instruction_of t).0 (instruction_of t).1) whole
    ∙ code_is body _ _ c.if-not-is_printed_text.ensures c.if-is_empty.ensures c.place_of.ensures.value c.if-is_some.ensures (sym c.address.ensures.value ∙ c.in-Some.is)

pub returns-in-None : goal.returns-in-None
returns-in-None c =
    let e = c.split_instruction-in-None.ensures in
    (λ i. Code (e.address i) (e.mnemonic i) (e.operands i)) ∙ code_is c.args.body.now _ _ c.if-not-is_printed_text.ensures c.if-is_empty.ensures c.place_of.ensures.value c.if-is_some.ensures (sym c.address.ensures.value ∙ c.in-None.is)
