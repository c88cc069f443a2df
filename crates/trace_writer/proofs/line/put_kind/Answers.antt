use Rattle.std.proofs.Common.{◌++◌, ap, sym, ◌∙◌, arith}
use Rattle.std.specs.Prelude.{codes, decimal}
use Rattle.avr_base.specs.Causes.{cause_text}
use Rattle.sim_io.specs.Digits.{hex2, hex4}
use Rattle.trace_writer.specs.Line.{kind_text, state_text}
use Rattle.sim_io.proofs.Behind.{behind}
use Rattle.trace_writer.proofs.line.put_kind.Goals as goal

pub returns-in-Enter-clause-bytes : goal.returns-in-Enter-clause-bytes
unfolding kind_text
returns-in-Enter-clause-bytes g c =
    let e1 = behind c.args.page.now.bytes (codes "enter ") (hex4 c.in-Enter.vector) c.push_str-in-Enter.ensures.bytes c.put_hex4.ensures.bytes in
    let e2 = behind c.args.page.now.bytes (codes "enter " ++ hex4 c.in-Enter.vector) (codes " ") e1 c.push_str-in-Enter-2.ensures.bytes in
    behind c.args.page.now.bytes (codes "enter " ++ hex4 c.in-Enter.vector ++ codes " ") (hex4 c.in-Enter.back) e2 c.put_hex4-in-Enter.ensures.bytes
    ∙ ap (λ k. c.args.page.now.bytes ++ kind_text k) (sym c.in-Enter.is)

pub returns-in-Enter-clause-len : goal.returns-in-Enter-clause-len
returns-in-Enter-clause-len g c =
    let l0 = c.push_str-in-Enter.ensures.len in
    let l1 = c.put_hex4.ensures.len in
    let l2 = c.push_str-in-Enter-2.ensures.len in
    let l3 = c.put_hex4-in-Enter.ensures.len in
    omega (arith, l0, l1, l2, l3)

pub returns-in-Serial-clause-bytes : goal.returns-in-Serial-clause-bytes
unfolding kind_text
returns-in-Serial-clause-bytes g c =
    behind _ _ _ c.push_str-in-Serial.ensures.bytes c.put_hex2.ensures.bytes
    ∙ ap (λ k. c.args.page.now.bytes ++ kind_text k) (sym c.in-Serial.is)

pub returns-in-Serial-clause-len : goal.returns-in-Serial-clause-len
returns-in-Serial-clause-len g c =
    let l0 = c.push_str-in-Serial.ensures.len in
    let l1 = c.put_hex2.ensures.len in
    omega (arith, l0, l1)

pub returns-in-Sent-clause-bytes : goal.returns-in-Sent-clause-bytes
unfolding kind_text
returns-in-Sent-clause-bytes g c =
    behind _ _ _ c.push_str-in-Sent.ensures.bytes c.put_hex2-in-Sent.ensures.bytes
    ∙ ap (λ k. c.args.page.now.bytes ++ kind_text k) (sym c.in-Sent.is)

pub returns-in-Sent-clause-len : goal.returns-in-Sent-clause-len
returns-in-Sent-clause-len g c =
    let l0 = c.push_str-in-Sent.ensures.len in
    let l1 = c.put_hex2-in-Sent.ensures.len in
    omega (arith, l0, l1)

pub returns-in-Heard-clause-bytes : goal.returns-in-Heard-clause-bytes
unfolding kind_text
returns-in-Heard-clause-bytes g c =
    let e1 = behind c.args.page.now.bytes (codes "heard ") (decimal c.in-Heard.heard.status) c.push_str-in-Heard.ensures.bytes c.put_decimal.ensures.bytes in
    let e2 = behind c.args.page.now.bytes (codes "heard " ++ decimal c.in-Heard.heard.status) (codes " ") e1 c.push_str-in-Heard-2.ensures.bytes in
    let e3 = behind c.args.page.now.bytes (codes "heard " ++ decimal c.in-Heard.heard.status ++ codes " ") (hex2 c.in-Heard.heard.byte) e2 c.put_hex2-in-Heard.ensures.bytes in
    let e4 = behind c.args.page.now.bytes (codes "heard " ++ decimal c.in-Heard.heard.status ++ codes " " ++ hex2 c.in-Heard.heard.byte) (codes " ") e3 c.push_str-in-Heard-3.ensures.bytes in
    behind c.args.page.now.bytes (codes "heard " ++ decimal c.in-Heard.heard.status ++ codes " " ++ hex2 c.in-Heard.heard.byte ++ codes " ") (decimal c.in-Heard.heard.age) e4 c.put_decimal-in-Heard.ensures.bytes
    ∙ ap (λ k. c.args.page.now.bytes ++ kind_text k) (sym c.in-Heard.is)

pub returns-in-Heard-clause-len : goal.returns-in-Heard-clause-len
returns-in-Heard-clause-len g c =
    let l0 = c.push_str-in-Heard.ensures.len in
    let l1 = c.put_decimal.ensures.len in
    let l2 = c.push_str-in-Heard-2.ensures.len in
    let l3 = c.put_hex2-in-Heard.ensures.len in
    let l4 = c.push_str-in-Heard-3.ensures.len in
    let l5 = c.put_decimal-in-Heard.ensures.len in
    omega (arith, l0, l1, l2, l3, l4, l5)

pub returns-in-Stop-clause-bytes : goal.returns-in-Stop-clause-bytes
unfolding kind_text
returns-in-Stop-clause-bytes g c =
    let e1 = behind c.args.page.now.bytes (codes "stop ") (hex4 c.in-Stop.pc) c.push_str-in-Stop.ensures.bytes c.put_hex4-in-Stop.ensures.bytes in
    let e2 = behind c.args.page.now.bytes (codes "stop " ++ hex4 c.in-Stop.pc) (codes " ") e1 c.push_str-in-Stop-2.ensures.bytes in
    behind c.args.page.now.bytes (codes "stop " ++ hex4 c.in-Stop.pc ++ codes " ") (cause_text c.in-Stop.cause) e2 (c.push_str-in-Stop-3.ensures.bytes ∙ ap (λ t. c.push_str-in-Stop-2.new.self.bytes ++ t) c.text.ensures.text)
    ∙ ap (λ k. c.args.page.now.bytes ++ kind_text k) (sym c.in-Stop.is)

pub returns-in-Stop-clause-len : goal.returns-in-Stop-clause-len
returns-in-Stop-clause-len g c =
    let l0 = c.push_str-in-Stop.ensures.len in
    let l1 = c.put_hex4-in-Stop.ensures.len in
    let l2 = c.push_str-in-Stop-2.ensures.len in
    let l3 = c.push_str-in-Stop-3.ensures.len in
    let short = c.text.ensures.short in
    omega (arith, l0, l1, l2, l3, short)

pub returns-in-End-clause-bytes : goal.returns-in-End-clause-bytes
unfolding kind_text
returns-in-End-clause-bytes g c =
    let e1 = behind c.args.page.now.bytes (codes "end ") (decimal c.in-End.instructions) c.push_str-in-End.ensures.bytes c.put_decimal-in-End.ensures.bytes in
    let e2 = behind c.args.page.now.bytes (codes "end " ++ decimal c.in-End.instructions) (codes " ") e1 c.push_str-in-End-2.ensures.bytes in
    behind c.args.page.now.bytes (codes "end " ++ decimal c.in-End.instructions ++ codes " ") (state_text c.in-End.state) e2 (c.push_str-in-End-3.ensures.bytes ∙ ap (λ t. c.push_str-in-End-2.new.self.bytes ++ t) c.name_of.ensures.text)
    ∙ ap (λ k. c.args.page.now.bytes ++ kind_text k) (sym c.in-End.is)

pub returns-in-End-clause-len : goal.returns-in-End-clause-len
returns-in-End-clause-len g c =
    let l0 = c.push_str-in-End.ensures.len in
    let l1 = c.put_decimal-in-End.ensures.len in
    let l2 = c.push_str-in-End-2.ensures.len in
    let l3 = c.push_str-in-End-3.ensures.len in
    let short = c.name_of.ensures.short in
    omega (arith, l0, l1, l2, l3, short)
