use Rattle.std.proofs.Common.{ℕ, List, ◌∷◌, [], ◌++◌, ap, sym, ◌∙◌}
use Rattle.avr_decoder.specs.declared.op.Op.{Op}
use Rattle.avr_program.specs.Program.{slots_below}
use Rattle.avr_program.specs.declared.decoded.Slot.{Slot}
use Rattle.avr_program.proofs.Slots.{slots_more, slots_none}
use Rattle.avr_program.proofs.decoded.slots_of.Goals as goal

pub loop-pc-init : goal.loop-pc-init
loop-pc-init c = c.in_ok-slots.ensures.items ∙ slots_none c.args.flash.now.bytes

pub loop-pc-preserved : goal.loop-pc-preserved
loop-pc-preserved c =
    let pc : ℕ = c.loop-pc.pc in
    let flash : List ℕ = c.args.flash.now.bytes in
    let slot : Op → Slot = λ op. record { op = op; fill = 0 } in
    c.in_ok-push.ensures.items
    ∙ (ap (λ (xs : List Slot). xs ++ slot c.op_in-op.result ∷ []) c.loop-pc.invariant
    ∙ (ap (λ (op : Op). slots_below pc flash ++ slot op ∷ []) c.op_in-op.ensures ∙ sym (slots_more pc flash)))
