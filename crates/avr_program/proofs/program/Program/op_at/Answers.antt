use Rattle.std.proofs.Common.{◌≡◌, ℕ, List, length, ap, ◌∙◌, arith}
use Rattle.std.specs.Prelude.{slice_index_or}
use Rattle.avr_program.specs.Program.{slots_below}
use Rattle.avr_program.specs.declared.decoded.Slot.{Slot}
use Rattle.avr_program.proofs.Slots.{length_slots, slot_at}
use Rattle.avr_program.proofs.program.Program.op_at.Goals as goal

pub bounds-slots-from : goal.bounds-slots-from
bounds-slots-from c =
    let len : length c.args.slots.now ≡ 65536 = ap (λ (xs : List Slot). length xs) c.requires ∙ length_slots 65536 c.args.self.now.bytes in
    omega (arith, len, c.from.ensures, c.ranges.pc.fits)

pub returns : goal.returns
returns c =
    let pc : ℕ = c.args.pc in
    let one : Slot = c.index-slots-from.result in
    ap (λ (s : Slot). s.op)
    (ap (λ (xs : List Slot). slice_index_or xs c.from.result one) c.requires
    ∙ (ap (λ (i : ℕ). slice_index_or (slots_below 65536 c.args.self.now.bytes) i one) c.from.ensures
    ∙ slot_at 65536 pc c.args.self.now.bytes one (omega (arith, c.ranges.pc.fits))))
