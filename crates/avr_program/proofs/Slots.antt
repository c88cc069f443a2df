-- The slots of a program memory.
use Rattle.std.proofs.Common.{◌≡◌, ℕ, ◌+◌, ◌<◌, List, ◌∷◌, [], ◌++◌, length, refl, arith}
use Rattle.std.specs.Prelude.{slice_index_or}
use Rattle.std.proofs.lemmas.List.FromFn.{get_or-map-range_with_len, length-map-range_with_len, map-range_with_len_more}
use Rattle.avr_program.specs.Program.{slot_of, slots_below}
use Rattle.avr_program.specs.declared.decoded.Slot.{Slot}

pub slots_none : (flash : List ℕ) → [] ≡ slots_below 0 flash
unfolding slots_below
slots_none flash = refl

pub slots_more : (n : ℕ) (flash : List ℕ) → slots_below (n + 1) flash ≡ slots_below n flash ++ slot_of flash n ∷ []
unfolding slots_below
slots_more n flash = map-range_with_len_more (slot_of flash) 0 n n (omega arith)

pub length_slots : (n : ℕ) (flash : List ℕ) → length (slots_below n flash) ≡ n
unfolding slots_below
length_slots n flash = length-map-range_with_len (slot_of flash) 0 n

pub slot_at : (n pc : ℕ) (flash : List ℕ) (d : Slot) → pc < n → slice_index_or (slots_below n flash) pc d ≡ slot_of flash pc
unfolding slots_below
slot_at n pc flash d below = get_or-map-range_with_len (slot_of flash) 0 n pc pc d below (omega arith)
