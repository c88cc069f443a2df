-- A node within its bounds is the node that is restored from its numbers, its I/O bytes and its SRAM.
use Rattle.std.proofs.Common.{◌≡◌, ℕ, ◌+◌, ◌-◌, ◌^◌, ◌<◌, ◌≤◌, ◌==◌, Bool, true, false, if◌then◌else◌, length, length-append, slice_index, replicate, refl, sym, ap, ◌∙◌, arith, None, is_some, bit_and, inl, inr}
use Rattle.std.proofs.lemmas.List.{ext_get_or, get_or-append-add, get_or-replicate, length-replicate}
use Rattle.std.proofs.lemmas.List.FromFn.{get_or-map-range_with_len, length-map-range_with_len}
use Rattle.std.proofs.Math.ListN.{get_or-append, get_or-eq_default}
use Rattle.std.proofs.lemmas.Bool.{cases_lt, eq-eqb, eqb-true}
use Rattle.std.specs.Int.Bits.{and_zero_r}
use Rattle.avr_base.proofs.Computed.{all_from, all_from-at}
use Rattle.board_io.specs.declared.board.Board.{Board}
use Rattle.board_io.specs.declared.rules.Rule.{Rule}
use Rattle.board_io.specs.declared.rules.Rule.TheVariants as rule
use Rattle.board_io.specs.Board.{kept_at}
use Rattle.board_io.specs.Kept.{first_refused, io_at, io_fits, io_of, is_io, is_kept, kept_bits, kept_of}
use Rattle.board_io.specs.Saved as board
use Rattle.board_io.specs.Table.{rule_of}
use Rattle.board_io.proofs.Refused.{none_failed}
use Rattle.device_laws.specs.States.{IsBoard}
use Rattle.node_core.specs.Numbers.{numbers_of}
use Rattle.node_core.specs.State.{NodeState}
use Rattle.node_core.proofs.Saved.{Has, has-numbers}
use Rattle.node_runner.specs.Scenario.{IsRestoredIn, IsScenario, ScenarioOf, fleet_of}
use Rattle.world_core.specs.Order.{node_at}
use Rattle.node_laws.specs.Within.{BoardWithin}
use Rattle.node_laws.specs.Node.{AreBytes, NodeWithin}
use Rattle.node_laws.specs.Scenario.{IsSaved}
use Rattle.node_laws.proofs.Images.{AreImages}
use Rattle.node_laws.proofs.Boards.{kept_byte}
use Rattle.node_laws.proofs.Fixed.{Fixed, Given, fixed, given}
use Rattle.node_laws.proofs.Fits.{none_outside_of, numbers_length, numbers_small}
use Rattle.node_laws.proofs.Worlds.{node_fixed, node_in}

-- a byte that can have no bit, where the board keeps none, is 0
kept_none : (r : Rule) (x : ℕ) → is_kept r ≡ false → bit_and x (kept_bits r) ≡ x → x ≡ 0
kept_none rule.Reserved x e h = let none = and_zero_r x in cc
kept_none _ x e h = let none = and_zero_r x in cc

io_by : (kept : Bool) (r : Rule) (x : ℕ) → is_kept r ≡ kept → bit_and x (kept_bits r) ≡ x → (if kept then x else 0) ≡ x
io_by true r x e h = refl
io_by false r x e h = sym (kept_none r x e h)

reserved : all_from (λ at. kept_bits (rule_of at) == 0) 0 32 ≡ true
unfolding rule_of
reserved = refl

module _ (t : ℕ) (b : Board) (states : IsBoard b) (h : BoardWithin t b) where
  -- what is saved of a register is what the board has there
  io_there : (k : ℕ) → k < 224 → slice_index (io_of b) k ≡ kept_at (0x20 + k) b
  io_there k low =
      get_or-map-range_with_len (λ k. io_at (0x20 + k) b) 0 224 k k 0 low (omega arith)
      ∙ io_by (is_kept (rule_of (0x20 + k))) (rule_of (0x20 + k)) (kept_at (0x20 + k) b) refl (h.kept (0x20 + k) (omega arith))

  io_fit : (k : ℕ) → k < 224 → io_fits (io_of b) k ≡ true
  unfolding is_io
  io_fit k low =
      let e = io_there k low in
      let kept : bit_and (kept_at (0x20 + k) b) (kept_bits (rule_of (0x20 + k))) ≡ kept_at (0x20 + k) b = h.kept (0x20 + k) (omega (arith, low)) in
      ap (λ x. bit_and x (kept_bits (rule_of (0x20 + k))) == x) e ∙ eq-eqb _ _ kept

  -- no byte is refused
  pub io_allowed : first_refused (io_of b) ≡ None
  io_allowed = none_failed (io_fits (io_of b)) 224 io_fit

  pub io_length : length (io_of b) ≡ 224
  io_length = length-map-range_with_len (λ k. io_at (0x20 + k) b) 0 224

  pub io_bytes : AreBytes (io_of b)
  io_bytes k =
      elim (cases_lt k 224) [
        | inl low ↦ omega (arith, io_there k low, kept_byte t b states h (0x20 + k))
        | inr high ↦ omega (arith, get_or-eq_default (io_of b) 0 {n = k} (omega (arith, io_length, high)))
      ]

  low_zero : (at : ℕ) → at < 32 → kept_at at b ≡ 0
  low_zero at low =
      let none : kept_bits (rule_of at) ≡ 0 = eqb-true _ _ (all_from-at (λ at. kept_bits (rule_of at) == 0) 0 32 at reserved (omega arith) (omega (arith, low))) in
      sym (h.kept at (omega (arith, low))) ∙ ap (bit_and (kept_at at b)) none ∙ and_zero_r (kept_at at b)

  kept_at_is : (at : ℕ) → at < 256 → slice_index b.kept at ≡ slice_index (kept_of (io_of b)) at
  kept_at_is at low =
      elim (cases_lt at 32) [
        | inl below ↦
            low_zero at below ∙ sym (get_or-append (replicate 32 0) (io_of b) 0 at (omega (arith, length-replicate {A = ℕ} 32 0)) ∙ get_or-replicate {A = ℕ} 32 at 0 0 below)
        | inr above ↦
            let k : ℕ = at - 32 in
            let there : 0x20 + k ≡ at = omega (arith, above) in
            let back : slice_index (kept_of (io_of b)) (0x20 + k) ≡ slice_index (io_of b) k = get_or-append-add (replicate 32 0) (io_of b) k 0 in
            rw (← there) (sym (back ∙ io_there k (omega arith)))
      ]

  kept_whole : b.kept ≡ kept_of (io_of b)
  kept_whole =
      ext_get_or 0 b.kept (kept_of (io_of b)) (omega (arith, states.count, io_length, length-append (replicate 32 0) (io_of b), length-replicate {A = ℕ} 32 0))
      (λ at low. kept_at_is at (omega (arith, states.count, low)))

  pub board_restored : (byte_time : ℕ) → b.radio.byte_time ≡ byte_time → board.IsRestored byte_time (board.numbers_of b) (io_of b) b
  board_restored byte_time gap = search (kept_whole, arith)

module _ (sc : ScenarioOf) (is : IsScenario sc) (images : AreImages sc) (k c : ℕ) (late : c ≤ sc.topo.limit) where
  pub restored : IsRestoredIn sc k (numbers_of (node_at (fleet_of sc) k c)) (io_of (node_at (fleet_of sc) k c).board) (node_at (fleet_of sc) k c).sram (node_at (fleet_of sc) k c)
  restored =
      let u : NodeState = node_at (fleet_of sc) k c in
      let s : NodeState = (fleet_of sc).begins k in
      let h : NodeWithin c u = node_in sc is images k c late in
      let same : fixed u ≡ fixed s = node_fixed sc is images k c late in
      let len : length u.cpu.r ≡ 32 = h.core.count in
      let has : Has (numbers_of u) u = has-numbers (numbers_of u) u len refl in
      let gap : u.board.radio.byte_time ≡ sc.topo.byte_time = ap (λ (f : Fixed). f.gap) same in
      let g : given u ≡ given s = ap (λ (f : Fixed). f.given) same in
      let b = board_restored (if is_some u.stop then 0 else c) u.board h.space.states h.space.board sc.topo.byte_time gap in
      let board = rw has.board at b in
      search (len, ap (λ (v : Given). v.number) g, ap (λ (v : Given). v.flash) g, ap (λ (v : Given). v.script) g, ap (λ (v : Given). v.from) g, ap (λ (v : Given). v.to) g)

-- what is saved of it
pub saved : (sc : ScenarioOf) (k c : ℕ) → IsScenario sc → AreImages sc → c ≤ sc.topo.limit → IsSaved sc k c (node_at (fleet_of sc) k c)
saved sc k c is images late =
    let u : NodeState = node_at (fleet_of sc) k c in
    let h : NodeWithin c u = node_in sc is images k c late in
    let t : ℕ = if is_some u.stop then 0 else c in
    let early : c ≤ 2 ^ 40 = omega (arith, late, is.topo.ranges.limit_to) in
    let b : Board = u.board in
    record {
      count = numbers_length u h.core.count;
      widths = λ i. omega (arith, numbers_small c u h early i);
      io = record { length_is = io_length t b h.space.states h.space.board; bytes = io_bytes t b h.space.states h.space.board };
      sram = record { length_is = h.space.count; bytes = h.space.sram };
      within = none_outside_of c u h early;
      allowed = io_allowed t b h.space.states h.space.board;
      restored = restored sc is images k c late;
    }
