-- The array of rules in the code is the table, no address past it has a row, and the start values.
use Rattle.std.proofs.Common.{◌≡◌, ℕ, ◌==◌, ◌<◌, ◌≤◌, nat_le, Bool, true, false, List, [], ◌∷◌, Ok, Err, refl, sym, ap, ◌∙◌, arith, zero-add, get_or}
use Rattle.std.specs.Prelude.{IfErr, IfOk, OnErr, OnOk, Result, map, replicate, slice_set}
use Rattle.std.specs.List.{list_all, list_any, range_with_len}
use Rattle.std.proofs.lemmas.Bool.{and_parts}
use Rattle.std.proofs.lemmas.Bool.Decides.{nat_tests}
use Rattle.std.proofs.lemmas.List.FromFn.{get_or-map-range_with_len}
use Rattle.avr_base.specs.declared.stop.StopCause.{StopCause}
use Rattle.avr_base.specs.declared.stop.StopCause.TheVariants as stop
use Rattle.board_io.specs.declared.board.Board.{Board}
use Rattle.board_io.specs.declared.clocked.ClockedBoard.{ClockedBoard}
use Rattle.board_io.specs.Board.{clocked}
use Rattle.board_io.specs.declared.rules.Rule.{Rule}
use Rattle.board_io.specs.declared.rules.Rule.TheVariants.{Reserved}
use Rattle.board_io.specs.declared.rules.TheConstants.{RULES}
use Rattle.board_io.specs.Names.{MCUCSR, PORF, TWAR, TWDR, TWSR, UCSR1A, UCSR1C}
use Rattle.board_io.specs.Registers.{IsGot, IsPut, done_in, get_by, get_in, got_in, io_get, io_put, put_by, put_in}
use Rattle.board_io.specs.Table.{RegisterRow, first_rule, rule_of, start_of, table}

rules_are : RULES ≡ map rule_of (range_with_len 0 0xA0)
unfolding rule_of
rules_are = refl

pub rule_is : (at : ℕ) → at ≤ 0x9F → get_or RULES at Reserved ≡ rule_of at
rule_is at h = ap (λ (rs : List Rule). get_or rs at Reserved) rules_are ∙ get_or-map-range_with_len rule_of 0 0xA0 at at Reserved (omega arith) (zero-add at)

-- ---- past the table
abbrev is_low : RegisterRow → Bool
is_low r = list_all (λ a. nat_le a 0x9F) r.ats

none_at : (ats : List ℕ) (at : ℕ) → 0x9F < at → list_all (λ a. nat_le a 0x9F) ats ≡ true → list_any (λ a. a == at) ats ≡ false
none_at [] at h e = refl
none_at (a ∷ ats) at h e =
    let p = and_parts (nat_le a 0x9F) (list_all (λ b. nat_le b 0x9F) ats) e in
    let off : (a == at) ≡ false = grind (arith, nat_tests, p.0) in
    rw off (none_at ats at h p.1)

rule_none : (rs : List RegisterRow) (at : ℕ) → 0x9F < at → list_all is_low rs ≡ true → first_rule rs at ≡ Reserved
rule_none [] at h e = refl
rule_none (r ∷ rs) at h e =
    let p = and_parts (is_low r) (list_all is_low rs) e in
    let off = none_at r.ats at h p.0 in
    rw (off, first_rule) (rule_none rs at h p.1)

all_low : list_all is_low table ≡ true
all_low = refl

pub rule_past : (at : ℕ) → 0x9F < at → rule_of at ≡ Reserved
unfolding rule_of
rule_past at h = rule_none table at h all_low

pub get_past : (c : ClockedBoard) (at : ℕ) → 0x9F < at → io_get c at ≡ Err stop.ReservedAddress
unfolding io_get
get_past c at h = ap (λ r. get_in r c at) (rule_past at h)

pub put_past : (c : ClockedBoard) (at x : ℕ) → 0x9F < at → io_put c at x ≡ Err stop.ReservedAddress
unfolding io_put
put_past c at x h = ap (λ r. put_in r c at x) (rule_past at h)

-- ---- an access in a cycle, by what it did to the board
pub get_clocked : (rule : Rule) (v : ClockedBoard) (at : ℕ) (r : Result ℕ StopCause) (c : Board) → IsGot (get_by rule v.board at) v.board r c → IsGot (get_in rule v at) v r (clocked v.clock c)
get_clocked rule v at (Ok x) c h = ap (got_in v.clock) h
get_clocked rule v at (Err cause) c h = (ap (got_in v.clock) h.0, ap (clocked v.clock) h.1)

pub put_clocked : (rule : Rule) (v : ClockedBoard) (at x : ℕ) (r : Result (Unit {0}) StopCause) (c : Board) → IsPut (put_by v.clock rule v.board at x) v.board r c → IsPut (put_in rule v at x) v r (clocked v.clock c)
put_clocked rule v at x (Ok u) c h = ap (done_in v.clock) h
put_clocked rule v at x (Err cause) c h = (ap (done_in v.clock) h.0, ap (clocked v.clock) h.1)

-- ---- an access, by the rule that the array has
module _ (b : ClockedBoard) (at : ℕ) (rule : Rule) (e : rule ≡ rule_of at) where
  ruled : get_in rule b at ≡ io_get b at
  unfolding io_get
  ruled = ap (λ (k : Rule). get_in k b at) e

  pub get_ok : (r : Result ℕ StopCause) (c : ClockedBoard) → IsGot (get_in rule b at) b r c → IfOk r (λ x. io_get b at ≡ Ok (x, c))
  get_ok (Ok x) c h = sym ruled ∙ h
  get_ok (Err cause) c h = tt

  pub get_err : (r : Result ℕ StopCause) (c : ClockedBoard) → IsGot (get_in rule b at) b r c → IfErr r (λ cause. io_get b at ≡ Err cause)
  get_err (Ok x) c h = tt
  get_err (Err cause) c h = sym ruled ∙ h.0

  written : (x : ℕ) → put_in rule b at x ≡ io_put b at x
  unfolding io_put
  written x = ap (λ (k : Rule). put_in k b at x) e

  pub put_ok : (x : ℕ) (r : Result (Unit {0}) StopCause) (c : ClockedBoard) → IsPut (put_in rule b at x) b r c → OnOk r (io_put b at x ≡ Ok c)
  put_ok x (Ok u) c h = sym (written x) ∙ h
  put_ok x (Err cause) c h = tt

  pub put_err : (x : ℕ) (r : Result (Unit {0}) StopCause) (c : ClockedBoard) → IsPut (put_in rule b at x) b r c → IfErr r (λ cause. io_put b at x ≡ Err cause)
  put_err x (Ok u) c h = tt
  put_err x (Err cause) c h = sym (written x) ∙ h.0

-- a refused access changes nothing
pub got_same : (g : Result (ℕ × ClockedBoard) StopCause) (b c : ClockedBoard) (r : Result ℕ StopCause) → IsGot g b r c → OnErr r (c ≡ b)
got_same g b c (Ok x) h = tt
got_same g b c (Err cause) h = h.1

pub put_same : (g : Result ClockedBoard StopCause) (b c : ClockedBoard) (r : Result (Unit {0}) StopCause) → IsPut g b r c → OnErr r (c ≡ b)
put_same g b c (Ok u) h = tt
put_same g b c (Err cause) h = h.1

-- ---- after reset
pub starts_are : slice_set (slice_set (slice_set (slice_set (slice_set (slice_set (replicate 256 0) MCUCSR PORF) TWSR 0xF8) TWAR 0xFE) TWDR 0xFF) UCSR1A 0x20) UCSR1C 0x06
    ≡ map start_of (range_with_len 0 256)
unfolding start_of
starts_are = refl
