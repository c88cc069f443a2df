-- What a reader took is what stood there.
use Rattle.std.proofs.Common.{◌≡◌, ℕ, suc, ◌+◌, ◌≤◌, ◌^◌, Bool, true, false, cond, eqb, ◌&&◌, List, [], ◌∷◌, ◌++◌, length, map, get_or, codes, Option, Some, None, Result, Ok, Err, refl, sym, ap, subst, ◌∙◌, arith}
use Rattle.std.specs.List.{list_all, list_any}
use Rattle.std.specs.Prelude.{slice_index}
use Rattle.std.proofs.lemmas.Bool.{and_parts, eqb-true, le-ltb}
use Rattle.std.proofs.lemmas.List.{length-append}
use Rattle.hex.specs.Hex.{decode_sized, decode_of}
use Rattle.hex.proofs.HexLemmas.{decode_sized-ok, decode_sized-twice, decode_of-ok}
use Rattle.air_base.specs.declared.air.Send.{Send}
use Rattle.world_core.specs.Topology.{Topology, IsTopology}
use Rattle.state_text.specs.declared.fault.StateFault.{StateFault}
use Rattle.state_text.specs.Parts.{parts_of, is_decimal, value, is_lower}
use Rattle.state_text.specs.Bounds.{is_cut}
use Rattle.state_text.specs.Reading.{◌>>=◌, Place, no_form, bounded, formed, decoded, numbers_in, bytes_in, fits_word, send, send_in, if_kept, some_or_out, next_line, behind_word, cycle_at}

-- the value of a step that did not fail
pub bind_ok : {A B : Type 0} (r : Result A StateFault) (f : A → Result B StateFault) (y : B) → (r >>= f) ≡ Ok y → (x : A) × (r ≡ Ok x) × (f x ≡ Ok y)
bind_ok (Ok x) f y e = (x, refl, e)
bind_ok (Err d) f y e = absurd cc

abbrev done : {A : Type 0} → A → Result A StateFault
done x = Ok x

pub ok_is : {A : Type 0} (x y : A) → done x ≡ done y → x ≡ y
ok_is x y e = cc

pub bounded_ok : {A : Type 0} (number : ℕ) (holds : Bool) (x y : A) → bounded number holds x ≡ Ok y → (holds ≡ true) × (x ≡ y)
bounded_ok number true x y e = (refl, cc)
bounded_ok number false x y e = absurd cc

pub formed_ok : {A : Type 0} (number : ℕ) (holds : Bool) (x y : A) → formed number holds x ≡ Ok y → (holds ≡ true) × (x ≡ y)
formed_ok number true x y e = (refl, cc)
formed_ok number false x y e = absurd cc

pub record AreNumbers (count : ℕ) (parts : List (List ℕ)) (ns : List ℕ) : Type 0 where
  pub many : length parts ≡ count
  pub decimals : list_all is_decimal parts ≡ true
  pub fit : list_all fits_word parts ≡ true
  pub are : map value parts ≡ ns

pub numbers_taken : (number count : ℕ) (parts : List (List ℕ)) (ns : List ℕ) → numbers_in number count parts ≡ Ok ns → AreNumbers count parts ns
unfolding numbers_in
numbers_taken number count parts ns h = go (eqb (length parts) count && list_all is_decimal parts) refl h
  where
    go : (b : Bool) → (eqb (length parts) count && list_all is_decimal parts) ≡ b → cond b (bounded number (list_all fits_word parts) (map value parts)) (no_form number) ≡ Ok ns → AreNumbers count parts ns
    go false e k = absurd cc
    go true e k =
        let both = and_parts (eqb (length parts) count) (list_all is_decimal parts) e in
        let fit = bounded_ok number (list_all fits_word parts) (map value parts) ns k in
        record { many = eqb-true (length parts) count both.0; decimals = both.1; fit = fit.0; are = fit.1 }

mapped : (parts : List (List ℕ)) → length (map value parts) ≡ length parts
mapped [] = refl
mapped (p ∷ parts) = ap suc (mapped parts)

pub numbers_count : (number count : ℕ) (parts : List (List ℕ)) (ns : List ℕ) → numbers_in number count parts ≡ Ok ns → length ns ≡ count
numbers_count number count parts ns h =
    let t = numbers_taken number count parts ns h in
    sym (ap length t.are) ∙ mapped parts ∙ t.many

decoded_ok : (number : ℕ) (r : Result (List ℕ) _) (bytes : List ℕ) → decoded number r ≡ Ok bytes → r ≡ Ok bytes
decoded_ok number (Ok bs) bytes h = cc
decoded_ok number (Err e) bytes h = absurd cc

pub bytes_taken : (number count : ℕ) (part bytes : List ℕ) → bytes_in number count part ≡ Ok bytes → (list_any is_lower part ≡ false) × (decode_sized part count ≡ Ok bytes)
unfolding bytes_in
bytes_taken number count part bytes h = go (list_any is_lower part) refl h
  where
    go : (b : Bool) → list_any is_lower part ≡ b → cond b (no_form number) (decoded number (decode_sized part count)) ≡ Ok bytes → (list_any is_lower part ≡ false) × (decode_sized part count ≡ Ok bytes)
    go true e k = absurd cc
    go false e k = (e, decoded_ok number (decode_sized part count) bytes k)

pub bytes_count : (number count : ℕ) (part bytes : List ℕ) → bytes_in number count part ≡ Ok bytes → length bytes ≡ count
bytes_count number count part bytes h =
    let t = bytes_taken number count part bytes h in
    let twice = decode_sized-ok part count bytes t.1 in
    let of : decode_of part ≡ Ok bytes = sym (decode_sized-twice part count twice) ∙ t.1 in
    let ok = decode_of-ok part bytes of in
    omega (arith, twice, ok.2)

-- no node has a number of more than 64 bits
pub never_kept : (t : Topology) (cycle : ℕ) (before : Option Send) (node at : ℕ) (bytes : List ℕ) → IsTopology t → 2 ^ 64 ≤ node → if_kept t cycle before (send node at bytes) ≡ None
never_kept t cycle before node at bytes lawful big =
    let most = lawful.ranges.nodes_to in
    rw (le-ltb node t.nodes (omega (arith, most, big))) refl

-- the send of three parts
pub send_taken : (t : Topology) (cycle : ℕ) (before : Option Send) (number : ℕ) (parts : Option (List ℕ × List ℕ × List ℕ)) (node at digits bytes : List ℕ) (byte : ℕ) (x : Send) → Some (node, at, digits) ≡ parts → true ≡ is_decimal node → true ≡ is_decimal at
    → bytes_in number 1 digits ≡ Ok bytes → slice_index bytes 0 ≡ byte → Some x ≡ if_kept t cycle before (send (value node) (value at) (byte ∷ [])) → send_in t cycle before number parts ≡ Ok x
unfolding send_in
send_taken t cycle before number parts node at digits bytes byte x are d1 d2 b first kept =
    let k : Some x ≡ if_kept t cycle before (send (value node) (value at) bytes) = subst (λ m. Some x ≡ if_kept t cycle before (send (value node) (value at) (m ∷ []))) (sym first) kept in
    rw (← are, ← d1, ← d2, b) (ap (some_or_out number) (sym k))

-- the one number, or the one byte, that was read
pub first_is : (ns : List ℕ) (x : ℕ) → length ns ≡ 1 → get_or ns 0 x ≡ x → slice_index ns 0 ≡ x
first_is [] x one h = absurd (omega arith)
first_is (n ∷ ns) x one h = h

pub cycle_taken : (t : Topology) (at next : Place) (line : List ℕ) (parts : List (List ℕ)) (ns : List ℕ) (x : ℕ) → next_line at ≡ Ok (line, next) → behind_word at.number (codes "cycle") (parts_of line) ≡ Ok parts
    → numbers_in at.number 1 parts ≡ Ok ns → slice_index ns 0 ≡ x → is_cut t x ≡ true → cycle_at t at ≡ Ok (x, next)
unfolding cycle_at
cycle_taken t at next line parts ns x h1 h2 h3 first cut = rw (h1, h2, h3, first, cut) refl
