-- How a list of sends begins, and what more sends change in that.
use Rattle.std.proofs.Common.{◌≡◌, ℕ, ◌+◌, ◌<◌, ◌≤◌, ◌&&◌, ◌||◌, not, ◌⊎◌, inl, inr, Bool, true, false, cond, List, [], ◌∷◌, ◌++◌, length, take, drop, map, refl, sym, ap, ◌∙◌, arith, length-append}
use Rattle.std.specs.Prelude.{nat_le, nat_lt}
use Rattle.std.proofs.lemmas.Bool.Decides.{nat_tests}
use Rattle.std.proofs.lemmas.List.{get_or_append_left, take-append-le, drop-append-le, length-drop}
use Rattle.air_base.specs.declared.air.Send.{Send}
use Rattle.air_sniffer.specs.declared.frame.Frame.{Frame}
use Rattle.air_sniffer.specs.Head.{no_send, send_at, fits, head_fits, is_whole, begins_frame, is_open}
use Rattle.air_sniffer.specs.Frames.{frame_of, begun, passed}

-- what stands within a list stays where more comes behind it
pub same_at : (l m : List Send) (k : ℕ) → k < length l → send_at (l ++ m) k ≡ send_at l k
same_at l m k lt = get_or_append_left l m no_send k lt

same_fits : (l m : List Send) (k a b : ℕ) → k < length l → fits (l ++ m) k a b ≡ fits l k a b
same_fits l m k a b lt =
    let long : nat_le (length (l ++ m)) k ≡ false = (let h = length-append l m in grind (arith, nat_tests)) in
    let short : nat_le (length l) k ≡ false = grind (arith, nat_tests) in
    let tests : Send → Bool = λ (x : Send). nat_le a x.byte && nat_le x.byte b in
    ap (λ (v : Bool). v || tests (send_at (l ++ m) k)) (long ∙ sym short) ∙ ap (λ (x : Send). nat_le (length l) k || tests x) (same_at l m k lt)

within : (n k : ℕ) (t : Bool) → (nat_le n k || t) ≡ false → k < n
within n k true e = grind (arith, nat_tests)
within n k false e = grind (arith, nat_tests)

unfit : (l m : List Send) (k a b : ℕ) → fits l k a b ≡ false → fits (l ++ m) k a b ≡ false
unfit l m k a b e = same_fits l m k a b (within (length l) k (nat_le a (send_at l k).byte && nat_le (send_at l k).byte b) e) ∙ e

no_and : (p q : Bool) → (p && false) ≡ false
no_and true q = refl
no_and false q = refl

false_and : (p q r s : Bool) → (p ≡ false → r ≡ false) → (q ≡ false → s ≡ false) → (p && q) ≡ false → (r && s) ≡ false
false_and true true r s f g e = cc
false_and true false r s f g e = ap (λ (v : Bool). r && v) (g refl) ∙ no_and r r
false_and false q r s f g e = ap (λ (v : Bool). v && s) (f refl)

pub head_unfit : (l m : List Send) → head_fits l ≡ false → head_fits (l ++ m) ≡ false
unfolding head_fits
head_unfit l m e =
    let p0 = fits l 0 0xAA 0xAA in
    let p1 = fits l 1 0xAA 0xAA in
    let p2 = fits l 2 0x7E 0x7E in
    let p3 = fits l 3 1 32 in
    let q0 = fits (l ++ m) 0 0xAA 0xAA in
    let q1 = fits (l ++ m) 1 0xAA 0xAA in
    let q2 = fits (l ++ m) 2 0x7E 0x7E in
    let q3 = fits (l ++ m) 3 1 32 in
    false_and (p0 && p1 && p2) p3 (q0 && q1 && q2) q3
    (false_and (p0 && p1) p2 (q0 && q1) q2 (false_and p0 p1 q0 q1 (unfit l m 0 0xAA 0xAA) (unfit l m 1 0xAA 0xAA)) (unfit l m 2 0x7E 0x7E))
    (unfit l m 3 1 32)
    e

pub same_head : (l m : List Send) → 3 < length l → head_fits (l ++ m) ≡ head_fits l
unfolding head_fits
same_head l m h =
    let e0 = same_fits l m 0 0xAA 0xAA (omega arith) in
    let e1 = same_fits l m 1 0xAA 0xAA (omega arith) in
    let e2 = same_fits l m 2 0x7E 0x7E (omega arith) in
    let e3 = same_fits l m 3 1 32 h in
    λ i. e0 i && e1 i && e2 i && e3 i

whole_parts : (a b : Bool) → (a && b) ≡ true → (a ≡ true) × (b ≡ true)
whole_parts true true e = (refl, refl)
whole_parts true false e = cc
whole_parts false b e = cc

pub record IsWhole (l : List Send) : Type 0 where
  pub head : 3 < length l
  pub bytes : 4 + (send_at l 3).byte ≤ length l

pub whole_is : (l : List Send) → is_whole l ≡ true → IsWhole l
unfolding is_whole
whole_is l e =
    let h = whole_parts (nat_lt 3 (length l)) (nat_le (4 + (send_at l 3).byte) (length l)) e in
    record { head = grind (arith, nat_tests); bytes = grind (arith, nat_tests) }

pub is_whole_of : (l : List Send) → IsWhole l → is_whole l ≡ true
unfolding is_whole
is_whole_of l w =
    let a : nat_lt 3 (length l) ≡ true = (let h = w.head in grind (arith, nat_tests)) in
    let b : nat_le (4 + (send_at l 3).byte) (length l) ≡ true = (let h = w.bytes in grind (arith, nat_tests)) in
    λ i. a i && b i

whole_more : (l m : List Send) → IsWhole l → IsWhole (l ++ m)
whole_more l m w =
    let a = length-append l m in
    let b = w.head in
    let c = w.bytes in
    let d = ap (λ (x : Send). x.byte) (same_at l m 3 w.head) in
    record { head = omega arith; bytes = omega arith }

same_frame : (l m : List Send) → IsWhole l → frame_of (l ++ m) ≡ frame_of l
unfolding frame_of
same_frame l m w =
    let h = w.head in
    let b = w.bytes in
    let first = same_at l m 0 (omega arith) in
    let len = ap (λ (x : Send). x.byte) (same_at l m 3 w.head) in
    let rest = drop-append-le 4 l m (omega arith) in
    let few = take-append-le (send_at l 3).byte (drop 4 l) m (let d = length-drop 4 l in omega arith) in
    let sends : take (send_at (l ++ m) 3).byte (drop 4 (l ++ m)) ≡ take (send_at l 3).byte (drop 4 l) =
    (λ i. take (len i) (rest i)) ∙ few in
    λ i. record { node = (first i).node; cycle = (first i).cycle; payload = map (λ (x : Send). x.byte) (sends i) }

-- a list that is not open begins as it does where more comes behind it
closed_cases : (a b : Bool) → (a && not b) ≡ false → (a ≡ false) ⊎ ((a ≡ true) × (b ≡ true))
closed_cases true true e = inr (refl, refl)
closed_cases true false e = cc
closed_cases false b e = inl refl

pub data Start (l m : List Send) : Type 0 where
  none : begins_frame l ≡ false → begins_frame (l ++ m) ≡ false → Start l m
  some : begins_frame l ≡ true → begins_frame (l ++ m) ≡ true → IsWhole l → Start l m

pub start_of : (l m : List Send) → is_open l ≡ false → Start l m
start_of l m e = elim (closed_cases (head_fits l) (is_whole l) e) [
  | inl h ↦ none (ap (λ (v : Bool). v && is_whole l) h) (ap (λ (v : Bool). v && is_whole (l ++ m)) (head_unfit l m h))
  | inr h ↦
      let w = whole_is l h.1 in
      some (λ i. h.0 i && h.1 i) (let p = same_head l m w.head ∙ h.0 in let q = is_whole_of (l ++ m) (whole_more l m w) in λ i. p i && q i) w
]

-- a frame has its head and its payload, and where none begins one send is passed over
pub passed_some : (l : List Send) → begins_frame l ≡ true → passed l ≡ 4 + (send_at l 3).byte
unfolding passed
passed_some l e = ap (λ (b : Bool). cond b (4 + (send_at l 3).byte) 1) e

pub passed_none : (l : List Send) → begins_frame l ≡ false → passed l ≡ 1
unfolding passed
passed_none l e = ap (λ (b : Bool). cond b (4 + (send_at l 3).byte) 1) e

pub begun_some : (l : List Send) → begins_frame l ≡ true → begun l ≡ frame_of l ∷ []
unfolding begun
begun_some l e = ap (λ (b : Bool). cond b (frame_of l ∷ []) []) e

pub begun_none : (l : List Send) → begins_frame l ≡ false → begun l ≡ []
unfolding begun
begun_none l e = ap (λ (b : Bool). cond b (frame_of l ∷ []) []) e

pub data Begins (l : List Send) : Type 0 where
  no : begins_frame l ≡ false → passed l ≡ 1 → Begins l
  yes : begins_frame l ≡ true → passed l ≡ 4 + (send_at l 3).byte → IsWhole l → Begins l

begins_case : (l : List Send) (b : Bool) → begins_frame l ≡ b → Begins l
begins_case l true e = yes e (passed_some l e) (whole_is l (whole_parts (head_fits l) (is_whole l) e).1)
begins_case l false e = no e (passed_none l e)

pub begins : (l : List Send) → Begins l
begins l = begins_case l (begins_frame l) refl

pub passed_pos : (l : List Send) → 0 < passed l
passed_pos l = elim (begins l) [ no e p ↦ omega arith | yes e p w ↦ omega arith ]

pub passed_within : (l : List Send) → 0 < length l → passed l ≤ length l
passed_within l h = elim (begins l) [ no e p ↦ omega arith | yes e p w ↦ omega arith ]

-- what begins a list that is not open stays where more comes behind it
pub same_begun : (l m : List Send) → is_open l ≡ false → begun (l ++ m) ≡ begun l
same_begun l m e = elim (start_of l m e) [
  | none a b ↦ begun_none (l ++ m) b ∙ sym (begun_none l a)
  | some a b w ↦ begun_some (l ++ m) b ∙ ap (λ (f : Frame). f ∷ []) (same_frame l m w) ∙ sym (begun_some l a)
]

pub same_passed : (l m : List Send) → is_open l ≡ false → passed (l ++ m) ≡ passed l
same_passed l m e = elim (start_of l m e) [
  | none a b ↦ passed_none (l ++ m) b ∙ sym (passed_none l a)
  | some a b w ↦ passed_some (l ++ m) b ∙ ap (λ (x : Send). 4 + x.byte) (same_at l m 3 w.head) ∙ sym (passed_some l a)
]

-- an open list has no more than a head and 31 bytes
last_fits : (n b : ℕ) → (nat_le n 3 || (nat_le 1 b && nat_le b 32)) ≡ true → 3 < n → b ≤ 32
last_fits n b e h =
    let a : nat_le n 3 ≡ false = grind (arith, nat_tests) in
    let g : (nat_le 1 b && nat_le b 32) ≡ true = ap (λ (v : Bool). v || (nat_le 1 b && nat_le b 32)) (sym a) ∙ e in
    let k = (whole_parts (nat_le 1 b) (nat_le b 32) g).1 in
    grind (arith, nat_tests)

fourth_fits : (l : List Send) → head_fits l ≡ true → fits l 3 1 32 ≡ true
unfolding head_fits
fourth_fits l e = (whole_parts (fits l 0 0xAA 0xAA && fits l 1 0xAA 0xAA && fits l 2 0x7E 0x7E) (fits l 3 1 32) e).1

pub open_parts : (a b : Bool) → (a && not b) ≡ true → (a ≡ true) × (b ≡ false)
open_parts true true e = cc
open_parts true false e = (refl, refl)
open_parts false b e = cc

short_case : (n b : ℕ) → (nat_lt 3 n && nat_le (4 + b) n) ≡ false → (3 < n → b ≤ 32) → n ≤ 35
short_case n b e f = grind (arith, nat_tests)

pub open_short : (l : List Send) → is_open l ≡ true → length l ≤ 35
unfolding is_whole
open_short l e =
    let h = open_parts (head_fits l) (is_whole l) e in
    short_case (length l) (send_at l 3).byte h.1 (last_fits (length l) (send_at l 3).byte (fourth_fits l h.0))

not_open : (a b : Bool) → (a ≡ false) ⊎ (b ≡ true) → (a && not b) ≡ false
not_open a b (inl h) = ap (λ (v : Bool). v && not b) h
not_open true b (inr h) = ap not h
not_open false b (inr h) = refl

pub still_closed : (l m : List Send) → is_open l ≡ false → is_open (l ++ m) ≡ false
still_closed l m e = elim (closed_cases (head_fits l) (is_whole l) e) [
  | inl h ↦ not_open (head_fits (l ++ m)) (is_whole (l ++ m)) (inl (head_unfit l m h))
  | inr h ↦ not_open (head_fits (l ++ m)) (is_whole (l ++ m)) (inr (is_whole_of (l ++ m) (whole_more l m (whole_is l h.1))))
]

pub fourth_most : (l : List Send) → head_fits l ≡ true → 3 < length l → (send_at l 3).byte ≤ 32
fourth_most l e h = last_fits (length l) (send_at l 3).byte (fourth_fits l e) h

-- what a frame that begins a list has there
pub record Framed (l : List Send) : Type 0 where
  pub head : 3 < length l
  pub bytes : 4 + (send_at l 3).byte ≤ length l
  pub most : (send_at l 3).byte ≤ 32

pub framed : (l : List Send) → begins_frame l ≡ true → Framed l
framed l e =
    let h = whole_parts (head_fits l) (is_whole l) e in
    let w = whole_is l h.1 in
    record { head = w.head; bytes = w.bytes; most = fourth_most l h.0 w.head }
