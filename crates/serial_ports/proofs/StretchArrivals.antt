-- The bytes of a stretch, by their numbers.
use Rattle.std.proofs.Common.{◌≡◌, ℕ, ◌+◌, ◌-◌, ◌*◌, ◌/◌, ◌%◌, ◌<◌, ◌≤◌, ◌==◌, ◌&&◌, nat_le, true, Option, Some, None, inl, inr, is_some, length, refl, sym, ap, ◌∙◌, arith}
use Rattle.std.specs.List.{slice_get}
use Rattle.std.proofs.Math.Nat.{mul-le-mul_right}
use Rattle.std.proofs.lemmas.Bool.{and_parts, cases_lt, cond_both, le-leb, leb-true}
use Rattle.std.proofs.lemmas.Bool.Decides.{nat_tests}
use Rattle.std.proofs.lemmas.Nat.{div-mul-add, mod-mul-add}
use Rattle.std.proofs.lemmas.Option.{slice_get-get_or, slice_get_within}
use Rattle.serial_ports.specs.Script.{IsByteOf, IsQuiet, StretchBytes, stretch_byte}

-- byte i arrives in its cycle
pub stretch-at : (s : StretchBytes) (t i : ℕ) → 1 ≤ s.every → t ≡ s.at + i * s.every → stretch_byte s t ≡ slice_get s.bytes i
unfolding stretch_byte
stretch-at s t i some e =
    let gone : t - s.at ≡ i * s.every + 0 = omega arith in
    let rem : (t - s.at) % s.every ≡ 0 = ap (λ m. m % s.every) gone ∙ mod-mul-add i s.every 0 some in
    let quo : (t - s.at) / s.every ≡ i = ap (λ m. m / s.every) gone ∙ div-mul-add i s.every 0 some in
    let from : nat_le s.at t ≡ true = le-leb s.at t (omega arith) in
    rw (from, rem, quo) refl

-- a byte that arrives has a number
pub stretch-some : (s : StretchBytes) (t b : ℕ) → 1 ≤ s.every → stretch_byte s t ≡ Some b → IsByteOf s t (Some b)
unfolding stretch_byte
stretch-some s t b some =
    cond_both (nat_le s.at t && (t - s.at) % s.every == 0) (slice_get s.bytes ((t - s.at) / s.every)) None (λ z. z ≡ Some b → IsByteOf s t (Some b))
    (λ on e. (let parts = and_parts (nat_le s.at t) ((t - s.at) % s.every == 0) on in
    let from = leb-true s.at t parts.0 in
    let rem : (t - s.at) % s.every ≡ 0 = grind (arith, nat_tests) in
    ((t - s.at) / s.every, omega arith, e)))
    (λ off e. cc)

-- where none arrives, no byte has that cycle
quiet-arrives : (s : StretchBytes) (t : ℕ) → 1 ≤ s.every → stretch_byte s t ≡ None → IsByteOf s t None
quiet-arrives s t some e i l at = let here = stretch-at s t i some at in let there = slice_get-get_or s.bytes i 0 l in cc

-- the law of arrivals
pub arrives : (s : StretchBytes) (t : ℕ) (o : Option ℕ) → 1 ≤ s.every → o ≡ stretch_byte s t → IsByteOf s t o
arrives s t None some e = quiet-arrives s t some (sym e)
arrives s t (Some b) some e = stretch-some s t b some (sym e)

-- a cycle that is no byte's
pub stretch-none : (s : StretchBytes) (t : ℕ) → 1 ≤ s.every → ((i : ℕ) → i < length s.bytes → t ≡ s.at + i * s.every → ⊥) → stretch_byte s t ≡ None
stretch-none s t some none = none-of (stretch_byte s t) refl
  where
    none-of : (o : Option ℕ) → o ≡ stretch_byte s t → o ≡ None
    none-of None e = refl
    none-of (Some b) e = let a = stretch-some s t b some (sym e) in absurd (none a.0 (slice_get_within s.bytes a.0 b a.2) a.1)

-- of bytes at equal distances, one that is no earlier by number than another is no earlier by cycle
pub later : (at every n i : ℕ) → n ≤ i → at + n * every ≤ at + i * every
later at every n i l = omega (arith, mul-le-mul_right every l)

-- no byte any more, where the first n arrived before and there are no others
pub quiet-ever : (s : StretchBytes) (t n : ℕ) → 1 ≤ s.every → length s.bytes ≤ n → ((i : ℕ) → i < n → s.at + i * s.every < t) → IsQuiet s t None
quiet-ever s t n some few before i = stretch-none s (t + i) some (λ j l e. absurd (omega (arith, before j (omega arith))))

-- byte n is the next, where the first n arrived before
pub quiet-until : (s : StretchBytes) (t n w : ℕ) → 1 ≤ s.every → n < length s.bytes → ((i : ℕ) → i < n → s.at + i * s.every < t)
    → t + w ≡ s.at + n * s.every → IsQuiet s t (Some w)
quiet-until s t n w some within before at = (
  λ i l. stretch-none s (t + i) some (λ j m e. not-between j e (λ k. before j k) l),
  (let here = stretch-at s (t + w) n some at in let there = slice_get-get_or s.bytes n 0 within in ap is_some (here ∙ there)),
)
  where
    not-between : (j : ℕ) {i : ℕ} → t + i ≡ s.at + j * s.every → (j < n → s.at + j * s.every < t) → i < w → ⊥
    not-between j e sooner l = elim (cases_lt j n) [ inl k ↦ omega (arith, sooner k) | inr k ↦ omega (arith, later s.at s.every n j k) ]
