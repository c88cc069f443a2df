-- Stretches in order: the next byte is that of the first that is not over.
use Rattle.std.proofs.Common.{◌≡◌, ℕ, zero, suc, ◌+◌, ◌-◌, ◌*◌, ◌<◌, ◌≤◌, nat_le, nat_lt, Bor, option_map, IfSome, true, false, Option, Some, None, inl, inr, is_some, List, [], ◌∷◌, ◌++◌, length, get_or, take, refl, sym, ap, subst, ◌∙◌, arith}
use Rattle.std.specs.List.{All, AllPairs, slice_get}
use Rattle.std.specs.List.Sorted.{IsNonDecreasingBy, IsPartitionPoint}
use Rattle.std.specs.Option.{option_or}
use Rattle.std.proofs.lemmas.Bool.{cases_lt, leb-true}
use Rattle.std.proofs.lemmas.Bool.Decides.{nat_tests}
use Rattle.std.proofs.lemmas.List.{take_more}
use Rattle.std.proofs.lemmas.List.Elements.{All-push, All-weaker}
use Rattle.std.proofs.lemmas.List.Quantifiers.{all_pairs_push}
use Rattle.std.proofs.lemmas.Option.{slice_get-get_or, slice_get_past, slice_get_read}
use Rattle.serial_ports.specs.InOrder.{AreInOrder, IsNext, behind}
use Rattle.serial_ports.specs.Script.{Arrives, IsByteOf, StretchBytes, first_byte, stretch_byte}
use Rattle.serial_ports.proofs.ScriptArrivals.{or-none}
use Rattle.serial_ports.proofs.StretchArrivals.{arrives, later, stretch-at, stretch-none, stretch-some}

-- ---- a stretch before its first byte and behind its last
soon-none : (s : StretchBytes) (t : ℕ) → 1 ≤ s.every → t < s.at → stretch_byte s t ≡ None
soon-none s t some soon = stretch-none s t some (λ i l e. omega arith)

over-none : (s : StretchBytes) (t : ℕ) → 1 ≤ s.every → behind s ≤ t → stretch_byte s t ≡ None
over-none s t some over = stretch-none s t some (λ i l e. (let m = later s.at s.every i (length s.bytes - 1) (omega arith) in omega arith))

-- it has its last byte
last-some : (s : StretchBytes) (t : ℕ) → 1 ≤ s.every → 1 ≤ length s.bytes → t + 1 ≡ behind s → is_some (stretch_byte s t) ≡ true
last-some s t some byte e =
    let here = stretch-at s t (length s.bytes - 1) some (omega arith) in
    let there = slice_get-get_or s.bytes (length s.bytes - 1) 0 (omega arith) in
    ap is_some (here ∙ there)

pub calm-within : (s : StretchBytes) (t n : ℕ) → 1 ≤ s.every → 1 ≤ length s.bytes → t < behind s → ((i : ℕ) → i < n → stretch_byte s (t + i) ≡ None)
    → (i : ℕ) → i < n → t + i < behind s
calm-within s t n some byte on none i l = elim (cases_lt (t + i) (behind s)) [ inl k ↦ k | inr k ↦ absurd (never k) ]
  where
    never : behind s ≤ t + i → ⊥
    never k =
        let j : ℕ = behind s - 1 - t in
        let there = last-some s (t + j) some byte (omega arith) in
        let gone = none j (omega arith) in
        let no_byte : is_some (stretch_byte s (t + j)) ≡ false = ap is_some gone in
        absurd (cc)

pub some-within : (s : StretchBytes) (t : ℕ) → 1 ≤ s.every → is_some (stretch_byte s t) ≡ true → t < behind s
some-within s t some byte = elim (cases_lt t (behind s)) [ inl k ↦ k | inr k ↦ (let none = ap is_some (over-none s t some k) in absurd cc) ]

-- ---- the byte of the one stretch that may have one
none-all : (xs : List StretchBytes) (t : ℕ) (d : StretchBytes) → ((i : ℕ) → i < length xs → stretch_byte (get_or xs i d) t ≡ None) → first_byte xs t ≡ None
unfolding first_byte
none-all [] t d none = refl
none-all (x ∷ xs) t d none = ap (λ (o : Option ℕ). option_or o (first_byte xs t)) (none 0 (omega arith)) ∙ none-all xs t d (λ i l. none (suc i) (omega arith))

one-of : (xs : List StretchBytes) (t n : ℕ) (d : StretchBytes) → n < length xs → ((i : ℕ) → i < n → stretch_byte (get_or xs i d) t ≡ None)
    → ((i : ℕ) → n < i → i < length xs → stretch_byte (get_or xs i d) t ≡ None) → first_byte xs t ≡ stretch_byte (get_or xs n d) t
unfolding first_byte
one-of [] t n d l before after = absurd (omega arith)
one-of (x ∷ xs) t zero d l before after =
    ap (option_or (stretch_byte x t)) (none-all xs t d (λ i k. after (suc i) (omega arith) (omega arith))) ∙ or-none (stretch_byte x t)
one-of (x ∷ xs) t (suc n) d l before after =
    ap (λ (o : Option ℕ). option_or o (first_byte xs t)) (before 0 (omega arith))
    ∙ one-of xs t n d (omega arith) (λ i k. before (suc i) (omega arith)) (λ i k m. after (suc i) (omega arith) (omega arith))

-- ---- the first that is not over
pub rises : (ss : List StretchBytes) → AreInOrder ss → IsNonDecreasingBy behind ss
rises ss o i j d le lt = elim (cases_lt i j) [
  | inl k ↦ (let a = o.apart i j d k lt in omega arith)
  | inr k ↦ (let e : i ≡ j = omega arith in let q = ap (λ (m : ℕ). behind (get_or ss m d)) e in omega arith)
]

module _ (ss : List StretchBytes) (t n : ℕ) (o : AreInOrder ss) (point : IsPartitionPoint (λ s. nat_le (behind s) t ≡ true) (λ s. nat_le (behind s) t ≡ false) ss n) where
  nothing : StretchBytes
  nothing = record { at = 0; every = 1; bytes = [] }

  over : (i u : ℕ) → i < n → i < length ss → t ≤ u → stretch_byte (get_or ss i nothing) u ≡ None
  over i u l within from =
      let past = leb-true (behind (get_or ss i nothing)) t (point.0 i nothing (omega arith) l) in
      over-none (get_or ss i nothing) u (o.some i nothing within).0 (omega arith)

  here : n < length ss → IsNext ss t (Some (get_or ss n nothing))
  here k =
      let x : StretchBytes = get_or ss n nothing in
      let facts = o.some n nothing k in
      let off = point.1 n nothing (omega arith) k in (
        facts.0,
        facts.1,
        grind (arith, nat_tests),
        λ u from until. one-of ss u n nothing k (λ i l. over i u l (omega arith) from) (λ i l m. (let a = o.apart n i nothing l m in soon-none (get_or ss i nothing) u (o.some i nothing m).0 (omega arith))),
      )

  pub next : IsNext ss t (slice_get ss n)
  next = elim (cases_lt n (length ss)) [
    | inl k ↦ subst (λ (x : Option StretchBytes). IsNext ss t x) (sym (slice_get-get_or ss n nothing k)) (here k)
    | inr k ↦ subst (λ (x : Option StretchBytes). IsNext ss t x) (sym (slice_get_past ss n k)) (λ u from. none-all ss u nothing (λ i l. over i u (omega arith) l from))
  ]

-- the stretch that a look-up gives
pub got : (xs : List StretchBytes) (n : ℕ) (o : Option (Bor StretchBytes)) → is_some o ≡ nat_lt n (length xs) → IfSome o (λ x. x.now ≡ get_or xs n x.now) → slice_get xs n ≡ option_map (λ x. x.now) o
got xs n (Some x) e h = slice_get_read xs (length xs) n x.now refl (grind (arith, nat_tests)) h
got xs n None e h = slice_get_past xs n (grind (arith, nat_tests))

-- ---- the law of arrivals, from the byte alone
-- of a stretch before others, by whether it has a byte
some-behind : (x : StretchBytes) (xs : List StretchBytes) (t b : ℕ) (o : Option ℕ) → 1 ≤ x.every → stretch_byte x t ≡ o → option_or o (first_byte xs t) ≡ Some b
    → (first_byte xs t ≡ Some b → Arrives (record { stretches = xs }) t (Some b)) → Arrives (record { stretches = x ∷ xs }) t (Some b)
some-behind x xs t b (Some c) some is h more = (0, x, refl, stretch-some x t b some (is ∙ h), λ j y l k. absurd (omega arith))
some-behind x xs t b None some is h more = let r = more h in (suc r.0, r.1, r.2, r.3, before r)
  where
    before : (r : Arrives (record { stretches = xs }) t (Some b)) (j : ℕ) (y : StretchBytes) → j < suc r.0 → slice_get (x ∷ xs) j ≡ Some y → IsByteOf y t None
    before r zero y l k = let same : x ≡ y = cc in subst (λ (z : StretchBytes). IsByteOf z t None) same (arrives x t None some (sym is))
    before r (suc j) y l k = r.4 j y (omega arith) k

some-arrives : (xs : List StretchBytes) (t b : ℕ) → ((i : ℕ) (d : StretchBytes) → i < length xs → 1 ≤ (get_or xs i d).every) → first_byte xs t ≡ Some b → Arrives (record { stretches = xs }) t (Some b)
unfolding first_byte
some-arrives [] t b some e = absurd cc
some-arrives (x ∷ xs) t b some e = some-behind x xs t b (stretch_byte x t) (some 0 x (omega arith)) refl e (λ h. some-arrives xs t b (λ i d l. some (suc i) d (omega arith)) h)

none-behind : (x : StretchBytes) (xs : List StretchBytes) (t : ℕ) (o : Option ℕ) → 1 ≤ x.every → stretch_byte x t ≡ o → option_or o (first_byte xs t) ≡ None
    → (first_byte xs t ≡ None → (j : ℕ) (y : StretchBytes) → slice_get xs j ≡ Some y → IsByteOf y t None)
    → (j : ℕ) (y : StretchBytes) → slice_get (x ∷ xs) j ≡ Some y → IsByteOf y t None
none-behind x xs t (Some c) some is h more j y k = absurd cc
none-behind x xs t None some is h more zero y k = let same : x ≡ y = cc in subst (λ (z : StretchBytes). IsByteOf z t None) same (arrives x t None some (sym is))
none-behind x xs t None some is h more (suc j) y k = more h j y k

none-arrives : (xs : List StretchBytes) (t : ℕ) → ((i : ℕ) (d : StretchBytes) → i < length xs → 1 ≤ (get_or xs i d).every) → first_byte xs t ≡ None
    → (j : ℕ) (y : StretchBytes) → slice_get xs j ≡ Some y → IsByteOf y t None
unfolding first_byte
none-arrives [] t some e j y k = absurd cc
none-arrives (x ∷ xs) t some e j y k =
    none-behind x xs t (stretch_byte x t) (some 0 x (omega arith)) refl e (λ h. none-arrives xs t (λ i d l. some (suc i) d (omega arith)) h) j y k

pub first-arrives : (xs : List StretchBytes) (t : ℕ) (o : Option ℕ) → ((i : ℕ) (d : StretchBytes) → i < length xs → 1 ≤ (get_or xs i d).every) → o ≡ first_byte xs t → Arrives (record { stretches = xs }) t o
first-arrives xs t (Some b) some e = some-arrives xs t b some (sym e)
first-arrives xs t None some e = none-arrives xs t some (sym e)

-- ---- stretches in order up to a cycle
pub record AreUpTo (ss : List StretchBytes) (from : ℕ) : Type 0 where
  pub order : AreInOrder ss
  pub last : All (λ s. behind s ≤ from) ss

pub up-none : AreUpTo [] 0
up-none = record {
  order = record { some = λ i d l. absurd (omega arith); apart = λ i j d l k. absurd (omega arith) };
  last = λ i d l. absurd (omega arith);
}

up-push : (ys : List StretchBytes) (x : StretchBytes) (from : ℕ) → 1 ≤ x.every → from ≤ x.at → 1 ≤ length x.bytes → AreUpTo ys from → AreUpTo (ys ++ x ∷ []) (behind x)
up-push ys x from some begins byte p = record {
  order = record {
    some = All-push (λ s. (1 ≤ s.every) × (1 ≤ length s.bytes)) ys x p.order.some (some, byte);
    apart = all_pairs_push (λ a b. behind a ≤ b.at) ys x p.order.apart (λ k d l. (let b = p.last k d l in omega arith));
  };
  last = All-push (λ s. behind s ≤ behind x) ys x (All-weaker (λ s. behind s ≤ from) (λ s. behind s ≤ behind x) (λ s b. omega arith) ys p.last) (omega arith);
}

pub up-more : (xs : List StretchBytes) (i : ℕ) (d : StretchBytes) (from : ℕ) → i < length xs → 1 ≤ (get_or xs i d).every → from ≤ (get_or xs i d).at → 1 ≤ length (get_or xs i d).bytes
    → AreUpTo (take i xs) from → AreUpTo (take (i + 1) xs) (behind (get_or xs i d))
up-more xs i d from l some begins byte p =
    subst (λ (ys : List StretchBytes). AreUpTo ys (behind (get_or xs i d))) (sym (take_more xs i d l)) (up-push (take i xs) (get_or xs i d) from some begins byte p)
