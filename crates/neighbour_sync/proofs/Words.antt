-- Words after one of them is stored, and where they lie.
use Rattle.std.proofs.Common.{◌≡◌, ℕ, zero, suc, ◌<◌, ◌≢◌, List, [], ◌∷◌, length, replicate, refl, sym, arith}
use Rattle.std.proofs.lemmas.List.{get_or-set_same, get_or-set_other}
use Rattle.std.specs.Prelude.{slice_index, slice_set}
use mathlib.Core.Option.{some, some-ne-none}
use lib.ListN.{get_elem?}
use Rattle.neighbour_sync.specs.Layout.{word_at, line_of}

pub line : (i : ℕ) → line_of (word_at i) ≡ i
line i = omega arith

pub here : (words : List ℕ) (i c : ℕ) → i < length words → slice_index (slice_set words i c) i ≡ c
here words i c h = get_or-set_same words i c 0 h

pub beside : (words : List ℕ) (i j c : ℕ) → j ≢ i → slice_index (slice_set words i c) j ≡ slice_index words j
beside words i j c d = get_or-set_other words i j c 0 d

pub zeros : (n i : ℕ) → slice_index (replicate n 0) i ≡ 0
zeros zero i = refl
zeros (suc n) zero = refl
zeros (suc n) (suc i) = zeros n i

pub has_place : {A : Type 0} (l : List A) (i : ℕ) (a : A) → get_elem? l i ≡ some a → i < length l
has_place [] i a e = absurd (some-ne-none a (sym e))
has_place (x ∷ xs) zero a e = omega arith
has_place (x ∷ xs) (suc i) a e = let p = has_place xs i a e in omega arith
