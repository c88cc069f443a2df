-- A list of sends that lie apart, told from its front on: each send behind the one before it.
use Rattle.std.proofs.Common.{◌≡◌, ℕ, zero, suc, ◌+◌, ◌≤◌, Bool, true, ◌&&◌, List, [], ◌∷◌, refl, arith}
use Rattle.std.specs.Prelude.{nat_le}
use Rattle.std.specs.List.{All, AllPairs}
use Rattle.std.proofs.lemmas.List.Kept.{AllPairs-cons}
use Rattle.std.proofs.lemmas.Bool.Decides.{nat_tests}
use Rattle.air_base.specs.declared.air.Send.{Send}
use Rattle.world_core.specs.declared.world.WorldFacts.{WorldFacts}
use Rattle.world_core.specs.Sends.{sends_of}
use Rattle.world_core.specs.Lawful.{IsLawful}

-- each send is at `from` or later, and at least `gap` after the one before it
abbrev pub is_spaced : ℕ → ℕ → List Send → Bool
is_spaced gap from [] = true
is_spaced gap from (x ∷ xs) = nat_le from x.cycle && is_spaced gap (x.cycle + gap) xs

abbrev pub AreApart : ℕ → List Send → Type 0
AreApart gap = AllPairs (λ x y. x.cycle + gap ≤ y.cycle)

pub spaced_from : (gap from : ℕ) (l : List Send) → All (λ x. from ≤ x.cycle) l → AreApart gap l → is_spaced gap from l ≡ true
spaced_from gap from [] late apart = refl
spaced_from gap from (x ∷ xs) late apart =
    let here : from ≤ x.cycle = late 0 x (omega arith) in
    let rest = spaced_from gap (x.cycle + gap) xs (λ k d lt. apart 0 (suc k) d (omega arith) (omega arith)) (λ i j d lt le. apart (suc i) (suc j) d (omega arith) (omega arith)) in
    grind (arith, nat_tests)

pub spaced : (w : WorldFacts) (k : ℕ) → IsLawful w → is_spaced w.topo.byte_time 0 (sends_of k w.sends) ≡ true
spaced w k law = spaced_from w.topo.byte_time 0 (sends_of k w.sends) (λ i d lt. omega arith) (law.sends_apart k)

-- the other way
pub late_from : (gap from : ℕ) (l : List Send) → is_spaced gap from l ≡ true → All (λ x. from ≤ x.cycle) l
late_from gap from [] e k d lt = absurd (omega arith)
late_from gap from (x ∷ xs) e zero d lt = grind (arith, nat_tests)
late_from gap from (x ∷ xs) e (suc k) d lt =
    let a : (from ≤ x.cycle) × (is_spaced gap (x.cycle + gap) xs ≡ true) = grind (arith, nat_tests) in
    let b = late_from gap (x.cycle + gap) xs a.1 k d (omega arith) in omega arith

pub apart_from : (gap from : ℕ) (l : List Send) → is_spaced gap from l ≡ true → AreApart gap l
apart_from gap from [] e = λ i j d lt le. absurd (omega arith)
apart_from gap from (x ∷ xs) e =
    let a : is_spaced gap (x.cycle + gap) xs ≡ true = grind (arith, nat_tests) in
    AllPairs-cons (λ (x y : Send). x.cycle + gap ≤ y.cycle) x xs (late_from gap (x.cycle + gap) xs a) (apart_from gap (x.cycle + gap) xs a)
