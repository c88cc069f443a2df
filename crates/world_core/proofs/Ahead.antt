-- From a send of a node on, and for the byte time that begins with it, the node sends nothing more.
use Rattle.std.proofs.Common.{◌≡◌, ℕ, zero, suc, ◌+◌, ◌<◌, ◌≤◌, Bool, true, false, cond, List, [], ◌∷◌, length, get_or, refl, sym, subst, ◌∙◌, ap, arith}
use Rattle.std.specs.Prelude.{nat_lt}
use Rattle.std.specs.List.{filter}
use Rattle.std.proofs.lemmas.Bool.Decides.{nat_tests}
use Rattle.air_base.specs.declared.air.Send.{Send}
use Rattle.world_core.specs.declared.world.WorldFacts.{WorldFacts}
use Rattle.world_core.specs.Lawful.{IsLawful}
use Rattle.world_core.specs.Sends.{sends_of, sends_below, IsSendNumber}
use Rattle.world_core.proofs.Spaced.{is_spaced, spaced}

module _ (c gap : ℕ) where
  abbrev early : List Send → List Send
  early l = filter (λ y. nat_lt y.cycle c) l

  one_more : (b : Bool) (x : Send) (ys : List Send) → length (cond b (x ∷ ys) ys) ≤ suc (length ys)
  one_more true x ys = omega arith
  one_more false x ys = omega arith

  none_late : (from : ℕ) (l : List Send) → is_spaced gap from l ≡ true → c ≤ from → length (early l) ≡ 0
  none_late from [] e le = refl
  none_late from (x ∷ xs) e le =
      let a : (from ≤ x.cycle) × (is_spaced gap (x.cycle + gap) xs ≡ true) = grind (arith, nat_tests) in
      let t : nat_lt x.cycle c ≡ false = grind (arith, nat_tests) in
      ap (λ (b : Bool). length (cond b (x ∷ early xs) (early xs))) t ∙ none_late (x.cycle + gap) xs a.1 (omega arith)

  below_at : (from n : ℕ) (d : Send) (l : List Send) → is_spaced gap from l ≡ true → n < length l → c ≤ (get_or l n d).cycle + gap → length (early l) ≤ suc n
  below_at from n d [] e lt at = absurd (omega arith)
  below_at from zero d (x ∷ xs) e lt at =
      let a : (from ≤ x.cycle) × (is_spaced gap (x.cycle + gap) xs ≡ true) = grind (arith, nat_tests) in
      let m = one_more (nat_lt x.cycle c) x (early xs) in
      let z = none_late (x.cycle + gap) xs a.1 at in omega arith
  below_at from (suc n) d (x ∷ xs) e lt at =
      let a : (from ≤ x.cycle) × (is_spaced gap (x.cycle + gap) xs ≡ true) = grind (arith, nat_tests) in
      let m = one_more (nat_lt x.cycle c) x (early xs) in
      let r = below_at (x.cycle + gap) n d xs a.1 (omega arith) at in omega arith

pub below_ahead : (w : WorldFacts) (n c : ℕ) (x : Send) → IsLawful w → IsSendNumber w n x → c ≤ x.cycle + w.topo.byte_time → sends_below w.sends x.node c ≤ n + 1
unfolding sends_below
below_ahead w n c x law is le =
    let l = sends_of x.node w.sends in
    let r = below_at c w.topo.byte_time 0 n x l (spaced w x.node law) is.0 (subst (λ (y : Send). c ≤ y.cycle + w.topo.byte_time) (sym is.1) le) in omega arith
