-- One send more, of those that are heard.
use Rattle.std.proofs.Common.{◌≡◌, ℕ, ◌+◌, Bool, true, false, cond, List, [], ◌∷◌, ◌++◌, refl, sym, subst, ◌∙◌, ap, ◌<◌, length, take, get_or, append-nil, ◌≤◌, take_all}
use Rattle.std.specs.Prelude.{bit_or}
use Rattle.std.specs.List.{filter}
use Rattle.std.specs.Int.Bits.{or_zero_r}
use Rattle.std.proofs.lemmas.List.Elements.{filter_more}
use Rattle.air_base.specs.declared.air.Send.{Send}
use Rattle.air_base.specs.declared.air.Heard.{Heard}
use Rattle.world_core.specs.Topology.{Topology}
use Rattle.world_core.specs.Heard.{heard, age_of, is_audible, heard_as, heard_from, or_of}
use Rattle.world_core.specs.HeardMore.{heard_with}
use Rattle.world_core.proofs.Order.{or_assoc}

or_push : (xs : List Send) (x : Send) → or_of (xs ++ x ∷ []) ≡ bit_or (or_of xs) x.byte
or_push [] x = or_zero_r x.byte
or_push (y ∷ ys) x = ap (λ (n : ℕ). bit_or y.byte n) (or_push ys x) ∙ sym (or_assoc y.byte (or_of ys) x.byte)

pub heard_push : (age : Send → ℕ) (xs : List Send) (x : Send) → heard_from age (xs ++ x ∷ []) ≡ heard_with age (heard_from age xs) x
heard_push age [] x = refl
heard_push age (y ∷ []) x = ap (λ (n : ℕ). heard_as 2 (bit_or y.byte n) 0) (or_zero_r x.byte)
heard_push age (y ∷ z ∷ zs) x = ap (λ (n : ℕ). heard_as 2 n 0) (or_push (y ∷ z ∷ zs) x)

filter_step : (p : Send → Bool) (xs : List Send) (i : ℕ) (d : Send) → i < length xs → filter p (take (i + 1) xs) ≡ filter p (take i xs) ++ filter p (get_or xs i d ∷ [])
filter_step p xs i d lt = filter_more p xs i d lt

step_case : (age : Send → ℕ) (p : Send → Bool) (ys : List Send) (x : Send) (b : Bool) → p x ≡ b → (before after : Heard) → before ≡ heard_from age ys
    → (p x ≡ true → after ≡ heard_with age before x) → (p x ≡ false → after ≡ before) → after ≡ heard_from age (ys ++ filter p (x ∷ []))
step_case age p ys x true t before after e on off =
    let f : filter p (x ∷ []) ≡ x ∷ [] = ap (λ (v : Bool). cond v (x ∷ []) []) t in
    on t ∙ ap (λ (h : Heard). heard_with age h x) e ∙ sym (heard_push age ys x) ∙ ap (λ (l : List Send). heard_from age (ys ++ l)) (sym f)
step_case age p ys x false t before after e on off =
    let f : ys ++ filter p (x ∷ []) ≡ ys = ap (λ (v : Bool). ys ++ cond v (x ∷ []) []) t ∙ append-nil ys in
    off t ∙ e ∙ ap (heard_from age) (sym f)

-- a loop's step
pub heard_step : (age : Send → ℕ) (p : Send → Bool) (xs : List Send) (i : ℕ) (d : Send) (before after : Heard) → i < length xs
    → before ≡ heard_from age (filter p (take i xs))
    → (p (get_or xs i d) ≡ true → after ≡ heard_with age before (get_or xs i d)) → (p (get_or xs i d) ≡ false → after ≡ before)
    → after ≡ heard_from age (filter p (take (i + 1) xs))
heard_step age p xs i d before after lt e on off =
    subst (λ (l : List Send). after ≡ heard_from age l) (sym (filter_step p xs i d lt)) (step_case age p (filter p (take i xs)) (get_or xs i d) (p (get_or xs i d)) refl before after e on off)

pub heard_all : (t : Topology) (xs : List Send) (j s i : ℕ) (h : Heard) → length xs ≤ i → h ≡ heard_from (age_of t j s) (filter (is_audible t j s) (take i xs)) → h ≡ heard t xs j s
unfolding heard
heard_all t xs j s i h le e = e ∙ ap (λ (l : List Send). heard_from (age_of t j s) (filter (is_audible t j s) l)) (take_all i xs le)
