-- Lists made number by number, and filters of them.
use Rattle.std.proofs.Common.{◌≡◌, ℕ, zero, suc, ◌<◌, ◌≢◌, Bool, true, false, cond, List, [], ◌∷◌, ◌++◌, refl, sym, subst, ◌∙◌, ap, arith, append-nil}
use Rattle.std.specs.List.{filter, All, Contains}
use Rattle.std.proofs.lemmas.List.Elements.{filter-append, All-append, All-nil, All-head, All-tail, Contains-append_left, Contains-append_right}
use native.Mathlib.Decide.{ℕ_discrete}
use Rattle.air_base.specs.Each.{each_below}

module _ {X : Type 0} where
  pub filter_none : (p : X → Bool) (xs : List X) → All (λ x. p x ≡ false) xs → filter p xs ≡ []
  filter_none p [] a = refl
  filter_none p (x ∷ xs) a =
      ap (λ (b : Bool). cond b (x ∷ filter p xs) (filter p xs)) (All-head (λ (y : X). p y ≡ false) x xs a)
      ∙ filter_none p xs (All-tail (λ (y : X). p y ≡ false) x xs a)

  pub filter_whole : (p : X → Bool) (xs : List X) → All (λ x. p x ≡ true) xs → filter p xs ≡ xs
  filter_whole p [] a = refl
  filter_whole p (x ∷ xs) a =
      ap (λ (b : Bool). cond b (x ∷ filter p xs) (filter p xs)) (All-head (λ (y : X). p y ≡ true) x xs a)
      ∙ ap (λ (l : List X). x ∷ l) (filter_whole p xs (All-tail (λ (y : X). p y ≡ true) x xs a))

  pub filter_each : (p : X → Bool) (n : ℕ) (g : ℕ → List X) → filter p (each_below n g) ≡ each_below n (λ k. filter p (g k))
  filter_each p zero g = refl
  filter_each p (suc n) g = filter-append p (each_below n g) (g n) ∙ ap (λ (l : List X). l ++ filter p (g n)) (filter_each p n g)

  pub All_each : (P : X → Type 0) (n : ℕ) (g : ℕ → List X) → ((k : ℕ) → k < n → All P (g k)) → All P (each_below n g)
  All_each P zero g a = All-nil P
  All_each P (suc n) g a = All-append P (each_below n g) (g n) (All_each P n g (λ k h. a k (omega arith))) (a n (omega arith))

  pub each_same : (n : ℕ) (g h : ℕ → List X) → ((k : ℕ) → k < n → g k ≡ h k) → each_below n g ≡ each_below n h
  each_same zero g h e = refl
  each_same (suc n) g h e = (λ i. each_same n g h (λ k l. e k (omega arith)) i ++ e n (omega arith) i)

  pub each_none : (n : ℕ) (g : ℕ → List X) → ((k : ℕ) → k < n → g k ≡ []) → each_below n g ≡ []
  each_none zero g e = refl
  each_none (suc n) g e = ap (λ (l : List X). l ++ g n) (each_none n g (λ k l. e k (omega arith))) ∙ e n (omega arith)

  one_case : (n k : ℕ) (g : ℕ → List X) → Dec (k ≡ n) → k < suc n → ((j : ℕ) → j < suc n → j ≢ k → g j ≡ [])
      → (k < n → each_below n g ≡ g k) → each_below n g ++ g n ≡ g k
  one_case n k g (yes e) h none next =
      ap (λ (l : List X). l ++ g n) (each_none n g (λ j l. none j (omega arith) (λ q. absurd (omega arith)))) ∙ ap g (sym e)
  one_case n k g (no d) h none next =
      ap (λ (l : List X). each_below n g ++ l) (none n (omega arith) (λ q. d (sym q))) ∙ append-nil (each_below n g) ∙ next (omega arith)

  -- only number k gives anything
  pub each_one : (n k : ℕ) (g : ℕ → List X) → k < n → ((j : ℕ) → j < n → j ≢ k → g j ≡ []) → each_below n g ≡ g k
  each_one zero k g h none = absurd (omega arith)
  each_one (suc n) k g h none = one_case n k g (ℕ_discrete k n) h none (λ l. each_one n k g l (λ j m d. none j (omega arith) d))

  in_case : (n k : ℕ) (g : ℕ → List X) (x : X) → Dec (k ≡ n) → k < suc n → Contains (g k) x → (k < n → Contains (each_below n g) x) → Contains (each_below n g ++ g n) x
  in_case n k g x (yes e) h c next = Contains-append_right (each_below n g) (g n) x (subst (λ (j : ℕ). Contains (g j) x) e c)
  in_case n k g x (no d) h c next = Contains-append_left (each_below n g) (g n) x (next (omega arith))

  pub each_contains : (n k : ℕ) (g : ℕ → List X) (x : X) → k < n → Contains (g k) x → Contains (each_below n g) x
  each_contains zero k g x h c = absurd (omega arith)
  each_contains (suc n) k g x h c = in_case n k g x (ℕ_discrete k n) h c (λ l. each_contains n k g x l c)
