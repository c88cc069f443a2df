-- The last of some lines that says a number.
use Rattle.std.proofs.Common.{◌≡◌, ℕ, suc, sym, ◌∙◌, subst, inl, inr, arith}
use Rattle.std.proofs.lemmas.Bool.{cases_lt, cases_order}
use Rattle.ihex_loader.specs.Accepted.{IsLast, NoneSays, LineSays}

-- no line says two numbers
abbrev pub SaysOne : (ℕ → ℕ → Type 0) → Type 0
SaysOne Says = (n x y : ℕ) → Says n x → Says n y → x ≡ y

-- so the last says one
pub last_unique : (Says : ℕ → ℕ → Type 0) (one : SaysOne Says) (n d v w : ℕ) → IsLast Says n d v → IsLast Says n d w → v ≡ w
last_unique Says one n d v w (NoneSays none e) (NoneSays none' e') = e ∙ sym e'
last_unique Says one n d v w (NoneSays none e) (LineSays m lt says last) = absurd (none m w lt says)
last_unique Says one n d v w (LineSays m lt says last) (NoneSays none e) = absurd (none m v lt says)
last_unique Says one n d v w (LineSays m lt says last) (LineSays k lt' says' last') =
    elim (cases_order m k) [
      | inl e ↦ one k v w (subst (λ i. Says i v) e says) says'
      | inr (inl below) ↦ absurd (last k w below lt' says')
      | inr (inr above) ↦ absurd (last' m v above lt says)
    ]

pub last_zero : (Says : ℕ → ℕ → Type 0) (d v : ℕ) → v ≡ d → IsLast Says 0 d v
last_zero Says d v e = NoneSays (λ m x lt says. absurd (omega arith)) e

-- a line that says nothing
pub last_same : (Says : ℕ → ℕ → Type 0) (n d u v : ℕ) → IsLast Says n d u → ((x : ℕ) → Says n x → ⊥) → v ≡ u → IsLast Says (suc n) d v
last_same Says n d u v (NoneSays none e) silent same =
    NoneSays (λ m x lt says. elim (cases_lt m n) [
      | inl below ↦ none m x below says
      | inr top ↦ let at : m ≡ n = omega arith in silent x (subst (λ i. Says i x) at says)
    ]) (same ∙ e)
last_same Says n d u v (LineSays m lt says last) silent same =
    LineSays m (omega arith) (subst (λ i. Says m i) (sym same) says) (λ k x above below says'. elim (cases_lt k n) [
      | inl early ↦ last k x above early says'
      | inr top ↦ let at : k ≡ n = omega arith in silent x (subst (λ i. Says i x) at says')
    ])

-- a line that says a number
pub last_new : (Says : ℕ → ℕ → Type 0) (n d v : ℕ) → Says n v → IsLast Says (suc n) d v
last_new Says n d v says = LineSays n (omega arith) says (λ k x above below _. absurd (omega arith))
