-- The path of a counter in closed form: it runs to its turn, and from 0 on it is periodic.
use Rattle.std.proofs.Common.{◌≡◌, ℕ, zero, suc, ◌+◌, ◌-◌, ◌*◌, ◌/◌, ◌%◌, ◌<◌, ◌≤◌, ◌==◌, add-one, add-zero, false, Some, None, refl, sym, ap, ◌∙◌, arith, ◌⊎◌, inl, inr}
use Rattle.std.proofs.lemmas.Nat.{div-add-mod', div-mul-add, mod-mul-add, mod_below}
use Rattle.std.proofs.lemmas.Bool.{cases_lt, eq-eqb, ne_eqb}
use Rattle.std.proofs.lemmas.Bool.Decides.{nat_tests}
use Rattle.std.proofs.Math.Nat.{mod-eq_of_lt}
use Rattle.avr_timers.specs.Counter.{path, stepped, wraps_at}
use Rattle.avr_timers.specs.First.{First}

-- the quotient and the remainder of the next number: either the remainder turns to 0, or it goes on
pub data Next (d m : ℕ) : Type 0 where
  Turns : (m + 1) % d ≡ 0 → (m + 1) / d ≡ m / d + 1 → m % d + 1 ≡ d → Next d m
  Goes : (m + 1) % d ≡ m % d + 1 → (m + 1) / d ≡ m / d → m % d + 1 < d → Next d m

pub next : (d m : ℕ) → 0 < d → Next d m
next d m positive =
    let whole = div-add-mod' m d in
    elim (cases_lt (m % d + 1) d) [
      | inl small ↦
          let e : m + 1 ≡ m / d * d + (m % d + 1) = omega arith in
          Goes (ap (λ x. x % d) e ∙ mod-mul-add (m / d) d (m % d + 1) small) (ap (λ x. x / d) e ∙ div-mul-add (m / d) d (m % d + 1) small) small
      | inr big ↦
          let below = mod_below m d positive in
          let last : m % d + 1 ≡ d = omega arith in
          let e : m + 1 ≡ (m / d + 1) * d + 0 = omega arith in
          Turns (ap (λ x. x % d) e ∙ mod-mul-add (m / d + 1) d 0 positive) (ap (λ x. x / d) e ∙ div-mul-add (m / d + 1) d 0 positive) last
    ]

path-more : (max top c k : ℕ) → path max top c (k + 1) ≡ stepped max top false (path max top c k)
unfolding path
path-more max top c k = rw add-one refl

path-add : (max top c j k : ℕ) → path max top c (j + k) ≡ path max top (path max top c j) k
unfolding path
path-add max top c j zero = rw add-zero refl
path-add max top c j (suc k) =
    let e : j + suc k ≡ suc (j + k) = omega arith in
    rw e (ap (stepped max top false) (path-add max top c j k))

-- a step before the turn goes on, and one at it gives 0
step-on : (max top c k : ℕ) → top ≤ max → c ≤ max → c + k < wraps_at max top c → stepped max top false (c + k) ≡ c + suc k
step-on max top c k ordered fits before = grind (arith, nat_tests)

step-turn : (max top c e : ℕ) → e ≡ wraps_at max top c → stepped max top false e ≡ 0
step-turn max top c e turn = grind (arith, nat_tests)

-- up to the turn
pub path-run : (max top c k : ℕ) → top ≤ max → c ≤ max → c + k ≤ wraps_at max top c → path max top c k ≡ c + k
unfolding path
path-run max top c zero ordered fits before = sym (add-zero c)
path-run max top c (suc k) ordered fits before =
    ap (stepped max top false) (path-run max top c k ordered fits (omega arith)) ∙ step-on max top c k ordered fits (omega arith)

-- from 0 on
step-period : (max top k : ℕ) → top ≤ max → stepped max top false (k % (top + 1)) ≡ (k + 1) % (top + 1)
step-period max top k ordered =
    elim (next (top + 1) k (omega arith)) [
      | Turns rem quo last ↦ grind (arith, nat_tests)
      | Goes rem quo below ↦ grind (arith, nat_tests)
    ]

path-zero : (max top k : ℕ) → top ≤ max → path max top 0 k ≡ k % (top + 1)
unfolding path
path-zero max top zero ordered = grind (arith, nat_tests)
path-zero max top (suc k) ordered =
    ap (stepped max top false) (path-zero max top k ordered) ∙ (step-period max top k ordered ∙ ap (λ x. x % (top + 1)) (add-one k))

turn-bounds : (max top c : ℕ) → top ≤ max → c ≤ max → (c ≤ wraps_at max top c) × (wraps_at max top c ≤ max)
turn-bounds max top c ordered fits = grind (arith, nat_tests)

-- past the turn e
pub path-past : (max top c k e : ℕ) → top ≤ max → c ≤ max → e ≡ wraps_at max top c → e - c < k → path max top c k ≡ (k - (e - c) - 1) % (top + 1)
path-past max top c k e ordered fits turn past =
    let bounds = turn-bounds max top c ordered fits in
    let split : k ≡ (e - c + 1) + (k - (e - c) - 1) = omega arith in
    let at : path max top c (e - c + 1) ≡ 0 =
    path-more max top c (e - c) ∙ (ap (stepped max top false) (path-run max top c (e - c) ordered fits (omega arith)) ∙ step-turn max top c (c + (e - c)) (omega arith)) in
    ap (path max top c) split
    ∙ (path-add max top c (e - c + 1) (k - (e - c) - 1) ∙ (ap (λ x. path max top x (k - (e - c) - 1)) at ∙ path-zero max top (k - (e - c) - 1) ordered))

-- ---- the first clock at which the counter stands at x
not-at : (a b x : ℕ) → a ≡ b → (b ≡ x → ⊥) → (a == x) ≡ false
not-at a b x e other = ne_eqb a x (λ k. other (sym e ∙ k))

-- x is met before the turn
pub first-run : (max top c x e : ℕ) → top ≤ max → c ≤ max → e ≡ wraps_at max top c → c ≤ x → x ≤ e → First (λ k. path max top c k == x) (Some (x - c))
first-run max top c x e ordered fits turn from to = (
  eq-eqb (path max top c (x - c)) x (path-run max top c (x - c) ordered fits (omega arith) ∙ omega arith),
  λ i l. not-at (path max top c i) (c + i) x (path-run max top c i ordered fits (omega arith)) (λ q. omega arith),
)

-- x is not met before the turn
apart : (max top c x e i : ℕ) → top ≤ max → c ≤ max → e ≡ wraps_at max top c → (x < c) ⊎ (e < x) → c + i ≤ e → (path max top c i == x) ≡ false
apart max top c x e i ordered fits turn (inl below) l = not-at (path max top c i) (c + i) x (path-run max top c i ordered fits (omega arith)) (λ q. omega arith)
apart max top c x e i ordered fits turn (inr above) l = not-at (path max top c i) (c + i) x (path-run max top c i ordered fits (omega arith)) (λ q. omega arith)

-- x is met in the round after the turn
pub first-later : (max top c x e : ℕ) → top ≤ max → c ≤ max → e ≡ wraps_at max top c → (x < c) ⊎ (e < x) → x ≤ top → First (λ k. path max top c k == x) (Some (e - c + 1 + x))
first-later max top c x e ordered fits turn out within =
    let bounds = turn-bounds max top c ordered fits in
    let rest : e - c + 1 + x - (e - c) - 1 ≡ x = omega arith in (
      eq-eqb (path max top c (e - c + 1 + x)) x (path-past max top c (e - c + 1 + x) e ordered fits turn (omega arith) ∙ (ap (λ y. y % (top + 1)) rest ∙ mod-eq_of_lt (omega arith))),
      λ i l. elim (cases_lt (e - c) i) [
        | inl past ↦ not-at (path max top c i) (i - (e - c) - 1) x (path-past max top c i e ordered fits turn past ∙ mod-eq_of_lt (omega arith)) (λ q. omega arith)
        | inr soon ↦ apart max top c x e i ordered fits turn out (omega arith)
      ],
    )

-- x is never met
pub first-never : (max top c x e : ℕ) → top ≤ max → c ≤ max → e ≡ wraps_at max top c → (x < c) ⊎ (e < x) → top < x → First (λ k. path max top c k == x) None
first-never max top c x e ordered fits turn out above =
    let bounds = turn-bounds max top c ordered fits in
    λ i. elim (cases_lt (e - c) i) [
      | inl past ↦ (let small = mod_below (i - (e - c) - 1) (top + 1) (omega arith) in not-at (path max top c i) ((i - (e - c) - 1) % (top + 1)) x (path-past max top c i e ordered fits turn past) (λ q. omega arith))
      | inr soon ↦ apart max top c x e i ordered fits turn out (omega arith)
    ]
