-- The loops of a topology: the greatest latency, the place of a link, and spans that stand in order.
use Rattle.std.proofs.Common.{◌≡◌, ℕ, zero, suc, ◌+◌, ◌-◌, ◌<◌, ◌≤◌, max, Bool, true, false, cond, ◌&&◌, ◌||◌, ◌==◌, List, [], ◌∷◌, ◌++◌, length, take, get_or, refl, sym, subst, ◌∙◌, ap, arith}
use Rattle.std.specs.List.{All, list_any}
use Rattle.std.proofs.lemmas.List.{take_more, get_or_default}
use Rattle.std.proofs.lemmas.Bool.Decides.{nat_tests}
use native.Mathlib.Decide.{ℕ_discrete}
use Rattle.world_core.specs.declared.link_table.Link.{Link}
use Rattle.world_core.specs.declared.spans.Span.{Span}
use Rattle.world_core.specs.Topology.{greatest, place_in, IsSpan, IsSpanOrder}

greatest_push : (xs : List ℕ) (y n : ℕ) → greatest (xs ++ y ∷ []) n ≡ max (greatest xs n) y
greatest_push [] y n = omega arith
greatest_push (x ∷ xs) y n = let a = greatest_push xs y n in omega arith

pub greatest_more : (xs : List ℕ) (i n most : ℕ) → i < length xs → most ≡ greatest (take i xs) n → greatest (take (i + 1) xs) n ≡ max most (get_or xs i 0)
greatest_more xs i n most lt e = ap (λ (l : List ℕ). greatest l n) (take_more xs i 0 lt) ∙ greatest_push (take i xs) (get_or xs i 0) n ∙ ap (λ (m : ℕ). max m (get_or xs i 0)) (sym e)

-- the greatest of numbers in a range lies in it
pub greatest_in : (xs : List ℕ) (n a b : ℕ) → All (λ m. (a ≤ m) × (m ≤ b)) xs → a ≤ n → n ≤ b → (a ≤ greatest xs n) × (greatest xs n ≤ b)
greatest_in [] n a b all f t = (f, t)
greatest_in (x ∷ xs) n a b all f t =
    let h = greatest_in xs n a b (λ i d lt. all (suc i) d (omega arith)) f t in
    let low = h.0 in let high = h.1 in let g = all 0 x (omega arith) in let l = g.0 in let m = g.1 in
    (omega arith, omega arith)

abbrev pub joins : ℕ → ℕ → Link → Bool
joins k j l = (l.from == k) && (l.to == j)

pub none_case : (b rest : Bool) (m n : ℕ) → (b || rest) ≡ false → (rest ≡ false → m ≡ n) → cond b 0 (suc m) ≡ suc n
none_case true rest m n e next = absurd cc
none_case false rest m n e next = ap (λ (k : ℕ). suc k) (next e)

pub place_none : (xs : List Link) (k j : ℕ) → list_any (joins k j) xs ≡ false → place_in xs k j ≡ length xs
place_none [] k j e = refl
place_none (x ∷ xs) k j e = none_case (joins k j x) (list_any (joins k j) xs) (place_in xs k j) (length xs) e (place_none xs k j)

joins_at : (k j : ℕ) (l : Link) → l.from ≡ k → l.to ≡ j → joins k j l ≡ true
joins_at k j l a b = grind (arith, nat_tests)

pub place_at : (xs : List Link) (k j i : ℕ) (d : Link) → i < length xs → list_any (joins k j) (take i xs) ≡ false → (get_or xs i d).from ≡ k → (get_or xs i d).to ≡ j → place_in xs k j ≡ i
place_at [] k j i d lt e a b = absurd (omega arith)
place_at (x ∷ xs) k j zero d lt e a b = ap (λ (v : Bool). cond v 0 (suc (place_in xs k j))) (joins_at k j x a b)
place_at (x ∷ xs) k j (suc i) d lt e a b = none_case (joins k j x) (list_any (joins k j) (take i xs)) (place_in xs k j) i e (λ f. place_at xs k j i d (omega arith) f a b)

order_through : (x y z : Span) → y.from < y.until → IsSpanOrder x y → IsSpanOrder y z → IsSpanOrder x z
order_through x y z h a b = (let p = a.0 in let q = b.0 in omega arith, λ e. let p = a.0 in let q = b.0 in let u = a.1 (omega arith) in let v = b.1 (omega arith) in omega arith)

apart_last : (xs : List Span) (count p i : ℕ) (d : Span) → All (IsSpan count) xs → 1 ≤ p → p < length xs → ((i j : ℕ) (d : Span) → i < j → j < p → IsSpanOrder (get_or xs i d) (get_or xs j d))
    → IsSpanOrder (get_or xs (p - 1) d) (get_or xs p d) → i < p → Dec (i ≡ p - 1) → IsSpanOrder (get_or xs i d) (get_or xs p d)
apart_last xs count p i d spans pos lt old new le (yes e) = subst (λ (m : ℕ). IsSpanOrder (get_or xs m d) (get_or xs p d)) (sym e) new
apart_last xs count p i d spans pos lt old new le (no q) =
    order_through (get_or xs i d) (get_or xs (p - 1) d) (get_or xs p d) (spans (p - 1) d (omega arith)).1 (old i (p - 1) d (omega arith) (omega arith)) new

apart_case : (xs : List Span) (count p i j : ℕ) (d : Span) → All (IsSpan count) xs → 1 ≤ p → p < length xs → ((i j : ℕ) (d : Span) → i < j → j < p → IsSpanOrder (get_or xs i d) (get_or xs j d))
    → IsSpanOrder (get_or xs (p - 1) d) (get_or xs p d) → i < j → j < p + 1 → Dec (j ≡ p) → IsSpanOrder (get_or xs i d) (get_or xs j d)
apart_case xs count p i j d spans pos lt old new ij jp (yes e) =
    subst (λ (m : ℕ). IsSpanOrder (get_or xs i d) (get_or xs m d)) (sym e) (apart_last xs count p i d spans pos lt old new (omega arith) (ℕ_discrete i (p - 1)))
apart_case xs count p i j d spans pos lt old new ij jp (no q) = old i j d ij (omega arith)

pub apart_more : (xs : List Span) (count p : ℕ) → All (IsSpan count) xs → 1 ≤ p → p < length xs → ((i j : ℕ) (d : Span) → i < j → j < p → IsSpanOrder (get_or xs i d) (get_or xs j d))
    → ((d : Span) → IsSpanOrder (get_or xs (p - 1) d) (get_or xs p d)) → (i j : ℕ) (d : Span) → i < j → j < p + 1 → IsSpanOrder (get_or xs i d) (get_or xs j d)
apart_more xs count p spans pos lt old new i j d ij jp = apart_case xs count p i j d spans pos lt old (new d) ij jp (ℕ_discrete j p)

pub all_defaults : (xs : List Span) (p : ℕ) (d : Span) → 1 ≤ p → p < length xs → IsSpanOrder (get_or xs (p - 1) d) (get_or xs p d) → (e : Span) → IsSpanOrder (get_or xs (p - 1) e) (get_or xs p e)
all_defaults xs p d pos lt o e =
    subst (λ (x : Span). IsSpanOrder x (get_or xs p e)) (get_or_default xs (p - 1) d e (omega arith))
    (subst (λ (y : Span). IsSpanOrder (get_or xs (p - 1) d) y) (get_or_default xs p d e lt) o)
