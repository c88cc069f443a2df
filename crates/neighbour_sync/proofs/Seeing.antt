-- What a node's looks add up to.
use Rattle.std.proofs.Common.{◌≡◌, ℕ, zero, suc, List, [], ◌∷◌, ◌++◌, replicate, refl, ◌∙◌, ap, append_assoc}
use Rattle.std.specs.List.{All}
use Rattle.std.proofs.lemmas.List.Elements.{Contains-append_left, Contains-append_right}
use Rattle.world_core.specs.declared.world.WorldFacts.{WorldFacts}
use Rattle.neighbour_sync.specs.Seats.{NodeFacts}
use Rattle.neighbour_sync.specs.Looks.{peeked, looked, IsSeenPast, AreSeenPast}

-- ---- what was seen stays seen
pub seen_before : (w : WorldFacts) (j s k : ℕ) (xs ys : List (ℕ × ℕ)) → IsSeenPast w j s xs k → IsSeenPast w j s (xs ++ ys) k
seen_before w j s k xs ys seen needed = let q = seen needed in (q.0, q.1, Contains-append_left xs ys (k, q.0) q.2)

pub seen_after : (w : WorldFacts) (j s k : ℕ) (xs ys : List (ℕ × ℕ)) → IsSeenPast w j s ys k → IsSeenPast w j s (xs ++ ys) k
seen_after w j s k xs ys seen needed = let q = seen needed in (q.0, q.1, Contains-append_right xs ys (k, q.0) q.2)

pub all_before : (w : WorldFacts) (j s : ℕ) (ks : List ℕ) (xs ys : List (ℕ × ℕ)) → All (IsSeenPast w j s xs) ks → All (IsSeenPast w j s (xs ++ ys)) ks
all_before w j s ks xs ys all = λ i d lt. seen_before w j s _ xs ys (all i d lt)

pub all_after : (w : WorldFacts) (j s : ℕ) (xs ys : List (ℕ × ℕ)) → AreSeenPast w j s ys → AreSeenPast w j s (xs ++ ys)
all_after w j s xs ys all = λ i d lt. seen_after w j s _ xs ys (all i d lt)

-- ---- one look after another
pub peek_more : (a b c : NodeFacts) (m n : List (ℕ × ℕ)) → b ≡ peeked a m → c ≡ peeked b n → c ≡ peeked a (m ++ n)
peek_more a b c m n e f = f ∙ ap (λ (x : NodeFacts). peeked x n) e ∙ ap (λ (l : List (ℕ × ℕ)). record a { loads = l }) (append_assoc a.loads m n)

-- clocks are looked at behind a look at the halt
pub look_peek : (a b c : NodeFacts) (m n : List (ℕ × ℕ)) (h : List ℕ) → b ≡ looked a m h → c ≡ peeked b n → c ≡ looked a (m ++ n) h
look_peek a b c m n h e f = f ∙ ap (λ (x : NodeFacts). peeked x n) e ∙ ap (λ (l : List (ℕ × ℕ)). record a { loads = l; halts = a.halts ++ h }) (append_assoc a.loads m n)

pub look_more : (a b c : NodeFacts) (m n : List (ℕ × ℕ)) (g h : List ℕ) → b ≡ looked a m g → c ≡ looked b n h → c ≡ looked a (m ++ n) (g ++ h)
look_more a b c m n g h e f = f ∙ ap (λ (x : NodeFacts). looked x n h) e ∙ (λ i. record a { loads = append_assoc a.loads m n i; halts = append_assoc a.halts g h i })

-- ---- as many tries that found the halt 0
pub zeros_more : (n : ℕ) → ◌++◌ {A = ℕ} (replicate n 0) (0 ∷ []) ≡ replicate (suc n) 0
zeros_more zero = refl
zeros_more (suc n) = ap (λ (l : List ℕ). 0 ∷ l) (zeros_more n)
