-- What one try adds to the looks before it.
use Rattle.std.proofs.Common.{◌≡◌, ℕ, suc, true, List, [], ◌∷◌, ◌++◌, replicate, sym, ◌∙◌, ap, subst, append_assoc, Ok}
use Rattle.world_core.specs.declared.world.WorldFacts.{WorldFacts}
use Rattle.world_core.specs.Settled.{truth}
use Rattle.neighbour_sync.specs.declared.answers.SampleOutcome.{SampleOutcome}
use Rattle.neighbour_sync.specs.declared.answers.SampleOutcome.TheVariants.{Heard, Halted, NoMemory}
use Rattle.neighbour_sync.specs.Seats.{NodeFacts, node_asked}
use Rattle.neighbour_sync.specs.Loads.{IsBehind}
use Rattle.neighbour_sync.specs.Looks.{peeked, looked, AreSeenPast}
use Rattle.neighbour_sync.specs.Tries.{IsTried}
use Rattle.neighbour_sync.specs.Waits.{IsEnd, IsPassed}
use Rattle.neighbour_sync.proofs.Seeing.{all_after, look_peek, look_more, zeros_more}

-- ---- within a try: a is the seat before it, b after some looks, c after one more round of looks
-- that b is a but for its looks, and of the world w
on_first : (P : WorldFacts → ℕ → Type 0) (w : WorldFacts) (a b : NodeFacts) (m : List (ℕ × ℕ)) (h : List ℕ) → a.world ≡ w → b ≡ looked a m h → P b.world b.number → P w a.number
on_first P w a b m h scene e p = subst (λ (v : WorldFacts). P v a.number) scene (subst (λ (x : NodeFacts). P x.world x.number) e p)

pub come_again : (w : WorldFacts) (s : ℕ) (a b c : NodeFacts) (m n : List (ℕ × ℕ)) (k d : ℕ) → a.world ≡ w → b ≡ looked a m (0 ∷ []) → IsBehind b.world b.number s k d → c ≡ peeked b (n ++ (k, d) ∷ [])
    → IsBehind w a.number s k d × ((loads : List (ℕ × ℕ)) × (c ≡ looked a (loads ++ (k, d) ∷ []) (0 ∷ [])))
come_again w s a b c m n k d scene e behind f = (
  on_first (λ v j. IsBehind v j s k d) w a b m (0 ∷ []) scene e behind,
  (
    m ++ n,
    look_peek a b c m (n ++ (k, d) ∷ []) (0 ∷ []) e f ∙ ap (λ (l : List (ℕ × ℕ)). looked a l (0 ∷ [])) (sym (append_assoc m n ((k, d) ∷ []))),
  ),
)

pub far_enough : (w : WorldFacts) (s : ℕ) (a b c : NodeFacts) (m n : List (ℕ × ℕ)) → a.world ≡ w → b ≡ looked a m (0 ∷ []) → AreSeenPast b.world b.number s n → c ≡ peeked b n
    → (loads : List (ℕ × ℕ)) × AreSeenPast w a.number s loads × (c ≡ looked a loads (0 ∷ []))
far_enough w s a b c m n scene e seen f =
    (m ++ n, all_after w a.number s m n (on_first (λ v j. AreSeenPast v j s n) w a b m (0 ∷ []) scene e seen), look_peek a b c m n (0 ∷ []) e f)

-- ---- within a wait: a is the seat before it, b after some tries, c after one more
one_more : (a b c : NodeFacts) (tries : ℕ) (m n : List (ℕ × ℕ)) → b ≡ looked a m (replicate tries 0) → c ≡ looked b n (0 ∷ []) → c ≡ looked a (m ++ n) (replicate (suc tries) 0)
one_more a b c tries m n e f = look_more a b c m n (replicate tries 0) (0 ∷ []) e f ∙ ap (looked a (m ++ n)) (zeros_more tries)

pub waits_on : (a b c : NodeFacts) (tries : ℕ) (m n : List (ℕ × ℕ)) → b ≡ looked a m (replicate tries 0) → c ≡ looked b n (0 ∷ []) → (tries : ℕ) × (loads : List (ℕ × ℕ)) × (c ≡ looked a loads (replicate tries 0))
waits_on a b c tries m n e f = (suc tries, m ++ n, one_more a b c tries m n e f)

pub waits_end : (w : WorldFacts) (s : ℕ) (a b c : NodeFacts) (tries : ℕ) (m : List (ℕ × ℕ)) → b ≡ looked a m (replicate tries 0)
    → (loads : List (ℕ × ℕ)) × AreSeenPast w b.number s loads × (c ≡ looked b loads (0 ∷ [])) → IsEnd w a s c
waits_end w s a b c tries m e (n, seen, f) =
    (tries, m ++ n, all_after w a.number s m n (subst (λ (x : NodeFacts). AreSeenPast w x.number s n) e seen), one_more a b c tries m n e f)

pub waits_halted : (a b c : NodeFacts) (tries : ℕ) (m : List (ℕ × ℕ)) → b ≡ looked a m (replicate tries 0) → c ≡ node_asked b true
    → (tries : ℕ) × (loads : List (ℕ × ℕ)) × (c ≡ looked a loads (replicate tries 0 ++ 1 ∷ []))
waits_halted a b c tries m e f =
    (tries, m, f ∙ ap (λ (n : NodeFacts). node_asked n true) e ∙ ap (λ (l : List ℕ). record a { loads = a.loads ++ m; halts = l }) (append_assoc a.halts (replicate tries 0) (1 ∷ [])))

pub waits_over : (w : WorldFacts) (s : ℕ) (a b c : NodeFacts) (tries : ℕ) (m : List (ℕ × ℕ)) → b ≡ looked a m (replicate tries 0) → (r : SampleOutcome) → IsTried w b s (Ok r) c → IsPassed w a s r c
waits_over w s a b c tries m e (Heard h) t = (t.0 ∙ ap (λ (n : NodeFacts). truth w n.number s) e, waits_end w s a b c tries m e t.1)
waits_over w s a b c tries m e Halted t = waits_halted a b c tries m e t
waits_over w s a b c tries m e NoMemory t = waits_end w s a b c tries m e t
