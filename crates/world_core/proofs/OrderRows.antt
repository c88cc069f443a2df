-- The rows of the world, cycle by cycle, and those of a node that stopped.
use Rattle.std.proofs.Common.{◌≡◌, ℕ, zero, suc, ◌+◌, ◌-◌, ◌<◌, ◌≤◌, Bool, true, false, cond, List, [], ◌++◌, refl, sym, subst, ◌∙◌, ap, arith, append-nil, append_assoc}
use Rattle.std.specs.List.{All}
use Rattle.std.specs.List.Sorted.{IsNonDecreasingBy}
use Rattle.std.proofs.lemmas.List.Elements.{All-append, All-nil}
use Rattle.world_core.specs.Sends.{sends_below}
use Rattle.air_base.specs.Each.{each_below}
use Rattle.air_base.specs.NodeKind.{IsSteady}
use Rattle.air_base.specs.NodeRun.{passed, IsQuiet, AllQuiet}
use Rattle.world_core.specs.Order.{Fleet, Moment, world_at, facts_of, node_at, hears, rows_in, rows_between}
use Rattle.world_core.specs.Sound.{IsSound}
use Rattle.world_core.specs.Stands.{QuietBetween}
use Rattle.air_base.proofs.Each.{each_none}
use Rattle.world_core.proofs.Alone.{passes, rows_quiet}
use Rattle.world_core.proofs.Sends.{next}
use Rattle.world_core.proofs.Sorted.{Agree, merged}
use Rattle.world_core.proofs.OrderSteps.{count_quiet}

module _ {S R : Type 0} (f : Fleet S R) where
  -- the rows of the cycles from a on and below b
  pub rows_from : (a n : ℕ) → f.start ≤ a → (world_at f (a + n)).rows ≡ (world_at f a).rows ++ each_below n (λ i. each_below f.topo.nodes (λ k. rows_in f k (a + i)))
  rows_from a zero g = let e : a + 0 ≡ a = omega arith in ap (λ (t : ℕ). (world_at f t).rows) e ∙ sym (append-nil (world_at f a).rows)
  rows_from a (suc n) g =
      let e : a + suc n ≡ suc (a + n) = omega arith in
      let made = each_below f.topo.nodes (λ k. rows_in f k (a + n)) in
      ap (λ (t : ℕ). (world_at f t).rows) e ∙ ap (λ (w : Moment S R). w.rows) (next f (a + n) (omega arith)) ∙ ap (λ (l : List R). l ++ made) (rows_from a n g)
      ∙ append_assoc (world_at f a).rows (each_below n (λ i. each_below f.topo.nodes (λ k. rows_in f k (a + i)))) made

-- where each row bears the cycle in which it is made
module _ {S R : Type 0} (f : Fleet S R) (steady : IsSteady f.kind) where
  cond_all : (P : R → Type 0) (b : Bool) (xs : List R) → All P xs → All P (cond b xs [])
  cond_all P true xs a = a
  cond_all P false xs a = All-nil P

  pub rows_bear : (k t : ℕ) → All (λ r. f.kind.row_cycle r ≡ t) (rows_in f k t)
  rows_bear k t =
      All-append (λ (r : R). f.kind.row_cycle r ≡ t) (f.kind.begun_rows t (node_at f k t)) (cond (f.kind.asks t (node_at f k t)) (f.kind.finished_rows t (f.kind.begun t (node_at f k t)) (hears f t (world_at f t) k)) [])
      (steady.begun_rows t (node_at f k t))
      (cond_all (λ (r : R). f.kind.row_cycle r ≡ t) (f.kind.asks t (node_at f k t)) (f.kind.finished_rows t (f.kind.begun t (node_at f k t)) (hears f t (world_at f t) k)) (steady.finished_rows t (f.kind.begun t (node_at f k t)) (hears f t (world_at f t) k)))

  -- a stable sort by cycle of the nodes' rows, one node after another, gives the rows of these cycles
  pub rows_merged : (a b : ℕ) (ys : List R) → f.start ≤ a → a ≤ b → IsNonDecreasingBy f.kind.row_cycle ys
      → Agree f.kind.row_cycle ys (each_below f.topo.nodes (λ k. rows_between f k a b))
      → (world_at f b).rows ≡ (world_at f a).rows ++ ys
  rows_merged a b ys g h up same =
      let e : b ≡ a + (b - a) = omega arith in
      ap (λ (t : ℕ). (world_at f t).rows) e ∙ rows_from f a (b - a) g
      ∙ ap (λ (l : List R). (world_at f a).rows ++ l) (sym (merged f.kind.row_cycle a (λ k i. rows_in f k (a + i)) (λ k i. rows_bear k (a + i)) f.topo.nodes (b - a) ys up same))

module _ {S R : Type 0} (f : Fleet S R) (ok : IsSound f) where
  -- a node that stopped
  stopped_passes : (t n : ℕ) (s : S) → f.kind.is_stopped s ≡ true → passed f.kind t n s ≡ s
  unfolding passed
  stopped_passes t zero s e = refl
  stopped_passes t (suc n) s e = ap (f.kind.begun (t + n)) (stopped_passes t n s e) ∙ ok.kind.stays (t + n) s e

  stopped_quiet : (t n : ℕ) (s : S) → f.kind.is_stopped s ≡ true → AllQuiet f.kind t n s
  stopped_quiet t n s e i l = subst (IsQuiet f.kind (t + i)) (sym (stopped_passes t i s e)) (ok.kind.deaf (t + i) s e, ok.kind.silent (t + i) s e)

  pub stopped_state : (k c d : ℕ) → f.start ≤ c → c ≤ d → f.kind.is_stopped (node_at f k c) ≡ true → node_at f k d ≡ node_at f k c
  stopped_state k c d g h e =
      let q : d ≡ c + (d - c) = omega arith in
      ap (node_at f k) q ∙ passes f ok k c (d - c) g (stopped_quiet c (d - c) (node_at f k c) e) ∙ stopped_passes c (d - c) (node_at f k c) e

  pub stopped_calm : (k c d : ℕ) → f.start ≤ c → f.kind.is_stopped (node_at f k c) ≡ true → QuietBetween f k c d
  stopped_calm k c d g e t l m =
      subst (IsQuiet f.kind t) (sym (stopped_state k c t g l e)) (ok.kind.deaf t (node_at f k c) e, ok.kind.silent t (node_at f k c) e)

  pub stopped_rows : (k c d : ℕ) → f.start ≤ c → f.kind.is_stopped (node_at f k c) ≡ true → rows_between f k c d ≡ []
  stopped_rows k c d g e =
      rows_quiet f ok k c (d - c) g (stopped_quiet c (d - c) (node_at f k c) e)
      ∙ each_none (d - c) (λ i. f.kind.begun_rows (c + i) (passed f.kind c i (node_at f k c)))
      (λ i l. ap (f.kind.begun_rows (c + i)) (stopped_passes c i (node_at f k c) e) ∙ ok.kind.mute (c + i) (node_at f k c) e)

  pub stopped_count : (k c : ℕ) → f.start ≤ c → k < f.topo.nodes → c ≤ f.topo.limit → f.kind.is_stopped (node_at f k c) ≡ true → sends_below (facts_of f).sends k f.topo.limit ≡ sends_below (facts_of f).sends k c
  stopped_count k c g h l e = count_quiet f ok k c f.topo.limit g h l (omega arith) (stopped_calm k c f.topo.limit g e)
