-- A node by itself, stepped with the true answers, goes as it goes in the world.
use Rattle.std.proofs.Common.{◌≡◌, ℕ, zero, suc, ◌+◌, ◌-◌, ◌≤◌, Bool, true, false, cond, ◌&&◌, List, [], ◌++◌, refl, sym, ◌∙◌, ap, arith, append-nil, append_assoc, add-zero}
use Rattle.std.specs.Prelude.{nat_le, nat_lt}
use Rattle.std.proofs.lemmas.Bool.Decides.{nat_tests}
use Rattle.world_core.specs.Topology.{is_linked, is_open, latency_of}
use Rattle.world_core.specs.Heard.{is_audible, age_of, heard_from, heard}
use Rattle.world_core.specs.Settled.{truth}
use Rattle.air_base.specs.Each.{each_below}
use Rattle.air_base.specs.NodeKind.{ticked}
use Rattle.air_base.specs.NodeRun.{passed, passed_rows, AllQuiet}
use Rattle.world_core.specs.Order.{Fleet, Moment, world_at, facts_of, node_at, hears, rows_in, rows_between}
use Rattle.world_core.specs.Sound.{IsSound}
use Rattle.world_core.proofs.Final.{latency_from}
use Rattle.air_base.proofs.Each.{each_same}
use Rattle.world_core.proofs.Sends.{next, filter_early}

too_early : (linked opened : Bool) (l s t d : ℕ) → 1 ≤ l → s ≤ t → (linked && (opened && (nat_le (t + l) s && nat_lt s (t + l + d)))) ≡ false
too_early false opened l s t d e h = refl
too_early true false l s t d e h = refl
too_early true true l s t d e h = let a : nat_le (t + l) s ≡ false = grind (arith, nat_tests) in ap (λ (v : Bool). v && nat_lt s (t + l + d)) a

-- a cond whose test is known
pub cond_true : {X : Type 0} (b : Bool) (x y : X) → b ≡ true → cond b x y ≡ x
cond_true b x y e = ap (λ (v : Bool). cond v x y) e

pub cond_false : {X : Type 0} (b : Bool) (x y : X) → b ≡ false → cond b x y ≡ y
cond_false b x y e = ap (λ (v : Bool). cond v x y) e

module _ {S R : Type 0} (f : Fleet S R) (ok : IsSound f) where
  -- what is sent in cycle s or later is not heard in cycle s
  pub heard_stays : (j s t : ℕ) → f.start ≤ s → s ≤ t → heard f.topo (world_at f t).sends j s ≡ heard f.topo (world_at f s).sends j s
  unfolding heard
  heard_stays j s t g h =
      ap (heard_from (age_of f.topo j s))
      (filter_early f ok (is_audible f.topo j s) s t g h (λ x l. too_early (is_linked f.topo x.node j) (is_open f.topo x.node j x.cycle) (latency_of f.topo x.node j) s x.cycle f.topo.byte_time (latency_from f.topo x.node j ok.topo) l))

  pub hears_truth : (k t : ℕ) → f.start ≤ t → t ≤ f.topo.limit → hears f t (world_at f t) k ≡ truth (facts_of f) k t
  hears_truth k t g h = sym (heard_stays k t f.topo.limit g h)

  pub node_next : (k t : ℕ) → f.start ≤ t → t ≤ f.topo.limit → node_at f k (suc t) ≡ ticked f.kind t (node_at f k t) (truth (facts_of f) k t)
  node_next k t g h = ap (λ (w : Moment S R). w.state k) (next f t g) ∙ ap (ticked f.kind t (node_at f k t)) (hears_truth k t g h)

  -- a cycle that samples nothing
  pub node_begun : (k t : ℕ) → f.start ≤ t → f.kind.asks t (node_at f k t) ≡ false → node_at f k (suc t) ≡ f.kind.begun t (node_at f k t)
  node_begun k t g e =
      ap (λ (w : Moment S R). w.state k) (next f t g)
      ∙ cond_false (f.kind.asks t (node_at f k t)) (f.kind.finished t (f.kind.begun t (node_at f k t)) (hears f t (world_at f t) k)) (f.kind.begun t (node_at f k t)) e

  pub rows_begun : (k t : ℕ) → f.kind.asks t (node_at f k t) ≡ false → rows_in f k t ≡ f.kind.begun_rows t (node_at f k t)
  rows_begun k t e =
      ap (λ (l : List R). f.kind.begun_rows t (node_at f k t) ++ l) (cond_false (f.kind.asks t (node_at f k t)) (f.kind.finished_rows t (f.kind.begun t (node_at f k t)) (hears f t (world_at f t) k)) [] e)
      ∙ append-nil (f.kind.begun_rows t (node_at f k t))

  -- a cycle that samples
  pub node_finished : (k t : ℕ) → f.start ≤ t → t ≤ f.topo.limit → f.kind.asks t (node_at f k t) ≡ true → node_at f k (suc t) ≡ f.kind.finished t (f.kind.begun t (node_at f k t)) (truth (facts_of f) k t)
  node_finished k t g h e = node_next k t g h ∙ cond_true (f.kind.asks t (node_at f k t)) (f.kind.finished t (f.kind.begun t (node_at f k t)) (truth (facts_of f) k t)) (f.kind.begun t (node_at f k t)) e

  pub rows_finished : (k t : ℕ) → f.start ≤ t → t ≤ f.topo.limit → f.kind.asks t (node_at f k t) ≡ true
      → rows_in f k t ≡ f.kind.begun_rows t (node_at f k t) ++ f.kind.finished_rows t (f.kind.begun t (node_at f k t)) (truth (facts_of f) k t)
  rows_finished k t g h e =
      ap (λ (l : List R). f.kind.begun_rows t (node_at f k t) ++ l)
      (cond_true (f.kind.asks t (node_at f k t)) (f.kind.finished_rows t (f.kind.begun t (node_at f k t)) (hears f t (world_at f t) k)) [] e
      ∙ ap (f.kind.finished_rows t (f.kind.begun t (node_at f k t))) (hears_truth k t g h))

  -- n quiet cycles
  pub passes : (k t n : ℕ) → f.start ≤ t → AllQuiet f.kind t n (node_at f k t) → node_at f k (t + n) ≡ passed f.kind t n (node_at f k t)
  unfolding passed
  passes k t zero g q = ap (node_at f k) (add-zero t)
  passes k t (suc n) g q =
      let so_far = passes k t n g (λ i l. q i (omega arith)) in
      let e : t + suc n ≡ suc (t + n) = omega arith in
      let quiet : f.kind.asks (t + n) (node_at f k (t + n)) ≡ false = ap (f.kind.asks (t + n)) so_far ∙ (q n (omega arith)).0 in
      ap (node_at f k) e ∙ node_begun k (t + n) (omega arith) quiet ∙ ap (f.kind.begun (t + n)) so_far

  -- the rows of quiet cycles
  pub rows_quiet : (k t n : ℕ) → f.start ≤ t → AllQuiet f.kind t n (node_at f k t) → each_below n (λ i. rows_in f k (t + i)) ≡ passed_rows f.kind t n (node_at f k t)
  rows_quiet k t n g q =
      each_same n (λ i. rows_in f k (t + i)) (λ i. f.kind.begun_rows (t + i) (passed f.kind t i (node_at f k t)))
      (λ i l. let at = passes k t i g (λ j m. q j (omega arith)) in
      rows_begun k (t + i) (ap (f.kind.asks (t + i)) at ∙ (q i l).0) ∙ ap (f.kind.begun_rows (t + i)) at)

module _ {S R : Type 0} (f : Fleet S R) where
  -- rows from a on, then from b on
  each_add : {X : Type 0} (n m : ℕ) (g : ℕ → List X) → each_below (n + m) g ≡ each_below n g ++ each_below m (λ i. g (n + i))
  each_add n zero g = ap (λ (l : ℕ). each_below l g) (add-zero n) ∙ sym (append-nil (each_below n g))
  each_add n (suc m) g =
      let e : n + suc m ≡ suc (n + m) = omega arith in
      ap (λ (l : ℕ). each_below l g) e ∙ ap (λ (l : List _). l ++ g (n + m)) (each_add n m g) ∙ append_assoc (each_below n g) (each_below m (λ i. g (n + i))) (g (n + m))

  pub rows_join : (k a b c : ℕ) → a ≤ b → b ≤ c → rows_between f k a c ≡ rows_between f k a b ++ rows_between f k b c
  rows_join k a b c h l =
      let e : c - a ≡ (b - a) + (c - b) = omega arith in
      ap (λ (n : ℕ). each_below n (λ i. rows_in f k (a + i))) e ∙ each_add (b - a) (c - b) (λ i. rows_in f k (a + i))
      ∙ ap (λ (m : List R). rows_between f k a b ++ m) (each_same (c - b) (λ i. rows_in f k (a + (b - a + i))) (λ i. rows_in f k (b + i)) (λ i m. let q : a + (b - a + i) ≡ b + i = omega arith in ap (rows_in f k) q))

  pub rows_one : (k t : ℕ) → rows_between f k t (suc t) ≡ rows_in f k t
  rows_one k t =
      let e : suc t - t ≡ 1 = omega arith in
      ap (λ (n : ℕ). each_below n (λ i. rows_in f k (t + i))) e ∙ ap (rows_in f k) (add-zero t)

  pub rows_none : (k t : ℕ) → rows_between f k t t ≡ []
  rows_none k t =
      let e : t - t ≡ 0 = omega arith in
      ap (λ (n : ℕ). each_below n (λ i. rows_in f k (t + i))) e
