-- The air of a whole run keeps the laws of a world.
use Rattle.std.proofs.Common.{◌≡◌, ℕ, suc, ◌+◌, ◌<◌, ◌≤◌, ◌≢◌, Bool, true, false, cond, ◌==◌, Option, Some, None, List, [], ◌∷◌, ◌++◌, refl, sym, subst, ◌∙◌, ap, arith, append-nil}
use Rattle.std.specs.List.{filter, All, AllPairs}
use Rattle.std.proofs.lemmas.List.Elements.{filter-append, All-append, All-nil, All-cons, All-weaker, All-push}
use Rattle.std.proofs.lemmas.List.Quantifiers.{all_pairs_push}
use Rattle.std.proofs.lemmas.Bool.Decides.{nat_tests}
use native.Mathlib.Decide.{dec_le}
use Rattle.air_base.specs.declared.air.Send.{Send}
use Rattle.air_base.specs.declared.air.Ask.{Ask}
use Rattle.air_base.specs.declared.air.Heard.{Heard}
use Rattle.air_base.specs.Each.{each_below}
use Rattle.world_core.specs.Sends.{sends_of, asks_of}
use Rattle.world_core.specs.Lawful.{IsLawful}
use Rattle.world_core.specs.Order.{Fleet, Moment, send_of, ask_of, world_at, facts_of, node_at, hears}
use Rattle.world_core.specs.Sound.{IsSound}
use Rattle.air_base.proofs.Each.{filter_none, filter_each, All_each, each_one}
use Rattle.world_core.proofs.Sends.{next, first, each_cycle, sends_next, next_asks, all_inside}

same_node : (a b : ℕ) → a ≡ b → (a == b) ≡ true
same_node a b e = grind (arith, nat_tests)

other_node : (a b : ℕ) → a ≢ b → (a == b) ≡ false
other_node a b e = grind (arith, nat_tests)

no_pairs : {X : Type 0} (R : X → X → Type 0) → AllPairs R []
no_pairs R i j d lt le = absurd (omega arith)

module _ {S R : Type 0} (f : Fleet S R) (ok : IsSound f) where
  -- a property of a cycle's end, from its two parts
  ticked_case : (P : S → Type 0) (t : ℕ) (s : S) (h : Heard) (b : Bool) → f.kind.asks t s ≡ b → P (f.kind.begun t s) → ((u : S) → P u → P (f.kind.finished t u h)) → P (cond b (f.kind.finished t (f.kind.begun t s) h) (f.kind.begun t s))
  ticked_case P t s h true e p q = q (f.kind.begun t s) p
  ticked_case P t s h false e p q = p

  after_begun : (P : S → Type 0) (k t : ℕ) → f.start ≤ t → P (f.kind.begun t (node_at f k t)) → ((u : S) (h : Heard) → P u → P (f.kind.finished t u h)) → P (node_at f k (suc t))
  after_begun P k t g p q =
      subst P (sym (ap (λ (w : Moment S R). w.state k) (next f t g)))
      (ticked_case P t (node_at f k t) (hears f t (world_at f t) k) (f.kind.asks t (node_at f k t)) refl p (λ u r. q u (hears f t (world_at f t) k) r))

  at_start : (P : S → Type 0) (k : ℕ) → P (f.begins k) → P (node_at f k f.start)
  at_start P k p = subst P (sym (ap (λ (w : Moment S R). w.state k) (first f))) p

  gap_at : (k t : ℕ) → f.start ≤ t → ok.kind.gap (node_at f k t) ≡ f.topo.byte_time
  gap_at k = each_cycle f ok (λ t. ok.kind.gap (node_at f k t) ≡ f.topo.byte_time) (at_start (λ (u : S). ok.kind.gap u ≡ f.topo.byte_time) k (ok.gap k))
      (λ t g e. after_begun (λ (u : S). ok.kind.gap u ≡ f.topo.byte_time) k t g (ok.kind.gap_begun t (node_at f k t) ∙ e) (λ u h q. ok.kind.gap_finished t u h ∙ q))

  free_at : (k t n : ℕ) → f.start ≤ t → n ≤ ok.kind.free (f.kind.begun t (node_at f k t)) → n ≤ ok.kind.free (node_at f k (suc t))
  free_at k t n g h = after_begun (λ (u : S). n ≤ ok.kind.free u) k t g h (λ u h2 m. let x = ok.kind.free_finished t u h2 in omega arith)

  -- the sends of a node lie apart, and it sends again only after them
  pub record Apart (l : List Send) (free : ℕ) : Type 0 where
    pub pairs : AllPairs (λ x y. x.cycle + f.topo.byte_time ≤ y.cycle) l
    pub below : All (λ x. x.cycle + f.topo.byte_time ≤ free) l

  apart_case : (k t : ℕ) (o : Option ℕ) → f.start ≤ t → f.kind.sends t (node_at f k t) ≡ o → (l : List Send) → Apart l (ok.kind.free (node_at f k t)) → Apart (l ++ send_of t k o) (ok.kind.free (node_at f k (suc t)))
  apart_case k t None g e l h =
      let later : ok.kind.free (node_at f k t) ≤ ok.kind.free (node_at f k (suc t)) = free_at k t (ok.kind.free (node_at f k t)) g (ok.kind.free_begun t (node_at f k t)) in
      subst (λ (m : List Send). Apart m (ok.kind.free (node_at f k (suc t)))) (sym (append-nil l))
      (record { pairs = h.pairs; below = λ i d lt. let x = h.below i d lt in omega arith })
  apart_case k t (Some b) g e l h =
      let x : Send = record { node = k; cycle = t; byte = b } in
      let may = ok.kind.sends_free t b (node_at f k t) e in
      let gap = gap_at k t g in
      let later : ok.kind.free (node_at f k t) ≤ ok.kind.free (node_at f k (suc t)) = free_at k t (ok.kind.free (node_at f k t)) g (ok.kind.free_begun t (node_at f k t)) in
      let after : t + f.topo.byte_time ≤ ok.kind.free (node_at f k (suc t)) = free_at k t (t + f.topo.byte_time) g (let y = ok.kind.sends_next t b (node_at f k t) e in omega arith) in
      record {
        pairs = all_pairs_push (λ (y z : Send). y.cycle + f.topo.byte_time ≤ z.cycle) l x h.pairs (λ i d lt. let y = h.below i d lt in omega arith);
        below = All-push (λ (y : Send). y.cycle + f.topo.byte_time ≤ ok.kind.free (node_at f k (suc t))) l x (λ i d lt. let y = h.below i d lt in omega arith) after;
      }

  apart_at : (k : ℕ) → k < f.topo.nodes → (t : ℕ) → f.start ≤ t → Apart (sends_of k (world_at f t).sends) (ok.kind.free (node_at f k t))
  apart_at k h = each_cycle f ok (λ t. Apart (sends_of k (world_at f t).sends) (ok.kind.free (node_at f k t)))
      (subst (λ (w : Moment S R). Apart (sends_of k w.sends) (ok.kind.free (w.state k))) (sym (first f)) (record { pairs = ok.spaced k; below = ok.free k }))
      (λ t g a. subst (λ (l : List Send). Apart l (ok.kind.free (node_at f k (suc t)))) (sym (sends_next f ok t k g h))
      (apart_case k t (f.kind.sends t (node_at f k t)) g refl (sends_of k (world_at f t).sends) a))

  sends_past : (k : ℕ) → f.topo.nodes ≤ k → sends_of k (facts_of f).sends ≡ []
  sends_past k h =
      filter_none (λ (x : Send). x.node == k) (facts_of f).sends
      (All-weaker (λ (x : Send). (x.node < f.topo.nodes) × (x.cycle < f.topo.limit)) (λ (x : Send). (x.node == k) ≡ false) (λ x l. other_node x.node k (λ e. absurd (omega arith))) (facts_of f).sends (all_inside f ok f.topo.limit ok.start))

  apart_of : (k : ℕ) → Dec (f.topo.nodes ≤ k) → AllPairs (λ x y. x.cycle + f.topo.byte_time ≤ y.cycle) (sends_of k (facts_of f).sends)
  apart_of k (yes d) = subst (AllPairs (λ (x y : Send). x.cycle + f.topo.byte_time ≤ y.cycle)) (sym (sends_past k d)) (no_pairs (λ (x y : Send). x.cycle + f.topo.byte_time ≤ y.cycle))
  apart_of k (no d) = (apart_at k (omega arith) f.topo.limit ok.start).pairs

  -- ---- the samples
  abbrev asked_in : ℕ → ℕ → List Ask
  asked_in t k = ask_of t k (f.kind.asks t (node_at f k t))

  ask_cycle : (P : Ask → Type 0) (t k : ℕ) (b : Bool) → P (record { node = k; cycle = t }) → All P (ask_of t k b)
  ask_cycle P t k true h = All-cons P (record { node = k; cycle = t }) [] h (All-nil P)
  ask_cycle P t k false h = All-nil P

  asks_inside : (t : ℕ) → f.start ≤ t → All (λ x. (x.node < f.topo.nodes) × (x.cycle < t)) (world_at f t).asks
  asks_inside = each_cycle f ok (λ t. All (λ x. (x.node < f.topo.nodes) × (x.cycle < t)) (world_at f t).asks)
      (subst (All (λ (x : Ask). (x.node < f.topo.nodes) × (x.cycle < f.start))) (sym (ap (λ (w : Moment S R). w.asks) (first f))) (All-nil (λ (x : Ask). (x.node < f.topo.nodes) × (x.cycle < f.start))))
      (λ t g a.
      let P : Ask → Type 0 = λ x. (x.node < f.topo.nodes) × (x.cycle < suc t) in
      let Q : Ask → Type 0 = λ x. (x.node < f.topo.nodes) × (x.cycle < t) in
      subst (All P) (sym (next_asks f ok t g))
      (All-append P (world_at f t).asks (each_below f.topo.nodes (asked_in t))
      (All-weaker Q P (λ x q. (q.0, omega arith)) (world_at f t).asks a)
      (All_each P f.topo.nodes (asked_in t) (λ k l. ask_cycle P t k (f.kind.asks t (node_at f k t)) (l, omega arith)))))

  own_ask : (t k : ℕ) (b : Bool) → asks_of k (ask_of t k b) ≡ ask_of t k b
  own_ask t k false = refl
  own_ask t k true = let x : Ask = record { node = k; cycle = t } in ap (λ (b : Bool). cond b (x ∷ []) []) (same_node k k refl)

  other_ask : (t j k : ℕ) (b : Bool) → j ≢ k → asks_of k (ask_of t j b) ≡ []
  other_ask t j k false d = refl
  other_ask t j k true d = let x : Ask = record { node = j; cycle = t } in ap (λ (b : Bool). cond b (x ∷ []) []) (other_node j k d)

  asks_next : (t k : ℕ) → f.start ≤ t → k < f.topo.nodes → asks_of k (world_at f (suc t)).asks ≡ asks_of k (world_at f t).asks ++ asked_in t k
  asks_next t k g h =
      let q : Ask → Bool = λ x. x.node == k in
      ap (filter q) (next_asks f ok t g) ∙ filter-append q (world_at f t).asks (each_below f.topo.nodes (asked_in t))
      ∙ ap (λ (l : List Ask). asks_of k (world_at f t).asks ++ l)
      (filter_each q f.topo.nodes (asked_in t)
      ∙ each_one f.topo.nodes k (λ j. filter q (asked_in t j)) h (λ j l d. other_ask t j k (f.kind.asks t (node_at f j t)) d)
      ∙ own_ask t k (f.kind.asks t (node_at f k t)))

  pub record Rises (l : List Ask) (t : ℕ) : Type 0 where
    pub pairs : AllPairs (λ x y. x.cycle + 1 ≤ y.cycle) l
    pub below : All (λ x. x.cycle + 1 ≤ t) l

  rises_case : (k t : ℕ) (b : Bool) (l : List Ask) → Rises l t → Rises (l ++ ask_of t k b) (suc t)
  rises_case k t false l h = subst (λ (m : List Ask). Rises m (suc t)) (sym (append-nil l)) (record { pairs = h.pairs; below = λ i d lt. let x = h.below i d lt in omega arith })
  rises_case k t true l h =
      let x : Ask = record { node = k; cycle = t } in
      record {
        pairs = all_pairs_push (λ (y z : Ask). y.cycle + 1 ≤ z.cycle) l x h.pairs h.below;
        below = All-push (λ (y : Ask). y.cycle + 1 ≤ suc t) l x (λ i d lt. let y = h.below i d lt in omega arith) (omega arith);
      }

  rises_at : (k : ℕ) → k < f.topo.nodes → (t : ℕ) → f.start ≤ t → Rises (asks_of k (world_at f t).asks) t
  rises_at k h = each_cycle f ok (λ t. Rises (asks_of k (world_at f t).asks) t)
      (subst (λ (w : Moment S R). Rises (asks_of k w.asks) f.start) (sym (first f)) (record { pairs = no_pairs (λ (x y : Ask). x.cycle + 1 ≤ y.cycle); below = All-nil (λ (x : Ask). x.cycle + 1 ≤ f.start) }))
      (λ t g a. subst (λ (l : List Ask). Rises l (suc t)) (sym (asks_next t k g h)) (rises_case k t (f.kind.asks t (node_at f k t)) (asks_of k (world_at f t).asks) a))

  asks_past : (k : ℕ) → f.topo.nodes ≤ k → asks_of k (facts_of f).asks ≡ []
  asks_past k h =
      filter_none (λ (x : Ask). x.node == k) (facts_of f).asks
      (All-weaker (λ (x : Ask). (x.node < f.topo.nodes) × (x.cycle < f.topo.limit)) (λ (x : Ask). (x.node == k) ≡ false) (λ x l. other_node x.node k (λ e. absurd (omega arith))) (facts_of f).asks (asks_inside f.topo.limit ok.start))

  rises_of : (k : ℕ) → Dec (f.topo.nodes ≤ k) → AllPairs (λ x y. x.cycle + 1 ≤ y.cycle) (asks_of k (facts_of f).asks)
  rises_of k (yes d) = subst (AllPairs (λ (x y : Ask). x.cycle + 1 ≤ y.cycle)) (sym (asks_past k d)) (no_pairs (λ (x y : Ask). x.cycle + 1 ≤ y.cycle))
  rises_of k (no d) = (rises_at k (omega arith) f.topo.limit ok.start).pairs

  pub lawful : IsLawful (facts_of f)
  lawful = record {
    topo = ok.topo;
    sends_in = all_inside f ok f.topo.limit ok.start;
    asks_in = asks_inside f.topo.limit ok.start;
    sends_apart = λ k. apart_of k (dec_le f.topo.nodes k);
    asks_rise = λ k. rises_of k (dec_le f.topo.nodes k);
  }
