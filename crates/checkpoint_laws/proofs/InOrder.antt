-- The sends of a run in order of cycle, then node, and those of them that are saved.
use Rattle.std.proofs.Common.{◌≡◌, ◌⊎◌, inl, inr, ℕ, zero, suc, ◌<◌, ◌≤◌, ◌==◌, ◌&&◌, ◌||◌, Bool, true, false, List, [], ◌∷◌, get_or, refl, sym, subst, ◌∙◌, ap, arith}
use Rattle.std.specs.Prelude.{nat_lt, Some, None}
use Rattle.std.specs.declared.option.Option.{Option}
use Rattle.std.specs.List.{All, AllPairs, filter}
use Rattle.std.proofs.lemmas.Bool.Decides.{nat_tests}
use Rattle.std.proofs.lemmas.List.Elements.{All-filter, All-head, All-tail, All-weaker, filter_passes}
use Rattle.std.proofs.lemmas.List.Kept.{AllPairs-filter}
use Rattle.air_base.specs.declared.air.Send.{Send}
use Rattle.air_base.specs.Each.{each_below}
use Rattle.world_core.specs.Kept as record_of
use Rattle.world_core.specs.Order.{Fleet, Moment, node_at, send_of, world_at}
use Rattle.world_core.specs.Sound.{IsSound}
use Rattle.world_core.specs.Topology.{Topology}
use Rattle.air_base.proofs.Each.{All_each}
use Rattle.world_core.proofs.Sends.{all_inside, each_cycle, first, next_sends}
use Rattle.state_text.specs.Bounds.{are_sends, follows, is_kept, kept_behind}
use Rattle.fleet_flight.proofs.Ordered.{of_one}
use Rattle.fleet_flight.proofs.Records.{pairs_append}

-- x comes before y
abbrev pub Before : Send → Send → Type 0
Before x y = (x.cycle < y.cycle) ⊎ ((x.cycle ≡ y.cycle) × (x.node < y.node))

follows_is : (x y : Send) → Before x y → follows (Some x) y ≡ true
follows_is x y (inl lt) =
    let e : nat_lt x.cycle y.cycle ≡ true = grind (arith, nat_tests) in
    ap (λ (b : Bool). b || (x.cycle == y.cycle && nat_lt x.node y.node)) e
follows_is x y (inr h) =
    let cycle = h.0 in
    let node = h.1 in
    let late : nat_lt x.cycle y.cycle ≡ false = grind (arith, nat_tests) in
    let same : (x.cycle == y.cycle) ≡ true = grind (arith, nat_tests) in
    let low : nat_lt x.node y.node ≡ true = grind (arith, nat_tests) in
    (λ i. late i || (same i && low i))

kept_is : (t : Topology) (c : ℕ) (x : Send) → x.node < t.nodes → x.cycle < c → record_of.is_kept t c x ≡ true → is_kept t c x ≡ true
kept_is t c x node early kept =
    let a : nat_lt x.node t.nodes ≡ true = grind (arith, nat_tests) in
    let b : nat_lt x.cycle c ≡ true = grind (arith, nat_tests) in
    (λ i. a i && (b i && kept i))

-- sends that are kept and in order
are_in : (t : Topology) (c : ℕ) (before : Option Send) (xs : List Send) → AllPairs Before xs → All (λ x. is_kept t c x ≡ true) xs → All (λ x. follows before x ≡ true) xs → are_sends t c before xs ≡ true
are_in t c before [] pairs kept behind = refl
are_in t c before (x ∷ xs) pairs kept behind =
    let k = All-head (λ x. is_kept t c x ≡ true) x xs kept in
    let b = All-head (λ x. follows before x ≡ true) x xs behind in
    let here : kept_behind t c before x ≡ true = (λ i. k i && b i) in
    let behind_x : All (λ y. follows (Some x) y ≡ true) xs = All-weaker (Before x) (λ y. follows (Some x) y ≡ true) (follows_is x) xs (λ j d lt. pairs 0 (suc j) d (omega arith) (omega arith)) in
    let rest = are_in t c (Some x) xs (λ i j d lt le. pairs (suc i) (suc j) d (omega arith) (omega arith)) (All-tail (λ x. is_kept t c x ≡ true) x xs kept) behind_x in
    (λ i. here i && rest i)

single : (t k : ℕ) (o : Option ℕ) → AllPairs Before (send_of t k o)
single t k None = λ i j d lt le. absurd (omega arith)
single t k (Some b) = λ i j d lt le. absurd (omega arith)

-- those of one cycle
one_cycle : (t n : ℕ) (o : ℕ → Option ℕ) → AllPairs Before (each_below n (λ k. send_of t k (o k)))
one_cycle t zero o = λ i j d lt le. absurd (omega arith)
one_cycle t (suc n) o =
    pairs_append Before (each_below n (λ k. send_of t k (o k))) (send_of t n (o n)) (one_cycle t n o) (single t n (o n))
    (All_each (λ x. All (Before x) (send_of t n (o n))) n (λ k. send_of t k (o k))
    (λ k lt. of_one (λ x. All (Before x) (send_of t n (o n))) t k (o k) (λ b. of_one (Before (record { node = k; cycle = t; byte = b })) t n (o n) (λ b2. inr (refl, lt)))))

module _ {S R : Type 0} (f : Fleet S R) (ok : IsSound f) (none : f.sent ≡ []) where
  abbrev sent_in : ℕ → List Send
  sent_in t = each_below f.topo.nodes (λ k. send_of t k (f.kind.sends t (node_at f k t)))

  no_pairs : AllPairs Before (world_at f f.start).sends
  no_pairs = subst (AllPairs Before) (sym (ap (λ (w : Moment S R). w.sends) (first f) ∙ none)) (λ i j d lt le. absurd (omega arith))

  in_cycle : (P : Send → Type 0) (t : ℕ) → ((x : Send) → x.cycle ≡ t → P x) → All P (sent_in t)
  in_cycle P t h = All_each P f.topo.nodes (λ k. send_of t k (f.kind.sends t (node_at f k t))) (λ k lt. of_one P t k (f.kind.sends t (node_at f k t)) (λ b. h (record { node = k; cycle = t; byte = b }) refl))

  pub in_order : (t : ℕ) → f.start ≤ t → AllPairs Before (world_at f t).sends
  in_order =
      each_cycle f ok (λ t. AllPairs Before (world_at f t).sends) no_pairs
      (λ t h old.
      subst (AllPairs Before) (sym (next_sends f ok t h))
      (pairs_append Before (world_at f t).sends (sent_in t) old (one_cycle t f.topo.nodes (λ k. f.kind.sends t (node_at f k t)))
      (All-weaker (λ x. (x.node < f.topo.nodes) × (x.cycle < t)) (λ x. All (Before x) (sent_in t)) (λ x q. in_cycle (Before x) t (λ y e. inl (let l = q.1 in omega arith))) (world_at f t).sends (all_inside f ok t h))))

  pub sends_are : (c : ℕ) → f.start ≤ c → are_sends f.topo c None (filter (record_of.is_kept f.topo c) (world_at f c).sends) ≡ true
  sends_are c h =
      let p = record_of.is_kept f.topo c in
      let all = (world_at f c).sends in
      let Q : Send → Type 0 = λ x. (x.node < f.topo.nodes) × (x.cycle < c) in
      let inside = All-filter p Q all (all_inside f ok c h) in
      let passes = filter_passes p all in
      are_in f.topo c None (filter p all) (AllPairs-filter Before p all (in_order c h))
      (λ i d lt. kept_is f.topo c (get_or (filter p all) i d) (inside i d lt).0 (inside i d lt).1 (passes i d lt)) (λ i d lt. refl)
