-- What the world's sends are, cycle by cycle.
use Rattle.std.proofs.Common.{◌≡◌, ℕ, zero, suc, ◌+◌, ◌-◌, ◌<◌, ◌≤◌, ◌≢◌, Bool, true, false, cond, ◌==◌, Option, Some, None, List, [], ◌∷◌, ◌++◌, length, take, refl, sym, subst, ◌∙◌, ap, arith, append-nil, append_assoc, take_at}
use Rattle.std.specs.Prelude.{nat_lt}
use Rattle.std.specs.List.{filter, All}
use Rattle.std.proofs.lemmas.List.Elements.{filter-append, All-append, All-nil, All-cons, All-weaker}
use Rattle.std.proofs.lemmas.Bool.Decides.{nat_tests}
use native.Mathlib.Decide.{dec_le}
use Rattle.air_base.specs.declared.air.Send.{Send}
use Rattle.world_core.specs.Sends.{sends_of, sends_below}
use Rattle.world_core.proofs.Final.{filter_swap}
use Rattle.air_base.specs.Each.{each_below}
use Rattle.world_core.specs.Order.{Fleet, Moment, stepped, send_of, ask_of, world_after, world_at, facts_of, node_at}
use Rattle.world_core.specs.Sound.{IsSound}
use Rattle.air_base.proofs.Each.{filter_none, filter_whole, filter_each, All_each, each_one}

-- a send of cycle t, of node k
send_cycle : (P : Send → Type 0) (t k : ℕ) (o : Option ℕ) → ((b : ℕ) → o ≡ Some b → P (record { node = k; cycle = t; byte = b })) → All P (send_of t k o)
send_cycle P t k None h = All-nil P
send_cycle P t k (Some b) h = All-cons P (record { node = k; cycle = t; byte = b }) [] (h b refl) (All-nil P)

same_node : (a b : ℕ) → a ≡ b → (a == b) ≡ true
same_node a b e = grind (arith, nat_tests)

other_node : (a b : ℕ) → a ≢ b → (a == b) ≡ false
other_node a b e = grind (arith, nat_tests)

is_below : (a b : ℕ) → a < b → nat_lt a b ≡ true
is_below a b e = grind (arith, nat_tests)

not_below : (a b : ℕ) → b ≤ a → nat_lt a b ≡ false
not_below a b e = grind (arith, nat_tests)

module _ {S R : Type 0} (f : Fleet S R) where
  -- one cycle more
  pub next : (t : ℕ) → f.start ≤ t → world_at f (suc t) ≡ stepped f t (world_at f t)
  unfolding world_after
  next t h =
      let e : suc t - f.start ≡ suc (t - f.start) = omega arith in
      let q : f.start + (t - f.start) ≡ t = omega arith in
      ap (world_after f) e ∙ ap (λ (u : ℕ). stepped f u (world_after f (t - f.start))) q

  pub first : world_at f f.start ≡ record { state = f.begins; sends = f.sent; asks = []; rows = [] }
  unfolding world_after
  first = let e : f.start - f.start ≡ 0 = omega arith in ap (world_after f) e

module _ {S R : Type 0} (f : Fleet S R) (ok : IsSound f) where
  abbrev sent_in : ℕ → ℕ → List Send
  sent_in t k = send_of t k (f.kind.sends t (node_at f k t))

  each_more : (P : ℕ → Type 0) → P f.start → ((t : ℕ) → f.start ≤ t → P t → P (suc t)) → (n : ℕ) → P (f.start + n)
  each_more P z s zero = let e : f.start ≡ f.start + 0 = omega arith in subst P e z
  each_more P z s (suc n) = let e : suc (f.start + n) ≡ f.start + suc n = omega arith in subst P e (s (f.start + n) (omega arith) (each_more P z s n))

  -- what holds at the start, and one cycle further wherever it holds, holds from the start on
  pub each_cycle : (P : ℕ → Type 0) → P f.start → ((t : ℕ) → f.start ≤ t → P t → P (suc t)) → (t : ℕ) → f.start ≤ t → P t
  each_cycle P z s t h = let e : f.start + (t - f.start) ≡ t = omega arith in subst P e (each_more P z s (t - f.start))

  pub next_sends : (t : ℕ) → f.start ≤ t → (world_at f (suc t)).sends ≡ (world_at f t).sends ++ each_below f.topo.nodes (sent_in t)
  next_sends t h = ap (λ (w : Moment S R). w.sends) (next f t h)

  pub next_asks : (t : ℕ) → f.start ≤ t → (world_at f (suc t)).asks ≡ (world_at f t).asks ++ each_below f.topo.nodes (λ k. ask_of t k (f.kind.asks t (node_at f k t)))
  next_asks t h = ap (λ (w : Moment S R). w.asks) (next f t h)

  -- the sends of cycle t
  in_cycle : (P : Send → Type 0) (t : ℕ) → ((x : Send) → x.cycle ≡ t → x.node < f.topo.nodes → P x) → All P (each_below f.topo.nodes (sent_in t))
  in_cycle P t h = All_each P f.topo.nodes (sent_in t) (λ k l. send_cycle P t k (f.kind.sends t (node_at f k t)) (λ b e. h (record { node = k; cycle = t; byte = b }) refl l))

  abbrev Inside : ℕ → Type 0
  Inside t = All (λ x. (x.node < f.topo.nodes) × (x.cycle < t)) (world_at f t).sends

  pub all_inside : (t : ℕ) → f.start ≤ t → All (λ x. (x.node < f.topo.nodes) × (x.cycle < t)) (world_at f t).sends
  all_inside = each_cycle Inside (subst (All (λ (x : Send). (x.node < f.topo.nodes) × (x.cycle < f.start))) (sym (ap (λ (w : Moment S R). w.sends) (first f))) ok.inside)
      (λ t h old.
      let P : Send → Type 0 = λ x. (x.node < f.topo.nodes) × (x.cycle < suc t) in
      let Q : Send → Type 0 = λ x. (x.node < f.topo.nodes) × (x.cycle < t) in
      subst (All P) (sym (next_sends t h))
      (All-append P (world_at f t).sends (each_below f.topo.nodes (sent_in t))
      (All-weaker Q P (λ x q. (q.0, omega arith)) (world_at f t).sends old)
      (in_cycle P t (λ x e l. (l, omega arith)))))

  -- all sends below the cycle s come first
  pub record Splits (s t : ℕ) : Type 0 where
    pub rest : List Send
    pub parts : (world_at f t).sends ≡ (world_at f s).sends ++ rest
    pub late : All (λ x. s ≤ x.cycle) rest

  split_case : (s t : ℕ) → Dec (s ≤ t) → f.start ≤ s → s ≤ suc t → (s ≤ t → Splits s t) → Splits s (suc t)
  split_case s t (yes l) g h more =
      let a = more l in
      let made = each_below f.topo.nodes (sent_in t) in
      record {
        rest = a.rest ++ made;
        parts = next_sends t (omega arith) ∙ ap (λ (l : List Send). l ++ made) a.parts ∙ append_assoc (world_at f s).sends a.rest made;
        late = All-append (λ (x : Send). s ≤ x.cycle) a.rest made a.late (in_cycle (λ (x : Send). s ≤ x.cycle) t (λ x e q. omega arith));
      }
  split_case s t (no d) g h more =
      let e : suc t ≡ s = omega arith in
      record {
        rest = [];
        parts = ap (λ (n : ℕ). (world_at f n).sends) e ∙ sym (append-nil (world_at f s).sends);
        late = All-nil (λ (x : Send). s ≤ x.cycle);
      }

  pub splits : (s t : ℕ) → f.start ≤ s → s ≤ t → Splits s t
  splits s zero g h =
      let e : zero ≡ s = omega arith in
      record {
        rest = [];
        parts = ap (λ (n : ℕ). (world_at f n).sends) e ∙ sym (append-nil (world_at f s).sends);
        late = All-nil (λ (x : Send). s ≤ x.cycle);
      }
  splits s (suc t) g h = split_case s t (dec_le s t) g h (λ l. splits s t g l)

  -- a filter that passes nothing from cycle s on sees no later send
  pub filter_early : (p : Send → Bool) (s t : ℕ) → f.start ≤ s → s ≤ t → ((x : Send) → s ≤ x.cycle → p x ≡ false) → filter p (world_at f t).sends ≡ filter p (world_at f s).sends
  filter_early p s t g h late =
      let a = splits s t g h in
      ap (filter p) a.parts ∙ filter-append p (world_at f s).sends a.rest
      ∙ ap (λ (l : List Send). filter p (world_at f s).sends ++ l) (filter_none p a.rest (All-weaker (λ (x : Send). s ≤ x.cycle) (λ (x : Send). p x ≡ false) late a.rest a.late))
      ∙ append-nil (filter p (world_at f s).sends)

  -- the sends of node k below cycle c
  pub below_is : (k c t : ℕ) → f.start ≤ c → c ≤ t → filter (λ x. nat_lt x.cycle c) (sends_of k (world_at f t).sends) ≡ sends_of k (world_at f c).sends
  below_is k c t g h =
      let p : Send → Bool = λ x. nat_lt x.cycle c in
      let q : Send → Bool = λ x. x.node == k in
      let Q : Send → Type 0 = λ x. (x.node < f.topo.nodes) × (x.cycle < c) in
      filter_swap p q (world_at f t).sends
      ∙ ap (filter q) (filter_early p c t g h (λ x l. not_below x.cycle c l)
      ∙ filter_whole p (world_at f c).sends (All-weaker Q (λ (x : Send). p x ≡ true) (λ x l. is_below x.cycle c l.1) (world_at f c).sends (all_inside c g)))

  pub count_is : (k c : ℕ) → f.start ≤ c → c ≤ f.topo.limit → sends_below (facts_of f).sends k c ≡ length (sends_of k (world_at f c).sends)
  unfolding sends_below
  count_is k c g h = ap length (below_is k c f.topo.limit g h)

  -- the sends of node k, cycle by cycle
  own_case : (t k : ℕ) (o : Option ℕ) → sends_of k (send_of t k o) ≡ send_of t k o
  own_case t k None = refl
  own_case t k (Some b) = let x : Send = record { node = k; cycle = t; byte = b } in ap (λ (b : Bool). cond b (x ∷ []) []) (same_node k k refl)

  other_case : (t j k : ℕ) (o : Option ℕ) → j ≢ k → sends_of k (send_of t j o) ≡ []
  other_case t j k None d = refl
  other_case t j k (Some b) d = let x : Send = record { node = j; cycle = t; byte = b } in ap (λ (b : Bool). cond b (x ∷ []) []) (other_node j k d)

  pub sends_next : (t k : ℕ) → f.start ≤ t → k < f.topo.nodes → sends_of k (world_at f (suc t)).sends ≡ sends_of k (world_at f t).sends ++ send_of t k (f.kind.sends t (node_at f k t))
  sends_next t k g h =
      let q : Send → Bool = λ x. x.node == k in
      ap (filter q) (next_sends t g) ∙ filter-append q (world_at f t).sends (each_below f.topo.nodes (sent_in t))
      ∙ ap (λ (l : List Send). sends_of k (world_at f t).sends ++ l)
      (filter_each q f.topo.nodes (sent_in t)
      ∙ each_one f.topo.nodes k (λ j. filter q (sent_in t j)) h (λ j l d. other_case t j k (f.kind.sends t (node_at f j t)) d)
      ∙ own_case t k (f.kind.sends t (node_at f k t)))

  -- node k's sends below c are the first of all its sends
  pub sends_front : (k c t : ℕ) → f.start ≤ c → c ≤ t → (rest : List Send) × (sends_of k (world_at f t).sends ≡ sends_of k (world_at f c).sends ++ rest)
  sends_front k c t g h =
      let a = splits c t g h in
      (sends_of k a.rest, ap (sends_of k) a.parts ∙ filter-append (λ (x : Send). x.node == k) (world_at f c).sends a.rest)

  pub posted_front : (k c : ℕ) → f.start ≤ c → c ≤ f.topo.limit → take (sends_below (facts_of f).sends k c) (sends_of k (facts_of f).sends) ≡ sends_of k (world_at f c).sends
  posted_front k c g h =
      let a = sends_front k c f.topo.limit g h in
      ap (λ (l : List Send). take (sends_below (facts_of f).sends k c) l) a.1 ∙ take_at (sends_of k (world_at f c).sends) a.0 (sends_below (facts_of f).sends k c) (sym (count_is k c g h))
