-- The sends of a run are made in order of cycle, then node; so are those of them that pass a test, which a record has of
-- each node, once they are sorted by node and then by cycle.
use Rattle.std.proofs.Common.{◌≡◌, ℕ, zero, suc, ◌+◌, ◌-◌, ◌<◌, ◌≤◌, ◌≢◌, Bool, true, false, cond, not, ◌&&◌, ◌==◌, Option, Some, None, List, [], ◌∷◌, ◌++◌, sym, subst, ◌∙◌, ap, arith, append-nil, refl}
use Rattle.std.specs.List.{filter, All}
use Rattle.std.specs.List.Sorted.{IsNonDecreasingBy, IsStableByKey, ties}
use Rattle.std.specs.Ordering.{nat_cmp, is_lt}
use Rattle.std.proofs.lemmas.List.Elements.{filter_agree, filter-append, All-append, All-nil, All-cons, All-weaker, All-filter}
use Rattle.std.proofs.lemmas.Bool.Decides.{nat_tests}
use native.Mathlib.Decide.{ℕ_discrete}
use Rattle.air_base.specs.declared.air.Send.{Send}
use Rattle.air_base.specs.Each.{each_below}
use Rattle.world_core.specs.Order.{Fleet, Moment, node_at, send_of, world_at}
use Rattle.world_core.specs.Sends.{sends_of}
use Rattle.air_base.proofs.Each.{All_each, filter_none, filter_whole}
use Rattle.world_core.proofs.Final.{filter_swap}
use Rattle.world_core.proofs.Sends.{first, next}
use Rattle.world_core.proofs.Sorted.{Agree, Sorted, sorted_append, sorted_from, sorted_level, sorted_same}
use Rattle.send_order.specs.Order.{AreOrdered}

-- what a stable sort keeps
tie_is : (a b : ℕ) → (not (is_lt (nat_cmp a b)) && not (is_lt (nat_cmp b a))) ≡ (b == a)
tie_is a b = grind (arith, nat_tests)

pub agree_by : {X : Type 0} (key : X → ℕ) (xs ys : List X) → IsStableByKey key nat_cmp xs ys → Agree key ys xs
agree_by {X} key xs ys s z =
    sym (filter_agree (ties (λ (x y : X). is_lt (nat_cmp (key x) (key y))) z) (λ (r : X). key r == key z) (λ r. tie_is (key z) (key r)) ys)
    ∙ s z ∙ filter_agree (ties (λ (x y : X). is_lt (nat_cmp (key x) (key y))) z) (λ (r : X). key r == key z) (λ r. tie_is (key z) (key r)) xs

abbrev pub cycle_of : Send → ℕ
cycle_of x = x.cycle

abbrev pub node_of : Send → ℕ
node_of x = x.node

-- sends in order of cycle, then node
pub record AreInOrder (xs : List Send) : Type 0 where
  pub cycles : Sorted cycle_of xs
  pub nodes : (c : ℕ) → Sorted node_of (filter (λ x. x.cycle == c) xs)

pub none_in_order : AreInOrder []
none_in_order = record { cycles = tt; nodes = λ c. tt }

-- a part of a list in order is in order
kept_case : {X : Type 0} (key : X → ℕ) (b : Bool) (x : X) (xs : List X) → All (λ z. key x ≤ key z) xs → Sorted key xs → Sorted key (cond b (x ∷ xs) xs)
kept_case key true x xs low s = (low, s)
kept_case key false x xs low s = s

sorted_filter : {X : Type 0} (key : X → ℕ) (p : X → Bool) (xs : List X) → Sorted key xs → Sorted key (filter p xs)
sorted_filter key p [] s = tt
sorted_filter key p (x ∷ xs) s = kept_case key (p x) x (filter p xs) (All-filter p (λ z. key x ≤ key z) xs s.0) (sorted_filter key p xs s.1)

-- what node k sends in cycle t
one_send : (P : Send → Type 0) (t k : ℕ) (o : Option ℕ) → ((b : ℕ) → P (record { node = k; cycle = t; byte = b })) → All P (send_of t k o)
one_send P t k None h = All-nil P
one_send P t k (Some b) h = All-cons P (record { node = k; cycle = t; byte = b }) [] (h b) (All-nil P)

is_cycle : (a b : ℕ) → a ≡ b → (a == b) ≡ true
is_cycle a b e = grind (arith, nat_tests)

pub no_cycle : (a b : ℕ) → a ≢ b → (a == b) ≡ false
no_cycle a b e = grind (arith, nat_tests)

-- the sends of a cycle are in order of node
sorted_nodes : (t n : ℕ) (o : ℕ → Option ℕ) → Sorted node_of (each_below n (λ k. send_of t k (o k)))
sorted_nodes t zero o = tt
sorted_nodes t (suc n) o =
    sorted_append node_of n (each_below n (λ k. send_of t k (o k))) (send_of t n (o n))
    (All_each (λ x. node_of x ≤ n) n (λ k. send_of t k (o k)) (λ k l. one_send (λ x. node_of x ≤ n) t k (o k) (λ b. omega arith)))
    (one_send (λ x. n ≤ node_of x) t n (o n) (λ b. omega arith))
    (sorted_nodes t n o)
    (sorted_level node_of n (send_of t n (o n)) (one_send (λ x. node_of x ≡ n) t n (o n) (λ b. refl)))

module _ {S R : Type 0} (f : Fleet S R) (inside : All (λ x. x.cycle < f.start) f.sent) (begun : AreInOrder f.sent) where
  each_more : (P : ℕ → Type 0) → P f.start → ((t : ℕ) → f.start ≤ t → P t → P (suc t)) → (n : ℕ) → P (f.start + n)
  each_more P z s zero = let e : f.start ≡ f.start + 0 = omega arith in subst P e z
  each_more P z s (suc n) = let e : suc (f.start + n) ≡ f.start + suc n = omega arith in subst P e (s (f.start + n) (omega arith) (each_more P z s n))

  each_cycle : (P : ℕ → Type 0) → P f.start → ((t : ℕ) → f.start ≤ t → P t → P (suc t)) → (t : ℕ) → f.start ≤ t → P t
  each_cycle P z s t h = let e : f.start + (t - f.start) ≡ t = omega arith in subst P e (each_more P z s (t - f.start))

  abbrev sends_in : ℕ → ℕ → Option ℕ
  sends_in t k = f.kind.sends t (node_at f k t)

  abbrev made : ℕ → List Send
  made t = each_below f.topo.nodes (λ k. send_of t k (sends_in t k))

  made_in : (P : Send → Type 0) (t : ℕ) → ((x : Send) → x.cycle ≡ t → P x) → All P (made t)
  made_in P t h = All_each P f.topo.nodes (λ k. send_of t k (sends_in t k)) (λ k l. one_send P t k (sends_in t k) (λ b. h (record { node = k; cycle = t; byte = b }) refl))

  first_sends : (world_at f f.start).sends ≡ f.sent
  first_sends = ap (λ (w : Moment S R). w.sends) (first f)

  next_sends : (t : ℕ) → f.start ≤ t → (world_at f (suc t)).sends ≡ (world_at f t).sends ++ made t
  next_sends t h = ap (λ (w : Moment S R). w.sends) (next f t h)

  early : (t : ℕ) → f.start ≤ t → All (λ x. x.cycle < t) (world_at f t).sends
  early =
      each_cycle (λ t. All (λ x. x.cycle < t) (world_at f t).sends) (subst (All (λ x. x.cycle < f.start)) (sym first_sends) inside)
      (λ t h old.
      subst (All (λ x. x.cycle < suc t)) (sym (next_sends t h))
      (All-append (λ x. x.cycle < suc t) (world_at f t).sends (made t) (All-weaker (λ x. x.cycle < t) (λ x. x.cycle < suc t) (λ x q. omega arith) (world_at f t).sends old)
      (made_in (λ x. x.cycle < suc t) t (λ x e. omega arith))))

  -- the world's sends are in order of cycle
  by_cycle : (t : ℕ) → f.start ≤ t → Sorted cycle_of (world_at f t).sends
  by_cycle =
      each_cycle (λ t. Sorted cycle_of (world_at f t).sends) (subst (Sorted cycle_of) (sym first_sends) begun.cycles)
      (λ t h old.
      subst (Sorted cycle_of) (sym (next_sends t h))
      (sorted_append cycle_of t (world_at f t).sends (made t)
      (All-weaker (λ x. x.cycle < t) (λ x. cycle_of x ≤ t) (λ x q. omega arith) (world_at f t).sends (early t h))
      (made_in (λ x. t ≤ cycle_of x) t (λ x e. omega arith))
      old (sorted_level cycle_of t (made t) (made_in (λ x. cycle_of x ≡ t) t (λ x e. e)))))

  -- and those of one cycle in order of node
  node_step : (c t : ℕ) → f.start ≤ t → Dec (t ≡ c) → Sorted node_of (filter (λ x. x.cycle == c) (world_at f t).sends)
      → Sorted node_of (filter (λ x. x.cycle == c) (world_at f t).sends ++ filter (λ x. x.cycle == c) (made t))
  node_step c t h (yes e) old =
      let before = filter_none (λ (x : Send). x.cycle == c) (world_at f t).sends
      (All-weaker (λ x. x.cycle < t) (λ x. (x.cycle == c) ≡ false) (λ x q. no_cycle x.cycle c (λ s. absurd (omega arith))) (world_at f t).sends (early t h)) in
      let now = filter_whole (λ (x : Send). x.cycle == c) (made t) (made_in (λ x. (x.cycle == c) ≡ true) t (λ x q. is_cycle x.cycle c (q ∙ e))) in
      subst (λ xs. Sorted node_of (xs ++ filter (λ x. x.cycle == c) (made t))) (sym before)
      (subst (Sorted node_of) (sym now) (sorted_nodes t f.topo.nodes (sends_in t)))
  node_step c t h (no d) old =
      let now = filter_none (λ (x : Send). x.cycle == c) (made t) (made_in (λ x. (x.cycle == c) ≡ false) t (λ x q. no_cycle x.cycle c (λ s. d (sym q ∙ s)))) in
      let joined = ap (λ xs. filter (λ (x : Send). x.cycle == c) (world_at f t).sends ++ xs) now ∙ append-nil (filter (λ (x : Send). x.cycle == c) (world_at f t).sends) in
      subst (Sorted node_of) (sym joined) old

  by_node : (c t : ℕ) → f.start ≤ t → Sorted node_of (filter (λ x. x.cycle == c) (world_at f t).sends)
  by_node c =
      each_cycle (λ t. Sorted node_of (filter (λ x. x.cycle == c) (world_at f t).sends))
      (subst (λ xs. Sorted node_of (filter (λ x. x.cycle == c) xs)) (sym first_sends) (begun.nodes c))
      (λ t h old.
      subst (Sorted node_of) (sym (ap (filter (λ (x : Send). x.cycle == c)) (next_sends t h) ∙ filter-append (λ (x : Send). x.cycle == c) (world_at f t).sends (made t)))
      (node_step c t h (ℕ_discrete t c) old))

  -- a list with the sends of each node that pass a test, sorted by node and then by cycle
  in_order :
      (c : ℕ) (p : Send → Bool) (xs ys zs : List Send)
      → f.start ≤ c
      → ((k : ℕ) → sends_of k xs ≡ sends_of k (filter p (world_at f c).sends))
      → IsNonDecreasingBy node_of ys
      → Agree node_of ys xs
      → IsNonDecreasingBy cycle_of zs
      → Agree cycle_of zs ys
      → zs ≡ filter p (world_at f c).sends
  in_order c p xs ys zs h same nodes kept cycles moved =
      let all : List Send = filter p (world_at f c).sends in
      sorted_same cycle_of zs all (sorted_from cycle_of zs cycles) (sorted_filter cycle_of p (world_at f c).sends (by_cycle c h))
      (λ z.
      let of_cycle : Send → Bool = λ x. x.cycle == z.cycle in
      let swapped = filter_swap of_cycle p (world_at f c).sends in
      let order : Sorted node_of (filter of_cycle all) = subst (Sorted node_of) (sym swapped) (sorted_filter node_of p (filter of_cycle (world_at f c).sends) (by_node z.cycle c h)) in
      moved z
      ∙ sorted_same node_of (filter of_cycle ys) (filter of_cycle all) (sorted_filter node_of of_cycle ys (sorted_from node_of ys nodes)) order
      (λ w.
      let of_node : Send → Bool = λ x. x.node == w.node in
      filter_swap of_node of_cycle ys ∙ ap (filter of_cycle) (kept w ∙ same w.node) ∙ filter_swap of_cycle of_node all))

  -- so a record with the sends of each node that pass a test
  pub ordered_sends : (c : ℕ) (p : Send → Bool) (xs zs : List Send) → f.start ≤ c → ((k : ℕ) → sends_of k xs ≡ sends_of k (filter p (world_at f c).sends))
      → AreOrdered xs zs → zs ≡ filter p (world_at f c).sends
  ordered_sends c p xs zs h same o = in_order c p xs o.ys zs h same o.nodes (agree_by node_of xs o.ys o.kept) o.cycles (agree_by cycle_of o.ys zs o.moved)
