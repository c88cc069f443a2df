-- The seat of one node more.
use Rattle.std.proofs.Common.{◌≡◌, ℕ, zero, suc, ◌+◌, ◌<◌, List, [], ◌∷◌, ◌++◌, length, get_or, sym, ◌∙◌, ap, subst, arith}
use Rattle.atomic_table.specs.Seated.{TableId}
use Rattle.world_core.specs.declared.world.WorldFacts.{WorldFacts}
use Rattle.neighbour_sync.specs.Layout.{word_count}
use Rattle.neighbour_sync.specs.Rule.{air_view, node_view}
use Rattle.neighbour_sync.specs.Steps.{with_seat, next_seat}
use Rattle.neighbour_sync.specs.Seats.{NodeFacts, first_node}
use Rattle.neighbour_sync.specs.Inside.{IsLaid}
use Rattle.neighbour_sync.proofs.Views.{Seat}

-- what the first seat, b, and the new one, m, know after a split by the seat a
module _ (w : WorldFacts) (n : ℕ) (a b m : Seat) (view : a ≡ (air_view w n, [])) where
  pub first_after : b ≡ (with_seat a.0, a.1) → b ≡ (air_view w (n + 1), [])
  first_after e = e ∙ ap (λ (x : Seat). (with_seat x.0, x.1)) view

  pub next_is : m ≡ (next_seat a.0, []) → m ≡ (node_view w n, [])
  next_is e = e ∙ ap (λ (x : Seat). (next_seat x.0, [])) view

-- a new seat m of node n, of the table `mine`, as `NodeSeat::of` wants it
module _ (w : WorldFacts) (z mine : TableId) (nodes n : ℕ) (m : Seat) (same : mine ≡ z) (laid : IsLaid z.words nodes w) (is : m ≡ (node_view w n, [])) where
  pub world_is : m.0.world ≡ w
  world_is = ap (λ (x : Seat). x.0.world) is

  pub words_are : mine.words ≡ word_count m.0.world.topo.nodes
  words_are = ap (λ (y : TableId). y.words) same ∙ laid.words_is ∙ ap word_count (laid.nodes_is ∙ sym (ap (λ (x : WorldFacts). x.topo.nodes) world_is))

  pub is_below : n < nodes → n < m.0.world.topo.nodes
  is_below lt = subst (λ (k : ℕ). n < k) (laid.nodes_is ∙ sym (ap (λ (x : WorldFacts). x.topo.nodes) world_is)) lt

  pub view_is : m ≡ (node_view m.0.world n, [])
  view_is = is ∙ ap (λ (x : WorldFacts). (node_view x n, [])) (sym world_is)

  pub facts_are : (r : NodeFacts) → r ≡ first_node mine m.0.world n → r ≡ first_node z w n
  facts_are r e = e ∙ (λ i. first_node (same i) (world_is i) n)

-- the seats are those of the nodes 0, 1, .. in order
one_more : (f : ℕ → NodeFacts) (xs : List NodeFacts) (x : NodeFacts) → ((k : ℕ) (d : NodeFacts) → k < length xs → get_or xs k d ≡ f k) → x ≡ f (length xs)
    → (k : ℕ) (d : NodeFacts) → k < length (xs ++ x ∷ []) → get_or (xs ++ x ∷ []) k d ≡ f k
one_more f [] x h e zero d lt = e
one_more f [] x h e (suc k) d lt = absurd (omega arith)
one_more f (y ∷ ys) x h e zero d lt = h zero d (omega arith)
one_more f (y ∷ ys) x h e (suc k) d lt = one_more (λ j. f (suc j)) ys x (λ j c l. h (suc j) c (omega arith)) e k d (omega arith)

pub seated_more : (z : TableId) (w : WorldFacts) (n : ℕ) (xs ys : List NodeFacts) (x : NodeFacts) → ((k : ℕ) (d : NodeFacts) → k < length xs → get_or xs k d ≡ first_node z w k)
    → length xs ≡ n → x ≡ first_node z w n → ys ≡ xs ++ x ∷ [] → (k : ℕ) (d : NodeFacts) → k < length ys → get_or ys k d ≡ first_node z w k
seated_more z w n xs ys x h len e is =
    subst (λ (l : List NodeFacts). (k : ℕ) (d : NodeFacts) → k < length l → get_or l k d ≡ first_node z w k) (sym is) (one_more (first_node z w) xs x h (e ∙ ap (first_node z w) (sym len)))
