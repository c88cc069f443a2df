-- The state of a run: its nodes as they are at the cycle reached, and the sends that can still be heard in order.
use Rattle.std.proofs.Common.{◌≡◌, ℕ, ◌+◌, ◌<◌, ◌≤◌, ◌==◌, Bool, true, false, cond, Option, None, Some, List, [], ◌∷◌, length, map, get_or, refl, sym, ◌∙◌, ap, arith}
use Rattle.std.specs.Prelude.{slice_index, slice_index_or}
use Rattle.std.specs.List.{All, AllByRecursion, filter, range_with_len}
use Rattle.std.proofs.lemmas.Bool.{eqb-true}
use Rattle.std.proofs.lemmas.List.{get_or-map, length-map, same_lists}
use Rattle.std.proofs.lemmas.List.Elements.{All-cons, All-head, All-nil, All-tail, All-weaker}
use Rattle.std.proofs.lemmas.List.FromFn.{get_or-map-range_with_len, length-map-range_with_len}
use Rattle.air_base.specs.declared.air.Send.{Send}
use Rattle.air_base.specs.NodeRun.{Timed}
use Rattle.board_io.specs.declared.board.Board.{Board}
use Rattle.board_io.specs.Kept.{io_at, io_of}
use Rattle.world_core.specs.Kept.{is_kept}
use Rattle.world_core.specs.Order.{Fleet, node_at}
use Rattle.world_core.specs.Topology.{Topology}
use Rattle.world_core.proofs.Sorted.{Sorted}
use Rattle.node_core.specs.declared.row.Row.{Row}
use Rattle.node_core.specs.State.{NodeState}
use Rattle.node_runner.specs.Scenario.{ScenarioOf}
use Rattle.send_order.specs.Order.{AreOrdered}
use Rattle.send_order.proofs.KeptSends.{AreInOrder, cycle_of, node_of, ordered_sends}
use Rattle.state_text.specs.Bounds.{are_sends}
use Rattle.state_text.specs.Text.{NodeOf, StateOf}
use Rattle.state_text.specs.Writing.{IsSized, node_of as saved_node_of}
use Rattle.checkpoint_text.specs.Onward.{onward}
use Rattle.fleet_flight.specs.Paused.{IsPaused}
use Rattle.checkpoint_text.specs.State.{kept_of, parts_of, stood}
use Rattle.checkpoint_text.proofs.Bounded.{IsBehind, IsInside, are_behind, are_inside}

-- ---- the sends

-- those of one cycle
low_case : (c : ℕ) (x z : Send) (xs : List Send) (b : Bool) → (z.cycle == c) ≡ b → x.cycle ≡ c → IsBehind x z → All (λ y. node_of x ≤ node_of y) xs
    → All (λ y. node_of x ≤ node_of y) (cond b (z ∷ xs) xs)
low_case c x z xs false e at behind rest = rest
low_case c x z xs true e at behind rest =
    let same : z.cycle ≡ c = eqb-true z.cycle c e in
    let above : x.node < z.node = behind.same (at ∙ sym same) in
    All-cons (λ y. node_of x ≤ node_of y) z xs (omega (arith, above)) rest

low : (c : ℕ) (x : Send) (xs : List Send) → x.cycle ≡ c → All (IsBehind x) xs → All (λ y. node_of x ≤ node_of y) (filter (λ y. y.cycle == c) xs)
low c x [] at h = All-nil (λ y. node_of x ≤ node_of y)
low c x (z ∷ xs) at h =
    low_case c x z (filter (λ y. y.cycle == c) xs) (z.cycle == c) refl at (All-head (IsBehind x) z xs h) (low c x xs at (All-tail (IsBehind x) z xs h))

node_case : (c : ℕ) (x : Send) (xs : List Send) (b : Bool) → (x.cycle == c) ≡ b → All (IsBehind x) xs → Sorted node_of (filter (λ y. y.cycle == c) xs)
    → Sorted node_of (cond b (x ∷ filter (λ y. y.cycle == c) xs) (filter (λ y. y.cycle == c) xs))
node_case c x xs false e behind rest = rest
node_case c x xs true e behind rest = (low c x xs (eqb-true x.cycle c e) behind, rest)

by_node : (t : Topology) (cycle c : ℕ) (before : Option Send) (xs : List Send) → are_sends t cycle before xs ≡ true → Sorted node_of (filter (λ x. x.cycle == c) xs)
by_node t cycle c before [] h = tt
by_node t cycle c before (x ∷ xs) h =
    let behind = are_behind t cycle before x xs h in
    node_case c x xs (x.cycle == c) refl behind.0 (by_node t cycle c (Some x) xs behind.1)

by_cycle : (t : Topology) (cycle : ℕ) (before : Option Send) (xs : List Send) → are_sends t cycle before xs ≡ true → Sorted cycle_of xs
by_cycle t cycle before [] h = tt
by_cycle t cycle before (x ∷ xs) h =
    let behind = are_behind t cycle before x xs h in
    (All-weaker (IsBehind x) (λ z. cycle_of x ≤ cycle_of z) (λ z b. b.later) xs behind.0, by_cycle t cycle (Some x) xs behind.1)

-- the sends of a state stand in order
pub state_in_order : (t : Topology) (cycle : ℕ) (xs : List Send) → are_sends t cycle None xs ≡ true → AreInOrder xs
state_in_order t cycle xs h = record { cycles = by_cycle t cycle None xs h; nodes = λ c. by_node t cycle c None xs h }

earlier : (t : Topology) (cycle : ℕ) (before : Option Send) (xs : List Send) → are_sends t cycle before xs ≡ true → All (λ x. x.cycle < cycle) xs
earlier t cycle before xs h = All-weaker (IsInside t cycle) (λ x. x.cycle < cycle) (λ x q. q.1) xs (are_inside t cycle before xs h)

-- of a run onward, once they are cut and sorted
pub sends_saved : (sc : ScenarioOf) (st : StateOf) (c : ℕ) (vs : List (Timed NodeState Row)) (xs zs : List Send) → are_sends sc.topo st.cycle None st.sends ≡ true → IsPaused (onward sc st) c c vs xs
    → AreOrdered (filter (is_kept sc.topo c) xs) zs → zs ≡ kept_of (onward sc st) c
sends_saved sc st c vs xs zs order paused ordered =
    ordered_sends (onward sc st) (earlier sc.topo st.cycle None st.sends order) (state_in_order sc.topo st.cycle st.sends order) c (is_kept sc.topo c) (filter (is_kept sc.topo c) xs) zs paused.begun paused.kept ordered

-- ---- the nodes

pub io_shown : (b : Board) (place : ℕ) → place < 224 → io_at (0x20 + place) b ≡ slice_index (io_of b) place
io_shown b place low =
    let at : 0 + place ≡ place = omega arith in
    sym (get_or-map-range_with_len (λ k. io_at (0x20 + k) b) 0 224 place place 0 low at)

pub sram_shown : (bytes : List ℕ) (place : ℕ) → place < 4096 → slice_index bytes place ≡ slice_index (map (λ k. slice_index bytes k) (range_with_len 0 4096)) place
sram_shown bytes place low =
    let at : 0 + place ≡ place = omega arith in
    sym (get_or-map-range_with_len (λ k. slice_index bytes k) 0 4096 place place 0 low at)

pub stood_at : (vs : List (Timed NodeState Row)) (k : ℕ) (v : Timed NodeState Row) → k < length vs → v ≡ slice_index_or vs k v → saved_node_of (stood vs) k ≡ parts_of v.state
stood_at vs k v low is = get_or-map (λ v. parts_of v.state) vs k v (record { numbers = []; io = []; sram = [] }) low ∙ ap (λ (w : Timed NodeState Row). parts_of w.state) (sym is)

pub stood_sized : (vs : List (Timed NodeState Row)) → AllByRecursion IsSized (stood vs)
stood_sized [] = tt
stood_sized (v ∷ vs) = (
  record {
    io = length-map-range_with_len (λ k. io_at (0x20 + k) v.state.board) 0 224;
    sram = length-map-range_with_len (λ k. slice_index v.state.sram k) 0 4096;
  },
  stood_sized vs,
)

pub stood_nodes : (f : Fleet NodeState Row) (c : ℕ) (vs : List (Timed NodeState Row)) → length vs ≡ f.topo.nodes
    → ((k : ℕ) (d : Timed NodeState Row) → k < f.topo.nodes → (slice_index_or vs k d).state ≡ node_at f k c)
    → stood vs ≡ map (λ k. parts_of (node_at f k c)) (range_with_len 0 f.topo.nodes)
stood_nodes f c vs many are =
    let len = length-map-range_with_len (λ k. parts_of (node_at f k c)) 0 f.topo.nodes in
    let len' = length-map vs (λ v. parts_of v.state) in
    same_lists (stood vs) (map (λ k. parts_of (node_at f k c)) (range_with_len 0 f.topo.nodes)) (omega (arith, len, len', many)) (λ k d low. at k d (omega (arith, low, len', many)))
  where
    none : Timed NodeState Row
    none = record { cycle = 0; asking = false; state = f.begins 0; rows = [] }

    at : (k : ℕ) (d : NodeOf) → k < f.topo.nodes → get_or (stood vs) k d ≡ get_or (map (λ k. parts_of (node_at f k c)) (range_with_len 0 f.topo.nodes)) k d
    at k d low =
        let place : 0 + k ≡ k = omega arith in
        get_or-map (λ v. parts_of v.state) vs k none d (omega (arith, low, many))
        ∙ (ap parts_of (are k none low)
        ∙ sym (get_or-map-range_with_len (λ k. parts_of (node_at f k c)) 0 f.topo.nodes k k d low place))
