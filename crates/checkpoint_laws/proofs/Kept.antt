-- What is saved of a node is read again as that node.
use Rattle.std.proofs.Common.{◌≡◌, ℕ, zero, suc, ◌+◌, ◌<◌, ◌≤◌, ◌&&◌, nat_le, Bool, true, List, [], ◌++◌, map, length, refl, sym, subst, ◌∙◌, ap, arith}
use Rattle.std.specs.Prelude.{slice_index}
use Rattle.std.specs.List.{list_all, range_with_len}
use Rattle.std.proofs.lemmas.Bool.{le-leb}
use Rattle.std.proofs.lemmas.List.{ext_get_or, same_lists}
use Rattle.std.proofs.lemmas.List.FromFn.{get_or-map-range_with_len, length-map-range_with_len}
use Rattle.air_base.specs.Bounds.{LAST_CYCLE}
use Rattle.world_core.specs.Order.{Fleet, node_at, run_rows, world_at}
use Rattle.board_io.specs.Kept.{io_of}
use Rattle.node_core.specs.Numbers.{numbers_of}
use Rattle.node_core.specs.declared.row.Row.{Row}
use Rattle.node_core.specs.State.{NodeState}
use Rattle.node_runner.specs.Run.{kept_at}
use Rattle.node_runner.specs.Scenario.{IsRestoredIn, IsScenario, ScenarioOf, fleet_of}
use Rattle.node_laws.specs.Scenario.{IsSaved}
use Rattle.node_laws.proofs.Images.{AreImages}
use Rattle.node_laws.proofs.Restores.{saved}
use Rattle.node_laws.proofs.Worlds.{node_in}
use Rattle.state_text.specs.Text.{NodeOf}
use Rattle.checkpoint_text.specs.NodeOf.{node_of}
use Rattle.checkpoint_text.specs.Onward.{onward, saved_node}
use Rattle.checkpoint_text.specs.State.{counts_fit, parts_of, saved_at, saved_from}
use Rattle.checkpoint_text.proofs.NodeIs.{one_node}
use Rattle.checkpoint_text.proofs.Continues.{continues, kept_later, node_later, rows_later}

-- a list is what stands at its places
pub by_index : (xs : List ℕ) (n : ℕ) → length xs ≡ n → map (λ k. slice_index xs k) (range_with_len 0 n) ≡ xs
by_index xs n len =
    let count = length-map-range_with_len (λ k. slice_index xs k) 0 n in
    ext_get_or 0 (map (λ k. slice_index xs k) (range_with_len 0 n)) xs (count ∙ sym len)
    (λ k lt. get_or-map-range_with_len (λ j. slice_index xs j) 0 n k k 0 (omega (arith, count, lt)) (omega arith))

-- a test that holds at each place
each_of : (p : ℕ → Bool) (a n : ℕ) → ((k : ℕ) → a ≤ k → k < a + n → p k ≡ true) → list_all p (range_with_len a n) ≡ true
each_of p a zero h = refl
each_of p a (suc n) h =
    let here : p a ≡ true = h a (omega arith) (omega arith) in
    let rest : list_all p (range_with_len (a + 1) n) ≡ true = each_of p (a + 1) n (λ k low high. h k (omega arith) (omega arith)) in
    (λ i. here i && rest i)

-- the state of a node is read from what is saved of it
again : (sc : ScenarioOf) (k c : ℕ) (u : NodeState) → IsSaved sc k c u → node_of sc k (parts_of u) ≡ u
again sc k c u s =
    let sram : map (λ i. slice_index u.sram i) (range_with_len 0 4096) ≡ u.sram = by_index u.sram 4096 s.sram.length_is in
    one_node sc k c (parts_of u) u s.within (subst (λ (xs : List ℕ). IsRestoredIn sc k (numbers_of u) (io_of u.board) xs u) (sym sram) s.restored)

module _ (sc : ScenarioOf) (c : ℕ) (ok : IsScenario sc) (images : AreImages sc) (lim : c ≤ sc.topo.limit) where
  -- what is saved of node k
  pub saved_part : (k : ℕ) → k < sc.topo.nodes → saved_node (saved_at sc c) k ≡ parts_of (node_at (fleet_of sc) k c)
  saved_part k lt = get_or-map-range_with_len (λ j. parts_of (node_at (fleet_of sc) j c)) 0 sc.topo.nodes k k (record { numbers = []; io = []; sram = [] }) lt (omega arith)

  pub read_again : (k : ℕ) → k < sc.topo.nodes → node_of sc k (saved_node (saved_at sc c) k) ≡ node_at (fleet_of sc) k c
  read_again k lt = ap (node_of sc k) (saved_part k lt) ∙ again sc k c (node_at (fleet_of sc) k c) (saved sc k c ok images lim)

  -- a state that is saved of the run onward from there is that of the run, and the rows in between are the run's
  module _ (d : ℕ) (later : c ≤ d) where
    abbrev from_there : Fleet NodeState Row
    from_there = onward sc (saved_at sc c)

    node_there : (k : ℕ) → k < sc.topo.nodes → node_at from_there k d ≡ node_at (fleet_of sc) k d
    node_there = node_later (fleet_of sc) c (omega arith) lim (λ k. node_of sc k (saved_node (saved_at sc c) k)) (kept_at sc c) read_again refl d later

    -- so many cycles give at most as many instructions
    pub counted : d ≤ sc.topo.limit → counts_fit from_there d ≡ true
    counted last =
        each_of (λ k. nat_le (node_at from_there k d).count LAST_CYCLE) 0 sc.topo.nodes
        (λ k none low.
        let few : (node_at (fleet_of sc) k d).count ≤ d = (node_in sc ok images k d last).count in
        let most : (node_at (fleet_of sc) k d).count ≤ LAST_CYCLE = omega (arith, few, last, ok.topo.ranges.limit_to) in
        ap (λ (u : NodeState). nat_le u.count LAST_CYCLE) (node_there k (omega (arith, low))) ∙ le-leb (node_at (fleet_of sc) k d).count LAST_CYCLE most)

    abbrev parts_in : Fleet NodeState Row → ℕ → NodeOf
    parts_in f k = parts_of (node_at f k d)

    nodes_there : map (parts_in from_there) (range_with_len 0 sc.topo.nodes) ≡ map (parts_in (fleet_of sc)) (range_with_len 0 sc.topo.nodes)
    nodes_there =
        let len = length-map-range_with_len (parts_in from_there) 0 sc.topo.nodes in
        let len' = length-map-range_with_len (parts_in (fleet_of sc)) 0 sc.topo.nodes in
        same_lists (map (parts_in from_there) (range_with_len 0 sc.topo.nodes)) (map (parts_in (fleet_of sc)) (range_with_len 0 sc.topo.nodes)) (omega (arith, len, len'))
        (λ k none low.
        let lt : k < sc.topo.nodes = omega (arith, low, len) in
        let place : 0 + k ≡ k = omega arith in
        get_or-map-range_with_len (parts_in from_there) 0 sc.topo.nodes k k none lt place ∙ (ap parts_of (node_there k lt)
        ∙ sym (get_or-map-range_with_len (parts_in (fleet_of sc)) 0 sc.topo.nodes k k none lt place)))

    pub saved_on : saved_from sc (saved_at sc c) d ≡ saved_at sc d
    saved_on =
        let kept = kept_later (fleet_of sc) c (omega arith) lim (λ k. node_of sc k (saved_node (saved_at sc c) k)) (kept_at sc c) read_again refl d later in
        (λ i. record { cycle = d; nodes = nodes_there i; sends = kept i })

    pub rows_on : (world_at (fleet_of sc) d).rows ≡ (world_at (fleet_of sc) c).rows ++ (world_at (onward sc (saved_at sc c)) d).rows
    rows_on = rows_later (fleet_of sc) c (omega arith) lim (λ k. node_of sc k (saved_node (saved_at sc c) k)) (kept_at sc c) read_again refl d later

  pub goes_on : run_rows (fleet_of sc) ≡ (world_at (fleet_of sc) c).rows ++ run_rows (onward sc (saved_at sc c))
  goes_on = continues (fleet_of sc) c (omega arith) lim (λ k. node_of sc k (saved_node (saved_at sc c) k)) (kept_at sc c) read_again refl
