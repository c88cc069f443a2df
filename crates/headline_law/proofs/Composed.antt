-- The laws of the order and of the machine, composed.
use Rattle.std.proofs.Common.{◌≡◌, ℕ, ◌<◌, ◌≤◌, List, [], ◌∷◌, get_or, refl, sym, subst, ◌∙◌, arith}
use Rattle.std.specs.List.{All}
use Rattle.atomic_table.specs.Table.{State}
use Rattle.air_base.specs.declared.air.Ask.{Ask}
use Rattle.air_base.specs.declared.air.Heard.{Heard}
use Rattle.world_core.specs.declared.world.WorldFacts.{WorldFacts}
use Rattle.world_core.specs.Settled.{truth}
use Rattle.world_core.specs.Consistent.{AirState, IsConsistent}
use Rattle.world_core.specs.Order.{facts_of, hears, world_at}
use Rattle.world_core.specs.Steps.{opening, after_raise, after_post, after_sample, after_cut}
use Rattle.world_core.proofs.Alone.{hears_truth}
use Rattle.node_runner.specs.Scenario.{IsScenario, ScenarioOf, fleet_of}
use Rattle.node_runner.proofs.Sound.{scenario_lawful, sound}
use Rattle.sync_core.specs.declared.steps.Step.TheVariants.{Raise, Post, Sample}
use Rattle.sync_core.specs.Moves.{IsForGood, Move, Take, Cut, MayMoveAll, after_moves}
use Rattle.sync_core.proofs.Inductive.{opens}
use Rattle.sync_core.proofs.Moves.{any_order, for_good, moves_keep}
use Rattle.neighbour_sync.specs.declared.rule.View.{View}
use Rattle.neighbour_sync.specs.Record.{AirRecord}
use Rattle.neighbour_sync.specs.Shows.{shown, AreShown}
use Rattle.neighbour_sync.proofs.Shown.{consistent}

world_of : (a : AirState) (xs : List Move) → (after_moves a xs).world ≡ a.world
world_of a [] = refl
world_of a (Take (Raise k c) ∷ xs) = world_of (after_raise a k c) xs
world_of a (Take (Post k) ∷ xs) = world_of (after_post a k) xs
world_of a (Take (Sample j s) ∷ xs) = world_of (after_sample a j s) xs
world_of a (Cut f ∷ xs) = world_of (after_cut a f) xs

-- in a consistent state of a scenario's world each recorded sample is what the order's node hears
right_in : (s : ScenarioOf) (a : AirState) → IsScenario s → a.world ≡ facts_of (fleet_of s) → IsConsistent a
    → All (λ x. x.1 ≡ hears (fleet_of s) x.0.cycle (world_at (fleet_of s) x.0.cycle) x.0.node) a.samples
right_in s a i same con k d lt =
    let w : WorldFacts = facts_of (fleet_of s) in
    let x : Ask × Heard = get_or a.samples k d in
    let final = con.recorded.final k d lt in
    let right : x.1 ≡ truth w x.0.node x.0.cycle = subst (λ (v : WorldFacts). x.1 ≡ truth v x.0.node x.0.cycle) same final.right in
    let asked = final.asked in
    let there : (get_or a.world.asks asked.0 x.0).cycle < a.world.topo.limit = (con.lawful.asks_in asked.0 x.0 asked.1).1 in
    let here : x.0.cycle < a.world.topo.limit = subst (λ (y : Ask). y.cycle < a.world.topo.limit) asked.2 there in
    let early : x.0.cycle < w.topo.limit = subst (λ (v : WorldFacts). x.0.cycle < v.topo.limit) same here in
    right ∙ sym (hears_truth (fleet_of s) (sound s i) x.0.node x.0.cycle (omega arith) (omega arith))

pub order_in : (s : ScenarioOf) (moves : List Move) → IsScenario s → MayMoveAll (opening (facts_of (fleet_of s))) moves
    → All (λ x. x.1 ≡ hears (fleet_of s) x.0.cycle (world_at (fleet_of s) x.0.cycle) x.0.node) (after_moves (opening (facts_of (fleet_of s))) moves).samples
order_in s moves i may =
    let w : WorldFacts = facts_of (fleet_of s) in
    right_in s (after_moves (opening w) moves) i (world_of (opening w) moves) (moves_keep (opening w) moves (opens w (scenario_lawful s i)) may)

pub for_good_in : (s : ScenarioOf) (moves : List Move) → IsScenario s → MayMoveAll (opening (facts_of (fleet_of s))) moves
    → All (IsForGood (after_moves (opening (facts_of (fleet_of s))) moves)) (after_moves (opening (facts_of (fleet_of s))) moves).samples
for_good_in s moves i may = any_order (facts_of (fleet_of s)) moves (scenario_lawful s i) may

-- ---- words and record that show a state
pub running_order : (s : ScenarioOf) (words : State (Unit {0}) View) (r : AirRecord) (clocks : List ℕ) → IsScenario s → r.world ≡ facts_of (fleet_of s) → AreShown words r clocks
    → All (λ x. x.1 ≡ hears (fleet_of s) x.0.cycle (world_at (fleet_of s) x.0.cycle) x.0.node) r.samples
running_order s words r clocks i same shows = right_in s (shown r clocks) i same (consistent words r clocks shows)

pub running_for_good : (words : State (Unit {0}) View) (r : AirRecord) (clocks : List ℕ) → AreShown words r clocks → All (IsForGood (shown r clocks)) r.samples
running_for_good words r clocks shows = for_good (shown r clocks) (consistent words r clocks shows)
