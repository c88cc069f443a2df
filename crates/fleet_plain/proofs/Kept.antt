-- The sends of a run from reset that can still be heard, once they are cut and sorted.
use Rattle.std.proofs.Common.{◌≡◌, ℕ, ◌<◌, List}
use Rattle.std.specs.List.{filter}
use Rattle.std.proofs.lemmas.List.Elements.{All-nil}
use Rattle.air_base.specs.declared.air.Send.{Send}
use Rattle.air_base.specs.NodeRun.{Timed}
use Rattle.world_core.specs.Kept.{is_kept}
use Rattle.node_core.specs.declared.row.Row.{Row}
use Rattle.node_core.specs.State.{NodeState}
use Rattle.fleet_flight.specs.Paused.{IsPaused}
use Rattle.send_order.specs.Order.{AreOrdered}
use Rattle.send_order.proofs.KeptSends.{none_in_order, ordered_sends}
use Rattle.node_runner.specs.Scenario.{ScenarioOf, fleet_of}
use Rattle.node_runner.specs.Run.{kept_at}

pub kept : (sc : ScenarioOf) (c : ℕ) (vs : List (Timed NodeState Row)) (xs zs : List Send) → IsPaused (fleet_of sc) c c vs xs → AreOrdered (filter (is_kept sc.topo c) xs) zs → zs ≡ kept_at sc c
kept sc c vs xs zs paused ordered =
    ordered_sends (fleet_of sc) (All-nil (λ (x : Send). x.cycle < 0)) none_in_order c (is_kept sc.topo c) (filter (is_kept sc.topo c) xs) zs paused.begun paused.kept ordered
