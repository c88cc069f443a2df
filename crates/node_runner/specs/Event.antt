-- What a runner's event is in the global order.
use Rattle.std.specs.Prelude.{is_some, ◌≡◌, ℕ, ◌+◌, ◌≤◌, ◌<◌, true, false, Some}
use Rattle.std.specs.List.{Contains}
use Rattle.world_core.specs.Sends.{IsSendNumber}
use Rattle.world_core.specs.Order.{facts_of, node_at}
use Rattle.world_core.specs.Stands.{QuietBetween}
use Rattle.node_runner.specs.Scenario.{fleet_of}
use Rattle.node_runner.specs.Place.{Place, HasEnded, state_at, noted_of}
use Rattle.node_core.specs.Cycle.{node_kind}
use Rattle.node_runner.specs.declared.runner.Event.{Event}
use Rattle.node_runner.specs.declared.runner.Event.TheVariants.{Ask, Sent, Turn, Ended, NoMemory}

-- the node went on to a later cycle, sampling and sending nothing below cycle c
pub record GoesOn (old new : Place) (c : ℕ) : Type 0 where
  pub later : old.cycle ≤ c
  pub within : new.cycle ≤ old.scenario.topo.limit
  pub quiet : QuietBetween (fleet_of old.scenario) old.number old.cycle c

abbrev pub IsEvent : Place → ℕ → Event → Place → Type 0
IsEvent old quantum Ask new =
    (new ≡ record old { cycle = new.cycle; asking = true }) × (new.cycle < old.cycle + quantum) × GoesOn old new new.cycle × (new.cycle < old.scenario.topo.limit)
    × (node_kind.asks new.cycle (node_at (fleet_of old.scenario) old.number new.cycle) ≡ true)
    × Contains (facts_of (fleet_of old.scenario)).asks (record { node = old.number; cycle = new.cycle })
IsEvent old quantum (Sent x) new =
    (new ≡ record old { cycle = x.cycle + 1; unnoted = true }) × (x.cycle < old.cycle + quantum) × GoesOn old new x.cycle × (x.cycle < old.scenario.topo.limit)
    × (x.node ≡ old.number) × IsSendNumber (facts_of (fleet_of old.scenario)) (noted_of old) x
    × (node_kind.sends x.cycle (node_at (fleet_of old.scenario) old.number x.cycle) ≡ Some x.byte)
IsEvent old quantum (Turn c) new =
    (new ≡ record old { cycle = c }) × (c ≡ old.cycle + quantum) × GoesOn old new c × (c < old.scenario.topo.limit) × (is_some (state_at new).stop ≡ false)
IsEvent old quantum Ended new = (new ≡ record old { cycle = new.cycle }) × (new.cycle ≤ old.cycle + quantum) × GoesOn old new new.cycle × HasEnded new
IsEvent old quantum NoMemory new = (new ≡ record old { cycle = new.cycle }) × (new.cycle ≤ old.cycle + quantum) × GoesOn old new new.cycle
