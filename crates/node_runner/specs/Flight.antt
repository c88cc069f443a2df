-- Where a node stands in an epoch, and one step of it. Own to this simulator.
use Rattle.std.specs.Prelude.{◌≡◌, ℕ, ◌+◌, ◌-◌, ◌*◌, ◌≤◌, ◌<◌, ◌⊎◌, true, false, is_some, if◌then◌else◌, List, [], ◌∷◌, ◌++◌, slice_index_or}
use Rattle.air_base.specs.declared.air.Send.{Send}
use Rattle.world_core.specs.Sends.{IsSendNumber}
use Rattle.node_core.specs.Cycle.{node_kind}
use Rattle.world_core.specs.Order.{facts_of, node_at}
use Rattle.node_runner.specs.Scenario.{ScenarioOf, fleet_of}
use Rattle.node_runner.specs.Place.{Place, is_live, sends_passed}

abbrev pub place_at : List Place → ℕ → Place → Place
place_at ps k d = slice_index_or ps k d

-- a runner of node k that has come no further than the cycle `end`
pub record IsAt (sc : ScenarioOf) (end k : ℕ) (p : Place) : Type 0 where
  pub scenario : p.scenario ≡ sc
  pub number : p.number ≡ k
  pub noted : p.unnoted ≡ false
  pub within : p.cycle ≤ end
  pub early : p.asking ≡ true → p.cycle < end
  pub asks : p.asking ≡ true → node_kind.asks p.cycle (node_at (fleet_of sc) k p.cycle) ≡ true

-- its rows were last taken at the cycle `since`, or when it stopped before that
abbrev pub IsTaken : ScenarioOf → ℕ → ℕ → Place → Type 0
IsTaken sc since k p =
    ((p.since ≡ since) × (since ≤ p.cycle))
    ⊎ ((is_some (node_at (fleet_of sc) k p.cycle).stop ≡ true) × (p.since ≡ p.cycle) × (p.cycle ≤ since))

-- the number that falls with each step
abbrev pub rank : ℕ → Place → ℕ
rank end p = 3 * (end - p.cycle) + (if p.asking then 0 else 1) + (if is_live end p then 1 else 0)

-- a step of a node that posts nothing
pub record PostsNothing (old : Place) (before : List Send) (new : Place) (after : List Send) : Type 0 where
  pub sends : after ≡ before
  pub count : sends_passed new ≡ sends_passed old

-- a step that posts the next send of the node
pub record PostsOne (end : ℕ) (old : Place) (before : List Send) (new : Place) (after : List Send) : Type 0 where
  pub send : Send
  pub sends : after ≡ before ++ send ∷ []
  pub node : send.node ≡ old.number
  pub number : IsSendNumber (facts_of (fleet_of old.scenario)) (sends_passed old) send
  pub early : send.cycle < end
  pub count : sends_passed new ≡ sends_passed old + 1

-- one step of one runner, with the record before and after
pub record Advanced (end : ℕ) (old : Place) (before : List Send) (new : Place) (after : List Send) : Type 0 where
  pub at : IsAt old.scenario end old.number new
  pub since : new.since ≡ old.since
  pub later : old.cycle ≤ new.cycle
  pub posts : PostsNothing old before new after ⊎ PostsOne end old before new after
  pub less : rank end new < rank end old
