-- A network and a state of it that are read, from which the run is to go on up to some cycle.
use Rattle.std.proofs.Common.{◌≡◌, ℕ, ◌+◌, ◌*◌, ◌<◌, ◌≤◌, Bool, if◌then◌else◌, List, ◌∙◌, subst}
use Rattle.world_core.specs.Kept.{epoch}
use Rattle.node_runner.specs.Scenario.{ScenarioOf}
use Rattle.state_text.specs.Text.{StateOf}
use Rattle.state_text.specs.declared.fault.StateFault.TheVariants.{PastEnd}
use Rattle.command_plans.specs.Plan.{Plan, Refusal, Give, Refuse, BadState, and_then}
use Rattle.command_plans.specs.Reading.{Files, Reached}
use Rattle.command_plans.specs.Ends.{End, Reads, Refused, Stream}
use Rattle.command_plans.specs.Parts.{Stopped, StopsAt, Told}
use Rattle.command_plans.specs.declared.status.Status.{Status}
use Rattle.command_plans.specs.declared.trouble.StateCause.TheVariants as cause
use Rattle.command_plans.proofs.Steps.{both, goes_on, reached_moved, stops_behind, stops_moved, stops_on}
use Rattle.commands.specs.Plan.{cut_on_or, network_plan, state_plan}
use Rattle.commands.specs.Parts.{HasGot, HasRead}
use Rattle.commands.proofs.Networks.{below, not_below}

-- `choose` says whether a run from the state goes so far
module _ (files files' : Files) (file name : List ℕ) (choose : ScenarioOf → StateOf → Plan (ScenarioOf × StateOf)) (network : ScenarioOf) (store mid store' : Reads) (err err' : Stream)
    (read : HasRead files (network_plan file) store mid err err' network) (held : files' ≡ files) where
  abbrev Next : ScenarioOf → Plan (ScenarioOf × StateOf)
  Next network = and_then (state_plan network name) (choose network)

  abbrev Whole : Plan (ScenarioOf × StateOf)
  Whole = and_then (network_plan file) Next

  to_state : Reached files Whole (Next network)
  to_state = goes_on files (network_plan file) network Next read.reached

  to_choice : (state : StateOf) → Reached files' (state_plan network name) (Give state) → Reached files Whole (choose network state)
  to_choice state reached =
      both files Whole (Next network) (choose network state) to_state
      (goes_on files (state_plan network name) state (choose network) (reached_moved files files' (state_plan network name) (Give state) held reached))

  -- it does
  pub chosen : (state : StateOf) → (store' ≡ mid) × Reached files' (state_plan network name) (Give state) → choose network state ≡ Give (network, state)
      → HasGot files Whole store store' err err' (network, state)
  chosen state was is = record {
    reached = subst (λ (p : Plan (ScenarioOf × StateOf)). Reached files Whole p) is (to_choice state was.1);
    same = was.0 ∙ read.same;
    silent = read.silent;
  }

  -- or it does not
  pub not_chosen : (state : StateOf) (refusal : Refusal) (said : Stream) (answer : Status) → (store' ≡ mid) × Reached files' (state_plan network name) (Give state)
      → choose network state ≡ Refuse refusal → Told (Refused refusal) err' said answer → Stopped files Whole store store' err said answer
  not_chosen state refusal said answer was is told = record {
    end = Refused refusal;
    stops = (was.0 ∙ read.same, subst (λ (p : Plan (ScenarioOf × StateOf)). Reached files Whole p) is (to_choice state was.1));
    told = subst (λ e. Told (Refused refusal) e said answer) read.silent told;
  }

  -- or the reading of the state stopped
  pub state_stopped : (end : End) (said : Stream) (answer : Status) → StopsAt files' (state_plan network name) mid store' end → Told end err' said answer
      → Stopped files Whole store store' err said answer
  state_stopped end said answer stops told = record {
    end = end;
    stops = stops_on files Whole (Next network) store store' end to_state
        (stops_behind files (state_plan network name) (choose network) store store' end
        (stops_moved files files' (state_plan network name) store mid store' end held read.same stops));
    told = subst (λ e. Told end e said answer) read.silent told;
  }

-- the end of so many epochs lies below the limit, or does not
module _ (name : List ℕ) (epochs : ℕ) (network : ScenarioOf) (state : StateOf) where
  abbrev Cut : Bool → Plan (ScenarioOf × StateOf)
  Cut b = if b then Give (network, state) else Refuse (BadState name (cause.Faulty PastEnd))

  pub cut_gives : state.cycle + epochs * epoch < network.topo.limit → cut_on_or name epochs network state ≡ Give (network, state)
  cut_gives h = λ i. Cut (below (state.cycle + epochs * epoch) network.topo.limit h i)

  pub cut_past_end : network.topo.limit ≤ state.cycle + epochs * epoch → cut_on_or name epochs network state ≡ Refuse (BadState name (cause.Faulty PastEnd))
  cut_past_end h = λ i. Cut (not_below (state.cycle + epochs * epoch) network.topo.limit h i)
