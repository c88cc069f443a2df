-- States that are written of a run at any of its cycles, and of one from a state on.
use Rattle.std.proofs.Common.{◌≡◌, ℕ, ◌<◌, ◌≤◌, nat_le, Bool, true, false, if◌then◌else◌, List, sym, subst, ap}
use Rattle.checkpoint_text.specs.Onward.{SavedAt, onward}
use Rattle.checkpoint_text.specs.State.{counts_fit}
use Rattle.node_runner.specs.Scenario.{ScenarioOf}
use Rattle.state_text.specs.Text.{StateOf}
use Rattle.state_text.specs.declared.fault.StateFault.TheVariants.{PastEnd}
use Rattle.command_plans.specs.Plan.{Plan, Give, Refuse, BadState, and_then}
use Rattle.command_plans.specs.Reading.{Files, Reached, Here}
use Rattle.command_plans.specs.Ends.{End, Reads, Stream}
use Rattle.command_plans.specs.Parts.{Stopped, StopsAt, Told}
use Rattle.command_plans.specs.declared.status.Status.{Status}
use Rattle.command_plans.specs.declared.trouble.StateCause.TheVariants as cause
use Rattle.command_plans.proofs.Steps.{both, goes_on, stops_on}
use Rattle.commands.specs.Plan.{come_or, look_from_or, look_or, look_plan, network_plan}
use Rattle.commands.specs.Parts.{HasCome, HasGot}
use Rattle.commands.specs.Texts.{look_on_text}
use Rattle.commands.proofs.Networks.{below, not_below, not_within, within}

-- ---- from reset

module _ (files : Files) (name : List ℕ) (cycle : ℕ) (network : ScenarioOf) (reached : Reached files (network_plan name) (Give network)) where
  look : Reached files (look_plan name cycle) (look_or name cycle network)
  look = goes_on files (network_plan name) network (look_or name cycle) reached

  pub look_reached : cycle ≤ network.topo.limit → Reached files (look_plan name cycle) (Give network)
  look_reached h =
      subst (λ (b : Bool). Reached files (look_plan name cycle) (if b then Give network else Refuse (BadState name (cause.Faulty PastEnd))))
      (within cycle network.topo.limit h) look

  pub look_refused : network.topo.limit < cycle → Reached files (look_plan name cycle) (Refuse (BadState name (cause.Faulty PastEnd)))
  look_refused h =
      subst (λ (b : Bool). Reached files (look_plan name cycle) (if b then Give network else Refuse (BadState name (cause.Faulty PastEnd))))
      (not_within cycle network.topo.limit h) look

-- ---- from a state

-- which cycles can be looked at
module _ (name : List ℕ) (cycle : ℕ) (network : ScenarioOf) (state : StateOf) where
  abbrev Chosen : Bool → Bool → Plan (ScenarioOf × StateOf)
  Chosen early inside = if early then Refuse (BadState name cause.PastCycle) else if inside then Give (network, state) else Refuse (BadState name (cause.Faulty PastEnd))

  pub look_gives : state.cycle ≤ cycle → cycle ≤ network.topo.limit → look_from_or name cycle network state ≡ Give (network, state)
  look_gives from to = λ i. Chosen (not_below cycle state.cycle from i) (within cycle network.topo.limit to i)

  pub look_too_early : cycle < state.cycle → look_from_or name cycle network state ≡ Refuse (BadState name cause.PastCycle)
  look_too_early h = λ i. Chosen (below cycle state.cycle h i) (nat_le cycle network.topo.limit)

  pub look_past_end : state.cycle ≤ cycle → network.topo.limit < cycle → look_from_or name cycle network state ≡ Refuse (BadState name (cause.Faulty PastEnd))
  look_past_end from over = λ i. Chosen (not_below cycle state.cycle from i) (not_within cycle network.topo.limit over i)

-- whether the state there is written
module _ (files : Files) (name : List ℕ) (network : ScenarioOf) (state : StateOf) (cycle : ℕ) where
  abbrev Come : Bool → Plan (List ℕ)
  Come b = if b then Give (look_on_text network state cycle) else Refuse (BadState name cause.TooMany)

  pub come_gives : counts_fit (onward network state) cycle ≡ true → Reached files (come_or name network state cycle) (Give (look_on_text network state cycle))
  come_gives e = subst (λ (p : Plan (List ℕ)). Reached files (come_or name network state cycle) p) (ap Come e) (Here (come_or name network state cycle))

  pub come_refuses : counts_fit (onward network state) cycle ≡ false → Reached files (come_or name network state cycle) (Refuse (BadState name cause.TooMany))
  come_refuses e = subst (λ (p : Plan (List ℕ)). Reached files (come_or name network state cycle) p) (ap Come e) (Here (come_or name network state cycle))

-- the text of the state is that of the run that came there
pub come_is : (network : ScenarioOf) (state : StateOf) (end : ℕ) (come : SavedAt) → come ≡ record { scenario = network; state = state; floor = end; failed = false }
    → look_on_text network state end ≡ look_on_text network come.state come.floor
come_is network state end come e = ap (λ (a : SavedAt). look_on_text network a.state a.floor) (sym e)

-- and it is a run of this network
pub has_come : (network : ScenarioOf) (state : StateOf) (end : ℕ) (come : SavedAt) → come ≡ record { scenario = network; state = state; floor = end; failed = false } → HasCome network come
has_come network state end come e = record { same = ap (λ (a : SavedAt). a.scenario) (sym e); sound = ap (λ (a : SavedAt). a.failed) e }

-- what was read, and then what comes of it with no file more
module _ {A B : Type 0} (files : Files) (first : Plan A) (next : A → Plan B) (a : A) (store store' : Reads) (err err' : Stream) (got : HasGot files first store store' err err' a) where
  abbrev Whole : Plan B
  Whole = and_then first next

  to_next : Reached files Whole (next a)
  to_next = goes_on files first a next got.reached

  pub then_got : (b c : B) → b ≡ c → Reached files (next a) (Give b) → HasGot files Whole store store' err err' c
  then_got b c e reached = record {
    reached = subst (λ (it : B). Reached files Whole (Give it)) e (both files Whole (next a) (Give b) to_next reached);
    same = got.same;
    silent = got.silent;
  }

  pub then_stopped : (end : End) (said : Stream) (answer : Status) → StopsAt files (next a) store' store' end → Told end err' said answer → Stopped files Whole store store' err said answer
  then_stopped end said answer stops told = record {
    end = end;
    stops = stops_on files Whole (next a) store store' end to_next (subst (λ (s : Reads). StopsAt files (next a) s store' end) got.same stops);
    told = subst (λ e. Told end e said answer) got.silent told;
  }
