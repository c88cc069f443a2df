-- How the reading of a network ends, and what is left to do then.
use Rattle.std.proofs.Common.{◌≡◌, ℕ, ◌*◌, ◌<◌, ◌≤◌, nat_le, nat_lt, Bool, true, false, if◌then◌else◌, List, sym, subst, arith}
use Rattle.std.proofs.lemmas.Bool.Decides.{nat_tests}
use Rattle.ihex_loader.specs.Flash.{Image}
use Rattle.scenario_file.specs.Scenario.{ScenarioParts}
use Rattle.scenario_file.specs.declared.fault.ScenarioFault.TheVariants.{OutOfRange}
use Rattle.world_core.specs.Kept.{epoch}
use Rattle.node_runner.specs.Scenario.{ScenarioOf}
use Rattle.state_text.specs.declared.fault.StateFault.TheVariants.{PastEnd}
use Rattle.command_plans.specs.declared.trouble.ScenarioCause.TheVariants as scenario_cause
use Rattle.command_plans.specs.declared.trouble.StateCause.TheVariants as cause
use Rattle.command_plans.specs.Plan.{Plan, Give, Refuse, BadScenario, BadState, and_then, images_plan, scenario_plan}
use Rattle.command_plans.specs.Reading.{Files, Reached}
use Rattle.command_plans.specs.Ends.{End, Reads, Stream}
use Rattle.command_plans.specs.Parts.{StopsAt}
use Rattle.command_plans.proofs.Steps.{both, goes_on, stops_on, stops_moved, stops_behind, reached_moved, through}
use Rattle.commands.specs.Network.{network_of}
use Rattle.commands.specs.Plan.{cut_or, cut_plan, images_for, network_plan, span_or, span_plan, up_to_or, up_to_plan}
use Rattle.commands.specs.Parts.{HasGot, HasRead, IsShort, Ready, output}
use Rattle.commands.specs.declared.job.Job.{Job}

-- a plan for what a scenario says, and behind it its images
module _ (files files' : Files) (first : Plan ScenarioParts) where
  pub stops_at_scenario : (store store' : Reads) (end : End) → StopsAt files first store store' end → StopsAt files (and_then first images_for) store store' end
  stops_at_scenario store store' end stops = stops_behind files first images_for store store' end stops

  pub stops_at_image : (parts : ScenarioParts) (store mid store' : Reads) (end : End) → files' ≡ files → mid ≡ store
      → Reached files first (Give parts) → StopsAt files' (images_plan parts.images) mid store' end → StopsAt files (and_then first images_for) store store' end
  stops_at_image parts store mid store' end e f reached stops =
      stops_on files (and_then first images_for) (images_for parts) store store' end (goes_on files first parts images_for reached)
      (stops_behind files (images_plan parts.images) (λ images. Give (network_of parts images)) store store' end
      (stops_moved files files' (images_plan parts.images) store mid store' end e f stops))

  pub network_reached : (parts : ScenarioParts) (images : List Image) (network : ScenarioOf) → files' ≡ files
      → Reached files first (Give parts) → Reached files' (images_plan parts.images) (Give images)
      → network ≡ network_of parts images → Reached files (and_then first images_for) (Give network)
  network_reached parts images network e reached more same =
      let made : ScenarioOf = network_of parts images in
      subst (λ n. Reached files (and_then first images_for) (Give n)) (sym same)
      (both files (and_then first images_for) (images_for parts) (Give made) (goes_on files first parts images_for reached)
      (goes_on files (images_plan parts.images) images (λ it. Give (network_of parts it)) (reached_moved files files' (images_plan parts.images) (Give images) e more)))

-- ---- a network with another window

pub within : (a b : ℕ) → a ≤ b → nat_le a b ≡ true
within a b h = grind (arith, nat_tests)

pub not_within : (a b : ℕ) → b < a → nat_le a b ≡ false
not_within a b h = grind (arith, nat_tests)

module _ (files : Files) (name : List ℕ) (from to : ℕ) (parts : ScenarioParts) (reached : Reached files (scenario_plan name) (Give parts)) where
  abbrev Spanned : Bool → Plan ScenarioParts
  Spanned b = if b then Give (record parts { window = (from, to) }) else Refuse (BadScenario name (scenario_cause.Faulty OutOfRange))

  spanned : Reached files (and_then (scenario_plan name) (span_or name from to)) (span_or name from to parts)
  spanned = goes_on files (scenario_plan name) parts (span_or name from to) reached

  pub span_reached : to ≤ parts.topology.limit → Reached files (and_then (scenario_plan name) (span_or name from to)) (Give (record parts { window = (from, to) }))
  span_reached h = subst (λ (b : Bool). Reached files (and_then (scenario_plan name) (span_or name from to)) (Spanned b)) (within to parts.topology.limit h) spanned

  pub span_refused : parts.topology.limit < to → Reached files (span_plan name from to) (Refuse (BadScenario name (scenario_cause.Faulty OutOfRange)))
  unfolding and_then
  span_refused h =
      through files (and_then (scenario_plan name) (span_or name from to)) (Refuse (BadScenario name (scenario_cause.Faulty OutOfRange))) images_for
      (subst (λ (b : Bool). Reached files (and_then (scenario_plan name) (span_or name from to)) (Spanned b)) (not_within to parts.topology.limit h) spanned)

-- ---- a network that is watched

module _ (files : Files) (name : List ℕ) (to : ℕ) (parts : ScenarioParts) (reached : Reached files (scenario_plan name) (Give parts)) where
  abbrev Topped : Bool → Plan ScenarioParts
  Topped b = if b then Give parts else Refuse (BadScenario name (scenario_cause.Faulty OutOfRange))

  topped : Reached files (and_then (scenario_plan name) (up_to_or name to)) (up_to_or name to parts)
  topped = goes_on files (scenario_plan name) parts (up_to_or name to) reached

  pub up_to_reached : to ≤ parts.topology.limit → Reached files (and_then (scenario_plan name) (up_to_or name to)) (Give parts)
  up_to_reached h = subst (λ (b : Bool). Reached files (and_then (scenario_plan name) (up_to_or name to)) (Topped b)) (within to parts.topology.limit h) topped

  pub up_to_refused : parts.topology.limit < to → Reached files (up_to_plan name to) (Refuse (BadScenario name (scenario_cause.Faulty OutOfRange)))
  unfolding and_then
  up_to_refused h =
      through files (and_then (scenario_plan name) (up_to_or name to)) (Refuse (BadScenario name (scenario_cause.Faulty OutOfRange))) images_for
      (subst (λ (b : Bool). Reached files (and_then (scenario_plan name) (up_to_or name to)) (Topped b)) (not_within to parts.topology.limit h) topped)

-- ---- a network whose run is cut

pub below : (a b : ℕ) → a < b → nat_lt a b ≡ true
below a b h = grind (arith, nat_tests)

pub not_below : (a b : ℕ) → b ≤ a → nat_lt a b ≡ false
not_below a b h = grind (arith, nat_tests)

module _ (files : Files) (name : List ℕ) (epochs : ℕ) (network : ScenarioOf) (reached : Reached files (network_plan name) (Give network)) where
  cut : Reached files (cut_plan name epochs) (cut_or name (epochs * epoch) network)
  cut = goes_on files (network_plan name) network (cut_or name (epochs * epoch)) reached

  pub cut_reached : epochs * epoch < network.topo.limit → Reached files (cut_plan name epochs) (Give network)
  cut_reached h =
      subst (λ (b : Bool). Reached files (cut_plan name epochs) (if b then Give network else Refuse (BadState name (cause.Faulty PastEnd))))
      (below (epochs * epoch) network.topo.limit h) cut

  pub cut_refused : network.topo.limit ≤ epochs * epoch → Reached files (cut_plan name epochs) (Refuse (BadState name (cause.Faulty PastEnd)))
  cut_refused h =
      subst (λ (b : Bool). Reached files (cut_plan name epochs) (if b then Give network else Refuse (BadState name (cause.Faulty PastEnd))))
      (not_below (epochs * epoch) network.topo.limit h) cut

-- ---- what is left to do

-- what is to be done with something that was read
pub ready : {A : Type 0} (files : Files) (plan : Plan A) (next : A → List ℕ) (got : A) (store store' : Reads) (err err' : Stream) (todo : Job)
    → Reached files plan (Give got) → next got ≡ output todo → store' ≡ store → err' ≡ err → IsShort todo
    → Ready files (and_then plan (λ it. Give (next it))) store store' err err' todo
ready files plan next got store store' err err' todo reached is same silent short = record {
  reached = subst (λ (text : List ℕ). Reached files (and_then plan (λ it. Give (next it))) (Give text)) is (goes_on files plan got (λ it. Give (next it)) reached);
  same = same;
  silent = silent;
  short = short;
}

-- and with the network of a scenario
pub network_ready : (files : Files) (plan : Plan ScenarioOf) (next : ScenarioOf → List ℕ) (store store' : Reads) (err err' : Stream) (network : ScenarioOf) (todo : Job)
    → HasRead files plan store store' err err' network → next network ≡ output todo → IsShort todo
    → Ready files (and_then plan (λ it. Give (next it))) store store' err err' todo
network_ready files plan next store store' err err' network todo read is short =
    ready files plan next network store store' err err' todo read.reached is read.same read.silent short

-- a network that was read
pub got : {files : Files} {plan : Plan ScenarioOf} {store store' : Reads} {err err' : Stream} {network : ScenarioOf} → HasRead files plan store store' err err' network
    → HasGot files plan store store' err err' network
got read = record { reached = read.reached; same = read.same; silent = read.silent }
