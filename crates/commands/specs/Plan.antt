-- What each command reads, in order, and what it is to write then.
use Rattle.std.specs.Prelude.{ℕ, ◌+◌, ◌*◌, nat_le, nat_lt, if◌then◌else◌, List, Option, Some, None, Result, Ok, Err}
use Rattle.command_words.specs.Words.{Asked, Node, Run, RunPlain, Monitor, Sniff, Check, Disasm, Asm, Make, Head, Save, Resume, HeadOn, SaveOn, MonitorSpan, Sweep, Look, LookOn, Watch, WatchOn, WatchSweep, asked_by}
use Rattle.world_core.specs.Kept.{epoch}
use Rattle.scenario_file.specs.Scenario.{ScenarioParts}
use Rattle.scenario_file.specs.declared.fault.ScenarioFault.TheVariants.{OutOfRange}
use Rattle.moves_text.specs.Moves.{MoveOf}
use Rattle.node_places.specs.declared.Place.{Place}
use Rattle.node_runner.specs.Scenario.{ScenarioOf}
use Rattle.checkpoint_text.specs.Onward.{onward}
use Rattle.checkpoint_text.specs.State.{counts_fit, state_in}
use Rattle.state_text.specs.Text.{StateOf}
use Rattle.state_text.specs.declared.fault.StateFault.{StateFault}
use Rattle.state_text.specs.declared.fault.StateFault.TheVariants.{PastEnd}
use Rattle.command_plans.specs.declared.trouble.ScenarioCause.TheVariants as scenario_cause
use Rattle.command_plans.specs.declared.trouble.StateCause.TheVariants as cause
use Rattle.command_plans.specs.Plan.{Plan, Give, Refuse, Read, BadWords, BadScenario, BadState, and_then, image_plan, images_plan, moves_plan, places_plan, scenario_plan, source_plan}
use Rattle.ihex_loader.specs.Hex.{hex_of}
use Rattle.run_reports.specs.Frames.{frames_text}
use Rattle.run_reports.specs.Profiles.{profiles_text}
use Rattle.commands.specs.Listing.{listing}
use Rattle.commands.specs.Network.{lone_node, network_of, size_line, trace_of}
use Rattle.commands.specs.Sample.{sample_line}
use Rattle.commands.specs.Texts.{head_on_text, head_text, look_on_text, look_text, resume_text, save_text, sweep_text, watch_on_text, watch_sweep_text, watch_text}
use Rattle.command_plans.specs.declared.files.TheConstants.{MOST_STATE_BYTES}

-- read the image of each node of a scenario, for the network
abbrev pub images_for : ScenarioParts → Plan ScenarioOf
images_for parts = and_then (images_plan parts.images) (λ images. Give (network_of parts images))

-- read a scenario and then the image of each of its nodes, for the network
abbrev pub network_plan : List ℕ → Plan ScenarioOf
network_plan name = and_then (scenario_plan name) images_for

-- these cycles in place of the scenario's window, where they end within its run
abbrev pub span_or : List ℕ → ℕ → ℕ → ScenarioParts → Plan ScenarioParts
span_or name from to parts =
    if nat_le to parts.topology.limit then Give (record parts { window = (from, to) }) else Refuse (BadScenario name (scenario_cause.Faulty OutOfRange))

-- read a scenario and then the image of each of its nodes, for the network with that window
abbrev pub span_plan : List ℕ → ℕ → ℕ → Plan ScenarioOf
span_plan name from to = and_then (and_then (scenario_plan name) (span_or name from to)) images_for

-- a run can be cut where an epoch ends below its limit
abbrev pub cut_or : List ℕ → ℕ → ScenarioOf → Plan ScenarioOf
cut_or name cycle network = if nat_lt cycle network.topo.limit then Give network else Refuse (BadState name (cause.Faulty PastEnd))

-- read a network whose run is to be cut after so many epochs
abbrev pub cut_plan : List ℕ → ℕ → Plan ScenarioOf
cut_plan name epochs = and_then (network_plan name) (cut_or name (epochs * epoch))

-- a run can be looked at as a cycle begins that it has, and behind its last one
abbrev pub look_or : List ℕ → ℕ → ScenarioOf → Plan ScenarioOf
look_or name cycle network = if nat_le cycle network.topo.limit then Give network else Refuse (BadState name (cause.Faulty PastEnd))

-- read a network whose run is to be looked at as this cycle begins
abbrev pub look_plan : List ℕ → ℕ → Plan ScenarioOf
look_plan name cycle = and_then (network_plan name) (look_or name cycle)

-- a state is accepted where nothing is wrong with its text
abbrev pub state_or : List ℕ → Result StateOf StateFault → Plan StateOf
state_or name (Ok state) = Give state
state_or name (Err fault) = Refuse (BadState name (cause.Faulty fault))

-- read a state of a network, of at most 4,194,304 bytes of text
abbrev pub state_plan : ScenarioOf → List ℕ → Plan StateOf
state_plan network name = Read name MOST_STATE_BYTES (BadState name cause.TooLong) (λ bytes. state_or name (state_in network bytes))

-- a run from a state on can be cut where an epoch ends below the limit, too
abbrev pub cut_on_or : List ℕ → ℕ → ScenarioOf → StateOf → Plan (ScenarioOf × StateOf)
cut_on_or name epochs network state =
    if nat_lt (state.cycle + epochs * epoch) network.topo.limit then Give (network, state)
    else Refuse (BadState name (cause.Faulty PastEnd))

-- read a network, and then a state of it, from which its run is to be cut after so many epochs
abbrev pub cut_on_plan : List ℕ → ℕ → List ℕ → Plan (ScenarioOf × StateOf)
cut_on_plan file epochs name = and_then (network_plan file) (λ network. and_then (state_plan network name) (cut_on_or name epochs network))

-- a run from a state on can be looked at as the state's cycle begins, or a later one
abbrev pub look_from_or : List ℕ → ℕ → ScenarioOf → StateOf → Plan (ScenarioOf × StateOf)
look_from_or name cycle network state =
    if nat_lt cycle state.cycle then Refuse (BadState name cause.PastCycle)
    else if nat_le cycle network.topo.limit then Give (network, state)
    else Refuse (BadState name (cause.Faulty PastEnd))

-- read a network, and then a state of it, from which its run is to go on up to this cycle
abbrev pub look_from_plan : List ℕ → ℕ → List ℕ → Plan (ScenarioOf × StateOf)
look_from_plan file cycle name = and_then (network_plan file) (λ network. and_then (state_plan network name) (look_from_or name cycle network))

-- the state to which a run comes from that of this file is written where no node has executed more instructions than a
-- state can say
abbrev pub come_or : List ℕ → ScenarioOf → StateOf → ℕ → Plan (List ℕ)
come_or name network state cycle =
    if counts_fit (onward network state) cycle then Give (look_on_text network state cycle) else Refuse (BadState name cause.TooMany)

-- `save` and `look` from a state on
abbrev pub save_on_plan : List ℕ → ℕ → List ℕ → Plan (List ℕ)
save_on_plan file epochs name = and_then (cut_on_plan file epochs name) (λ at. come_or name at.0 at.1 (at.1.cycle + epochs * epoch))

abbrev pub look_on_plan : List ℕ → ℕ → List ℕ → Plan (List ℕ)
look_on_plan file cycle name = and_then (look_from_plan file cycle name) (λ at. come_or name at.0 at.1 cycle)

-- read a network, and then a state of it
abbrev pub begun_plan : List ℕ → List ℕ → Plan (ScenarioOf × StateOf)
begun_plan file name = and_then (network_plan file) (λ network. and_then (state_plan network name) (λ state. Give (network, state)))

-- read a network, then a state of it, and then the moves of the runs that go on from that
abbrev pub sweep_plan : List ℕ → List ℕ → List ℕ → Plan ((ScenarioOf × StateOf) × List MoveOf)
sweep_plan file state name =
    and_then (begun_plan file state) (λ begun. and_then (moves_plan begun.0.topo.nodes name) (λ moves. Give (begun, moves)))

-- a run can be watched up to a cycle that it has, and to its end
abbrev pub up_to_or : List ℕ → ℕ → ScenarioParts → Plan ScenarioParts
up_to_or name to parts = if nat_le to parts.topology.limit then Give parts else Refuse (BadScenario name (scenario_cause.Faulty OutOfRange))

-- read a scenario whose run is to be watched up to this cycle, then the image of each of its nodes, and then places of
-- the network
abbrev pub up_to_plan : List ℕ → ℕ → Plan ScenarioOf
up_to_plan name to = and_then (and_then (scenario_plan name) (up_to_or name to)) images_for

abbrev pub watch_plan : List ℕ → ℕ → List ℕ → Plan (ScenarioOf × List Place)
watch_plan file to name =
    and_then (up_to_plan file to) (λ network. and_then (places_plan network.topo.nodes name) (λ places. Give (network, places)))

-- and then a state of the network
abbrev pub watch_begun_plan : List ℕ → ℕ → List ℕ → List ℕ → Plan ((ScenarioOf × List Place) × StateOf)
watch_begun_plan file to places name = and_then (watch_plan file to places) (λ it. and_then (state_plan it.0 name) (λ state. Give (it, state)))

-- from a state on a run can be watched as the state's cycle begins, and later
abbrev pub watch_from_or : List ℕ → ℕ → (ScenarioOf × List Place) × StateOf → Plan ((ScenarioOf × List Place) × StateOf)
watch_from_or name from it = if nat_lt from it.1.cycle then Refuse (BadState name cause.PastCycle) else Give it

-- and the run is to be watched from this cycle on
abbrev pub watch_on_plan : List ℕ → ℕ → ℕ → List ℕ → List ℕ → Plan ((ScenarioOf × List Place) × StateOf)
watch_on_plan file from to places name = and_then (watch_begun_plan file to places name) (watch_from_or name from)

-- and then the moves of the runs that go on from the state
abbrev pub watch_sweep_plan : List ℕ → ℕ → ℕ → List ℕ → List ℕ → List ℕ → Plan (((ScenarioOf × List Place) × StateOf) × List MoveOf)
watch_sweep_plan file from to places state name =
    and_then (watch_on_plan file from to places state) (λ it. and_then (moves_plan it.0.0.topo.nodes name) (λ moves. Give (it, moves)))

-- what each command reads, and what it writes then
unfoldable pub plan_of : Asked → Plan (List ℕ)
plan_of (Node file cycles) = and_then (image_plan file) (λ flash. Give (trace_of (lone_node flash cycles)))
plan_of (Run file) = and_then (network_plan file) (λ network. Give (trace_of network))
plan_of (RunPlain file) = and_then (network_plan file) (λ network. Give (trace_of network))
plan_of (Monitor file) = and_then (network_plan file) (λ network. Give (profiles_text network))
plan_of (Sniff file) = and_then (network_plan file) (λ network. Give (frames_text network))
plan_of (Check file) = and_then (network_plan file) (λ network. Give (size_line network))
plan_of (Disasm file) = and_then (image_plan file) (λ flash. Give (listing flash))
plan_of (Asm file) = and_then (source_plan file) (λ words. Give (hex_of words))
plan_of (Make number) = Give (sample_line number)
plan_of (Head file epochs) = and_then (cut_plan file epochs) (λ network. Give (head_text network epochs))
plan_of (Save file epochs) = and_then (cut_plan file epochs) (λ network. Give (save_text network epochs))
plan_of (Resume file state) = and_then (network_plan file) (λ network. and_then (state_plan network state) (λ saved. Give (resume_text network saved)))
plan_of (HeadOn file epochs state) = and_then (cut_on_plan file epochs state) (λ at. Give (head_on_text at.0 at.1 epochs))
plan_of (SaveOn file epochs state) = save_on_plan file epochs state
plan_of (Sweep file state moves) = and_then (sweep_plan file state moves) (λ it. Give (sweep_text it.0.0 it.0.1 it.1))
plan_of (Look file cycle) = and_then (look_plan file cycle) (λ network. Give (look_text network cycle))
plan_of (LookOn file cycle state) = look_on_plan file cycle state
plan_of (Watch file from to places) = and_then (watch_plan file to places) (λ it. Give (watch_text it.0 it.1 from to))
plan_of (WatchOn file from to places state) =
    and_then (watch_on_plan file from to places state) (λ it. Give (watch_on_text it.0.0 it.1 it.0.1 from to))
plan_of (WatchSweep file from to places state moves) =
    and_then (watch_sweep_plan file from to places state moves) (λ it. Give (watch_sweep_text it.0.0.0 it.0.1 it.1 it.0.0.1 from to))
plan_of (MonitorSpan file from to) = and_then (span_plan file from to) (λ network. Give (profiles_text network))

-- the plan of what the words ask for
abbrev pub plan_for : Option Asked → Plan (List ℕ)
plan_for None = Refuse BadWords
plan_for (Some asked) = plan_of asked

abbrev pub plan : List (List ℕ) → Plan (List ℕ)
plan words = plan_for (asked_by words)
