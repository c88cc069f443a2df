-- The networks that commands run.
use Rattle.std.specs.Prelude.{ℕ, min, List, [], ◌∷◌, ◌++◌, length, codes, decimal}
use Rattle.world_core.specs.Topology.{topology}
use Rattle.ihex_loader.specs.Flash.{Image}
use Rattle.scenario_file.specs.Scenario.{ScenarioParts, no_script}
use Rattle.node_runner.specs.Scenario.{ScenarioOf, fleet_of}
use Rattle.world_core.specs.Order.{run_rows}
use Rattle.trace_writer.specs.Line.{rows_text}
use Rattle.scenario_file.specs.declared.defaults.TheConstants.{BYTE_TIME, LATENCY}
use Rattle.scenario_file.specs.declared.ranges.TheConstants.{WIDEST_WINDOW}

-- the network of a scenario's text, with the image of each node
abbrev pub network_of : ScenarioParts → List Image → ScenarioOf
network_of parts images = record { topo = parts.topology; images = images; scripts = parts.scripts; from = parts.window.0; to = parts.window.1 }

-- one node that hears nobody and at which nothing arrives. Its instructions are traced in the first 20,000 cycles;
-- latency and byte time are what a scenario's text has where it names none
abbrev pub lone_node : Image → ℕ → ScenarioOf
lone_node image cycles =
    record { topo = topology 1 cycles LATENCY BYTE_TIME [] [] []; images = image ∷ []; scripts = no_script ∷ []; from = 0; to = min cycles WIDEST_WINDOW }

-- the trace of a network: the rows of the single global order of cycles, a line each
abbrev pub trace_of : ScenarioOf → List ℕ
trace_of network = rows_text (run_rows (fleet_of network))

-- how large a network is
abbrev pub size_line : ScenarioOf → List ℕ
size_line network =
    codes "ok " ++ decimal network.topo.nodes ++ codes " nodes, " ++ decimal (length network.topo.links) ++ codes " links, "
    ++ decimal network.topo.limit ++ codes " cycles\n"
