-- The scenario that a text says, and whether it says one.
use Rattle.std.specs.Prelude.{ℕ, zero, suc, ◌≡◌, ◌+◌, ◌-◌, ◌≤◌, ◌==◌, sum, length, List, [], ◌∷◌, ◌++◌, map, Option, Some, None, Result, Ok, Err, codes, if◌then◌else◌}
use Rattle.toml.specs.Data.{Data, Members}
use Rattle.hex.specs.Hex.{decode_of}
use Rattle.hex.specs.declared.error.FromHexError.{FromHexError}
use Rattle.world_core.specs.declared.spans.Span.{Span}
use Rattle.world_core.specs.Topology.{Topology, topology}
use Rattle.serial_ports.specs.declared.stretch.TheConstants.{MOST_ARRIVALS}
use Rattle.serial_ports.specs.Script.{ScriptBytes, StretchBytes}
use Rattle.scenario_file.specs.Document.{elements, members_of, number_at, text_at, pair_of, pair_or, pair_at}
use Rattle.scenario_file.specs.Faults.{nodes, links, inputs, link_of, node_of, document_of, document_fault}
use Rattle.scenario_file.specs.declared.defaults.TheConstants.{BYTE_TIME, EVERY, LATENCY}
use Rattle.scenario_file.specs.declared.fault.ScenarioFault.{ScenarioFault}
use Rattle.scenario_file.specs.declared.fault.ScenarioFault.TheVariants.{NotToml}
use Rattle.scenario_file.specs.declared.ranges.TheConstants.{WIDEST_WINDOW}

pub record ScenarioParts : Type 0 where
  pub topology : Topology
  -- the file name of each node's image
  pub images : List (List ℕ)
  -- the bytes that arrive at each node
  pub scripts : List ScriptBytes
  -- instructions and entries are traced from the first of these cycles on and below the second
  pub window : ℕ × ℕ

-- ---- a node
abbrev pub image_of : Data → List ℕ
image_of d = text_at (codes "image") (members_of d)

-- ---- a link: its own latency, else the scenario's, and the spans in which it is open
abbrev pub latency_of : ℕ → Data → ℕ
latency_of latency d = number_at (codes "latency") latency (members_of d)

abbrev pub span_of : ℕ → Data → Span
span_of place d = record { link = place; from = (pair_or (pair_of d)).0; until = (pair_or (pair_of d)).1 }

-- the spans of the link at this place
abbrev pub spans_at : ℕ → Data → List Span
spans_at place d = map (span_of place) (elements (codes "open") (members_of d))

-- the spans of these links, whose places count from this one
unfoldable pub spans_from : ℕ → List Data → List Span
spans_from place [] = []
spans_from place (d ∷ ds) = spans_at place d ++ spans_from (place + 1) ds

unfoldable pub topology_of : Members → Topology
topology_of ms =
    let latency = number_at (codes "latency") LATENCY ms in
    topology (length (nodes ms)) (number_at (codes "cycles") 0 ms) latency (number_at (codes "byte_time") BYTE_TIME ms) (map link_of (links ms)) (map (latency_of latency) (links ms)) (spans_from 0 (links ms))

-- ---- an input
abbrev pub bytes_or : Result (List ℕ) FromHexError → List ℕ
bytes_or (Ok bytes) = bytes
bytes_or (Err e) = []

-- the bytes that a text of hexadecimal digits writes, two digits a byte
abbrev pub bytes_in : List ℕ → List ℕ
bytes_in text = bytes_or (decode_of text)

abbrev stretch_in : Members → StretchBytes
stretch_in ms = record { at = number_at (codes "at") 0 ms; every = number_at (codes "every") EVERY ms; bytes = bytes_in (text_at (codes "hex") ms) }

abbrev pub script_in : Members → ScriptBytes
script_in ms = record { stretches = stretch_in ms ∷ [] }

abbrev pub script_of : Data → ScriptBytes
script_of d = script_in (members_of d)

-- the script of a node at which no byte arrives
abbrev pub no_script : ScriptBytes
no_script = record { stretches = [] }

-- the script of node k: that of its input, and without one no byte
unfoldable pub script_for : ℕ → List Data → ScriptBytes
script_for k [] = no_script
script_for k (d ∷ ds) = if node_of d == k then script_of d else script_for k ds

-- the scripts of the nodes below n
unfoldable pub scripts_below : ℕ → List Data → List ScriptBytes
scripts_below zero ds = []
scripts_below (suc n) ds = scripts_below n ds ++ script_for n ds ∷ []

-- ---- the whole
unfoldable pub parts_of : Members → ScenarioParts
parts_of ms = record {
  topology = topology_of ms;
  images = map image_of (nodes ms);
  scripts = scripts_below (length (nodes ms)) (inputs ms);
  window = pair_at (codes "window") ms;
}

-- the scenario of a document without a fault, or the fault
abbrev pub unless_fault : Option ScenarioFault → ScenarioParts → Result ScenarioParts ScenarioFault
unless_fault None parts = Ok parts
unless_fault (Some fault) parts = Err fault

abbrev pub of_document : Option Members → Result ScenarioParts ScenarioFault
of_document None = Err NotToml
of_document (Some ms) = unless_fault (document_fault ms) (parts_of ms)

-- the scenario in a file's bytes, or why they are refused
unfoldable pub scenario_in : List ℕ → Result ScenarioParts ScenarioFault
scenario_in bytes = of_document (document_of bytes)

-- ---- what holds of each scenario, beside what its topology and its scripts keep by themselves
abbrev stretch_size : StretchBytes → ℕ
stretch_size s = length s.bytes

abbrev pub script_size : ScriptBytes → ℕ
script_size s = sum (map stretch_size s.stretches)

pub record IsScenario (p : ScenarioParts) : Type 0 where
  pub images : length p.images ≡ p.topology.nodes
  pub scripts : length p.scripts ≡ p.topology.nodes
  pub few_bytes : sum (map script_size p.scripts) ≤ MOST_ARRIVALS
  pub window : p.window.0 ≤ p.window.1
  pub within : p.window.1 ≤ p.topology.limit
  pub narrow : p.window.1 - p.window.0 ≤ WIDEST_WINDOW
