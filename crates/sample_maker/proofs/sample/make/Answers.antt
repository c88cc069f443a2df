use Rattle.std.proofs.Common.{◌≡◌, ℕ, List, length, ap, ◌∙◌, arith}
use Rattle.std.proofs.lemmas.List.FromFn.{length-map-range_with_len}
use Rattle.world_core.specs.Topology.{Topology}
use Rattle.ihex_loader.specs.Flash.{Image}
use Rattle.serial_ports.specs.Script.{ScriptBytes}
use Rattle.scenario_file.specs.Scenario.{no_script}
use Rattle.sample_maker.specs.Sample.{image_of_node}
use Rattle.sample_maker.proofs.sample.make.Goals as goal

-- an image and a script for each node
pub new-scenario-requires-clause-images : goal.new-scenario-requires-clause-images
new-scenario-requires-clause-images c =
    let counted : length c.in_ok-images.field-0.items ≡ c.args.nodes =
    ap (λ (l : List Image). length l) c.in_ok-images.ensures ∙ length-map-range_with_len (image_of_node c.args.number) 0 c.args.nodes in
    let nodes : c.in_ok-ring_topology.field-0.nodes ≡ c.args.nodes = ap (λ (t : Topology). t.nodes) c.in_ok-ring_topology.ensures in
    omega arith

pub new-scenario-requires-clause-scripts : goal.new-scenario-requires-clause-scripts
new-scenario-requires-clause-scripts c =
    let counted : length c.in_ok-no_scripts.field-0.items ≡ c.args.nodes =
    ap (λ (l : List ScriptBytes). length l) c.in_ok-no_scripts.ensures ∙ length-map-range_with_len (λ (k : ℕ). no_script) 0 c.args.nodes in
    let nodes : c.in_ok-ring_topology.field-0.nodes ≡ c.args.nodes = ap (λ (t : Topology). t.nodes) c.in_ok-ring_topology.ensures in
    omega arith
