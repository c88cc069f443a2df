use Rattle.std.proofs.Common.{◌≡◌, ℕ, false, [], subst, ◌∙◌, ap}
use Rattle.std.specs.Prelude.{IfOk}
use Rattle.air_base.specs.NodeRun.{Timed}
use Rattle.world_core.specs.Topology.{Topology}
use Rattle.node_core.specs.declared.row.Row.{Row}
use Rattle.node_core.specs.State.{NodeState, reset}
use Rattle.node_runner.specs.Scenario.{ScenarioOf, image_at, script_at}
use Rattle.node_runner.proofs.scenario.Scenario.reset.Goals as goal

pub returns : goal.returns
returns c =
    let sc : ScenarioOf = c.args.self.now in
    let num : ℕ = c.args.node in
    let program : c.in_ok-program.program ≡ image_at sc num = c.in_ok-program.ensures ∙ c.program.ensures in
    let script : c.in_ok-script.script ≡ script_at sc num = c.in_ok-script.ensures ∙ c.script.ensures in
    let window = c.window-window.ensures in
    let gap = c.byte_time.ensures.value ∙ ap (λ (t : Topology). t.byte_time) c.lawful_topo-topo.ensures.value in
    subst (λ (v : Timed NodeState Row). IfOk c.new.result (λ n. n ≡ v))
    (λ i. record { cycle = 0; asking = false; state = reset num (program i).bytes (script i) (window.from i) (window.to i) (gap i); rows = [] }) c.new.ensures
