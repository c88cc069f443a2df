use Rattle.std.proofs.Common.{map, ◌≡◌, ℕ, ◌∷◌, ◌++◌, [], List, sym, ap, ◌∙◌, rules, arith}
use Rattle.std.specs.List.{range_with_len}
use Rattle.std.proofs.lemmas.List.FromFn.{map-range_with_len_more}
use Rattle.serial_ports.specs.Script.{ScriptBytes}
use Rattle.scenario_file.specs.Scenario.{no_script}
use Rattle.sample_maker.proofs.sample.no_scripts.Goals as goal

pub loop-node-preserved : goal.loop-node-preserved
loop-node-preserved c =
    let script = λ (k : ℕ). no_script in
    let k = c.loop-node._node in
    let pushed : c.push.new.self.items ≡ c.loop-node.scripts.items ++ no_script ∷ [] = search rules in
    pushed ∙ (ap (λ (l : List ScriptBytes). l ++ no_script ∷ []) c.loop-node.invariant ∙ sym (map-range_with_len_more script 0 k k (omega arith)))

pub loop-node-init : goal.loop-node-init
loop-node-init c = c.new-scripts.ensures.items

pub returns : goal.returns
returns c =
    let script = λ (k : ℕ). no_script in
    let n : c.loop-node._node ≡ c.args.nodes = omega arith in
    c.loop-node.invariant ∙ ap (λ k. map script (range_with_len 0 k)) n
