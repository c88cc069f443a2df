use Rattle.std.proofs.Common.{◌≡◌, ◌==◌, ℕ, true, false, arith, ap, subst, ◌∙◌, sym, get_or, map, IfOk}
use Rattle.std.proofs.lemmas.Bool.Decides.{nat_tests}
use Rattle.toml.specs.View.{view}
use Rattle.scenario_file.specs.Document.{on_table}
use Rattle.scenario_file.specs.Rules.{has_ranges}
use Rattle.scenario_file.specs.Faults.{all_in_range, amount_of, node_of}
use Rattle.scenario_file.specs.Scenario.{script_of, script_for, no_script}
use Rattle.serial_ports.specs.Script.{ScriptBytes}
use Rattle.std.proofs.lemmas.List.{drop_all}
use Rattle.scenario_file.specs.declared.keys.Keys.TheVariants.{OfInput}
use Rattle.scenario_file.proofs.Lists.{all_at}
use Rattle.scenario_file.proofs.Scripts.{sum_at, for_more, for_here, few_sum}
use Rattle.scenario_file.proofs.inputs.script_for.Goals as goal

pub script_of-requires-clause-fits : goal.script_of-requires-clause-fits
unfolding all_in_range
script_of-requires-clause-fits c = ap (λ v. on_table (has_ranges c.args.version c.args.count OfInput) (view v)) c.value-item.is ∙ all_at (on_table (has_ranges c.args.version c.args.count OfInput)) view c.args.values.now c.loop-value.value-index _ (omega arith) c.requires.fits

pub script_of-requires-clause-few : goal.script_of-requires-clause-few
script_of-requires-clause-few c =
    let one = sum_at (amount_of OfInput) view c.args.values.now c.loop-value.value-index c.value-item.result (omega arith) in
    let all = few_sum (map view c.args.values.now) c.requires.few in
    let same : amount_of OfInput (view c.value-item.result) ≡ amount_of OfInput (view (get_or c.args.values.now c.loop-value.value-index c.value-item.result)) = ap (λ v. amount_of OfInput (view v)) c.value-item.is in
    omega (arith, one, all, same)

other_node : (m n k : ℕ) → m ≡ n → (m ≡ k → ⊥) → (n == k) ≡ false
other_node m n k e d = grind (arith, nat_tests)

this_node : (m n k : ℕ) → m ≡ n → m ≡ k → (n == k) ≡ true
this_node m n k e d = grind (arith, nat_tests)

pub loop-value-preserved : goal.loop-value-preserved
loop-value-preserved c =
    let item = get_or c.args.values.now c.loop-value.value-index c.value-item.result in
    let is : c.number_in.result ≡ node_of (view item) = c.number_in.ensures ∙ ap (λ v. node_of (view v)) c.value-item.is in
    let other : (node_of (view item) == c.args.node) ≡ false = other_node c.number_in.result (node_of (view item)) c.args.node is c.if-number_in-node.false in
    c.loop-value.invariant ∙ for_more view c.args.values.now c.loop-value.value-index c.value-item.result c.args.node c.loop-value-test.true other

pub returns-then-number_in-node : goal.returns-then-number_in-node
returns-then-number_in-node c =
    let item = get_or c.args.values.now c.loop-value.value-index c.value-item.result in
    let is : c.number_in.result ≡ node_of (view item) = c.number_in.ensures ∙ ap (λ v. node_of (view v)) c.value-item.is in
    let here : (node_of (view item) == c.args.node) ≡ true = this_node c.number_in.result (node_of (view item)) c.args.node is c.if-number_in-node.true in
    let found : script_for c.args.node (map view c.args.values.now) ≡ script_of (view c.value-item.result) =
    c.loop-value.invariant ∙ for_here view c.args.values.now c.loop-value.value-index c.value-item.result c.args.node c.loop-value-test.true here ∙ ap (λ v. script_of (view v)) (sym c.value-item.is) in
    subst (λ (s : ScriptBytes). IfOk c.script_of.result (λ script. script ≡ s)) (sym found) c.script_of.ensures

pub returns : goal.returns
unfolding script_for
returns c =
    let none : script_for c.args.node (map view c.args.values.now) ≡ no_script = c.loop-value.invariant ∙ ap (λ t. script_for c.args.node (map view t)) (drop_all c.loop-value.value-index c.args.values.now c.loop-value-test.false) in
    c.no_script.ensures ∙ sym none
