use Rattle.std.proofs.Common.{◌≡◌, ◌∙◌, Bool, true, false, [], ◌∷◌, length, map, Some, if◌then◌else◌, ap, sym, refl}
use Rattle.std.specs.Bool.{then_some}
use Rattle.toml.specs.View.{table_view}
use Rattle.scenario_file.specs.Faults.{nodes, links, inputs, link_of, node_of, two_equal, any_twice, late_tests, first_of}
use Rattle.scenario_file.specs.declared.fault.ScenarioFault.{ScenarioFault}
use Rattle.scenario_file.specs.declared.fault.ScenarioFault.TheVariants.{TwiceLinked, TwiceScripted}
use Rattle.scenario_file.proofs.faults.late_fault.Goals as goal

last_test : (b : Bool) (f : ScenarioFault) → then_some b f ≡ first_of ((b, f) ∷ [])
last_test true f = refl
last_test false f = refl

pub returns : goal.returns
unfolding late_tests
returns c =
    let ms = table_view c.args.table.now in
    let linked : two_equal (map link_of (links ms)) ≡ false = sym c.in_ok-any_twice_linked.ensures ∙ c.if-branch.false in
    let items : c.as_slice.result.now ≡ map node_of (inputs ms) = c.as_slice.ensures.value ∙ c.in_ok-nodes.ensures ∙ ap (map node_of) c.elements.ensures in
    let twice : c.any_twice-twice.result ≡ any_twice (length (nodes ms)) (map node_of (inputs ms)) = c.any_twice-twice.ensures ∙ (λ i. any_twice (c.node_count.ensures i) (items i)) in
    c.then_some.ensures ∙ last_test c.any_twice-twice.result TwiceScripted ∙ ap (λ b. first_of ((b, TwiceScripted) ∷ [])) twice
    ∙ sym (ap (λ b. if b then Some TwiceLinked else first_of ((any_twice (length (nodes ms)) (map node_of (inputs ms)), TwiceScripted) ∷ [])) linked)
