use Rattle.std.proofs.Common.{◌≡◌, map, sym, ap, subst, ◌∙◌}
use Rattle.toml.specs.View.{table_view}
use Rattle.scenario_file.specs.Faults.{nodes}
use Rattle.scenario_file.specs.Scenario.{ScenarioParts, image_of, scripts_below, parts_of, IsScenario}
use Rattle.scenario_file.proofs.Clean.{clean}
use Rattle.scenario_file.proofs.Law.{scenario_law}
use Rattle.scenario_file.proofs.text.scenario.Goals as goal

pub scripts_of-requires-clause-fits : goal.scripts_of-requires-clause-fits
scripts_of-requires-clause-fits c = rw (c.elements-inputs.ensures, c.node_count.ensures, c.version_of.ensures) (clean (table_view c.args.table.now) c.requires).before.inputs_in

pub scripts_of-requires-clause-few : goal.scripts_of-requires-clause-few
scripts_of-requires-clause-few c = rw (c.elements-inputs.ensures) (clean (table_view c.args.table.now) c.requires).before.few_bytes

pub returns-clause-lawful : goal.returns-clause-lawful
unfolding parts_of
returns-clause-lawful c =
    let ms = table_view c.args.table.now in
    let images_are : c.in_ok-images.images.items ≡ map image_of (nodes ms) = c.in_ok-images.ensures ∙ ap (map image_of) c.elements.ensures in
    let scripts_are = c.in_ok-scripts.ensures ∙ (λ i. scripts_below (c.node_count.ensures i) (c.elements-inputs.ensures i)) in
    let made : ScenarioParts = record { topology = c.in_ok-topo.topo; images = c.in_ok-images.images.items; scripts = c.in_ok-scripts.scripts.items; window = c.pair_at.result } in
    let shape : made ≡ parts_of ms = λ i. record { topology = c.in_ok-topo.ensures i; images = images_are i; scripts = scripts_are i; window = c.pair_at.ensures i } in
    subst IsScenario (sym shape) (scenario_law ms (clean ms c.requires))
