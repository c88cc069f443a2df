-- The scenarios that accepted texts give: a scenario's own, and that of each node's image. Own to this simulator.
use Rattle.std.specs.Prelude.{◌≡◌, ℕ, List, length, map, None, Ok}
use Rattle.std.specs.List.{All}
use Rattle.ihex_loader.specs.Image.{hex_fault, image}
use Rattle.scenario_file.specs.Scenario.{ScenarioParts, scenario_in}
use Rattle.node_runner.specs.Scenario.{ScenarioOf}

pub record IsAccepted (s : ScenarioOf) : Type 0 where
  -- the text of the scenario, and what it says
  pub text : List ℕ
  pub parts : ScenarioParts
  pub says : scenario_in text ≡ Ok parts
  -- the text of the image of each node, with nothing wrong in it
  pub files : List (List ℕ)
  pub count : length files ≡ length parts.images
  pub faultless : All (λ file. hex_fault file ≡ None) files
  pub is : s ≡ record { topo = parts.topology; images = map image files; scripts = parts.scripts; from = parts.window.0; to = parts.window.1 }
