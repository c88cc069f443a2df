-- A scenario's text as a contract sees it.
use Rattle.scenario_file.specs.declared.text.ScenarioText.{ScenarioText}
use Rattle.scenario_file.specs.Scenario.{ScenarioParts}

abbrev pub parts : ScenarioText → ScenarioParts
parts s = record { topology = s.topo; images = s.images.items; scripts = s.scripts.items; window = s.window }
