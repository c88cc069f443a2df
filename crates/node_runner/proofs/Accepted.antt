-- What accepted texts give is a scenario, whose program memories have bytes.
use Rattle.std.proofs.Common.{◌≡◌, ℕ, ◌<◌, List, [], length, map, get_or, sym, ◌∙◌, subst, arith}
use Rattle.std.specs.Prelude.{slice_index}
use Rattle.std.specs.List.{All}
use Rattle.std.proofs.lemmas.List.{get_or-map, length-map}
use Rattle.ihex_loader.specs.Flash.{Image}
use Rattle.ihex_loader.specs.Image.{image}
use Rattle.ihex_loader.proofs.Bytes.{image_bytes}
use Rattle.scenario_file.proofs.Said.{scenario_said, topology_said}
use Rattle.node_runner.specs.Accepted.{IsAccepted}
use Rattle.node_runner.specs.Scenario.{IsScenario, ScenarioOf}

pub is_scenario : (s : ScenarioOf) → IsAccepted s → IsScenario s
is_scenario s a =
    let t = scenario_said a.text a.parts a.says in
    let made : IsScenario (record { topo = a.parts.topology; images = map image a.files; scripts = a.parts.scripts; from = a.parts.window.0; to = a.parts.window.1 }) = record {
      topo = topology_said a.text a.parts a.says;
      images = length-map a.files image ∙ a.count ∙ t.images;
      scripts = t.scripts;
      window = t.window;
    } in
    subst IsScenario (sym a.is) made

-- each place of a program memory has a byte
abbrev pub HasBytes : Image → Type 0
HasBytes i = (place : ℕ) → slice_index i.bytes place < 256

bytes_at : (files : List (List ℕ)) (k : ℕ) (d : Image) → k < length (map image files) → HasBytes (get_or (map image files) k d)
bytes_at files k d lt =
    let e : get_or (map image files) k d ≡ image (get_or files k []) = get_or-map image files k [] d (let n = length-map files image in omega (arith, n)) in
    subst HasBytes (sym e) (image_bytes (get_or files k []))

pub images_bytes : (s : ScenarioOf) → IsAccepted s → All HasBytes s.images
images_bytes s a = subst (λ (t : ScenarioOf). All HasBytes t.images) (sym a.is) (λ k d lt. bytes_at a.files k d lt)
