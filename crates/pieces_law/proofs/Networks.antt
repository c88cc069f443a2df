-- A network that a command has accepted is that of accepted texts.
use Rattle.std.proofs.Common.{◌≡◌, ◌≤◌, ℕ, suc, Bool, true, false, if◌then◌else◌, nat_le, List, [], ◌∷◌, ◌++◌, length, length-set, map, Option, Some, None, Result, Ok, Err, refl, sym, subst, ap, ◌∙◌, append_assoc, append-nil}
use Rattle.std.specs.List.{All}
use Rattle.std.proofs.lemmas.List.Elements.{All-cons, All-nil}
use Rattle.ihex_loader.specs.Flash.{Image}
use Rattle.ihex_loader.specs.Image.{hex_fault, image}
use Rattle.ihex_loader.specs.declared.fault.HexFault.{HexFault}
use Rattle.scenario_file.specs.Scenario.{ScenarioParts, scenario_in}
use Rattle.scenario_file.specs.declared.fault.ScenarioFault.{ScenarioFault}
use Rattle.scenario_file.specs.declared.fault.ScenarioFault.TheVariants.{OutOfRange}
use Rattle.serial_ports.specs.Script.{ScriptBytes}
use Rattle.node_runner.proofs.Accepted.{is_scenario}
use Rattle.node_runner.specs.Accepted.{IsAccepted}
use Rattle.node_runner.specs.Scenario.{IsScenario, ScenarioOf, with_script}
use Rattle.command_words.specs.Words.{MonitorSpan, asked_by}
use Rattle.command_words.proofs.Forms.{form_of, in_limits}
use Rattle.command_plans.specs.Plan.{Give, Refuse, BadImage, BadScenario, and_then, image_or, image_plan, images_behind, images_plan, scenario_or, scenario_plan}
use Rattle.command_plans.specs.Reading.{Files, Accepted, verdict}
use Rattle.command_plans.specs.declared.trouble.ImageCause.TheVariants as image_cause
use Rattle.command_plans.specs.declared.trouble.ScenarioCause.TheVariants as scenario_cause
use Rattle.commands.specs.Network.{network_of}
use Rattle.commands.specs.Plan.{images_for, network_plan, span_or, span_plan, up_to_or, up_to_plan}
use Rattle.pieces_law.proofs.Verdicts.{parts, read}
use Rattle.command_plans.specs.declared.files.TheConstants.{MOST_IMAGE_BYTES, MOST_SCENARIO_BYTES}

-- ---- the text of a scenario
said_by : (files : Files) (name : List ℕ) (said : Result ScenarioParts ScenarioFault) (got : ScenarioParts) → verdict files (scenario_or name said) ≡ Accepted got → said ≡ Ok got
unfolding verdict
said_by files name (Ok it) got e = let same : it ≡ got = cc in ap Ok same
said_by files name (Err fault) got e = absurd (cc)

record SaidIn (got : ScenarioParts) : Type 0 where
  text : List ℕ
  says : scenario_in text ≡ Ok got

said_in : (files : Files) (name : List ℕ) (got : ScenarioParts) → verdict files (scenario_plan name) ≡ Accepted got → SaidIn got
said_in files name got e =
    let r = read files name MOST_SCENARIO_BYTES (BadScenario name scenario_cause.TooLong) (λ bytes. scenario_or name (scenario_in bytes)) got e in
    record { text = r.bytes; says = said_by files name (scenario_in r.bytes) got r.after }

-- ---- the texts of images
record Loaded (got : Image) : Type 0 where
  text : List ℕ
  faultless : hex_fault text ≡ None
  is : got ≡ image text

loaded_by : (files : Files) (name : List ℕ) (fault : Option HexFault) (given got : Image) → verdict files (image_or name fault given) ≡ Accepted got → (fault ≡ None) × (got ≡ given)
unfolding verdict
loaded_by files name None given got e = (refl, cc)
loaded_by files name (Some fault) given got e = absurd (cc)

loaded : (files : Files) (name : List ℕ) (got : Image) → verdict files (image_plan name) ≡ Accepted got → Loaded got
loaded files name got e =
    let r = read files name MOST_IMAGE_BYTES (BadImage name image_cause.TooLong) (λ bytes. image_or name (hex_fault bytes) (image bytes)) got e in
    let l = loaded_by files name (hex_fault r.bytes) (image r.bytes) got r.after in
    record { text = r.bytes; faultless = l.0; is = l.1 }

abbrev IsFaultless : List ℕ → Type 0
IsFaultless text = hex_fault text ≡ None

record AllLoaded (before : List Image) (count : ℕ) (got : List Image) : Type 0 where
  texts : List (List ℕ)
  many : length texts ≡ count
  faultless : All IsFaultless texts
  is : got ≡ before ++ map image texts

all_loaded : (files : Files) (before : List Image) (names : List (List ℕ)) (got : List Image) → verdict files (images_behind before names) ≡ Accepted got
    → AllLoaded before (length names) got
unfolding verdict images_behind
all_loaded files before [] got e =
    let same : before ≡ got = cc in
    record { texts = []; many = refl; faultless = All-nil IsFaultless; is = sym same ∙ sym (append-nil before) }
all_loaded files before (name ∷ names) got e =
    let p = parts files (image_plan name) (λ flash. images_behind (before ++ flash ∷ []) names) got e in
    let one = loaded files name p.got p.first in
    let others = all_loaded files (before ++ p.got ∷ []) names got p.after in
    record {
      texts = one.text ∷ others.texts;
      many = ap suc others.many;
      faultless = All-cons IsFaultless one.text others.texts one.faultless others.faultless;
      is = others.is ∙ append_assoc before (p.got ∷ []) (map image others.texts) ∙ ap (λ (i : Image). before ++ i ∷ map image others.texts) one.is;
    }

-- ---- a network
network_is : (files : Files) (made network : ScenarioOf) → verdict files (Give made) ≡ Accepted network → network ≡ made
unfolding verdict
network_is files made network e = cc

accepted_by : (files : Files) (text : List ℕ) (said : ScenarioParts) (network : ScenarioOf) → scenario_in text ≡ Ok said → verdict files (images_for said) ≡ Accepted network
    → IsAccepted network
accepted_by files text said network says e =
    let q = parts files (images_plan said.images) (λ images. Give (network_of said images)) network e in
    let all = all_loaded files [] said.images q.got q.first in
    record {
      text = text;
      parts = said;
      says = says;
      files = all.texts;
      count = all.many;
      faultless = all.faultless;
      is = network_is files (network_of said q.got) network q.after ∙ ap (network_of said) all.is;
    }

pub network_accepted : (files : Files) (file : List ℕ) (network : ScenarioOf) → verdict files (network_plan file) ≡ Accepted network → IsAccepted network
network_accepted files file network e =
    let p = parts files (scenario_plan file) images_for network e in
    let s = said_in files file p.got p.first in
    accepted_by files s.text p.got network s.says p.after

-- ---- one that is watched up to a cycle of its run
up_to_in : (files : Files) (name : List ℕ) (said got : ScenarioParts) (b : Bool)
    → verdict files (if b then Give said else Refuse (BadScenario name (scenario_cause.Faulty OutOfRange))) ≡ Accepted got → said ≡ got
unfolding verdict
up_to_in files name said got true e = cc
up_to_in files name said got false e = absurd (cc)

pub watched_accepted : (files : Files) (file : List ℕ) (to : ℕ) (network : ScenarioOf) → verdict files (up_to_plan file to) ≡ Accepted network → IsAccepted network
watched_accepted files file to network e =
    let p = parts files (and_then (scenario_plan file) (up_to_or file to)) images_for network e in
    let t = parts files (scenario_plan file) (up_to_or file to) p.got p.first in
    let s = said_in files file t.got t.first in
    let same : t.got ≡ p.got = up_to_in files file t.got p.got (nat_le to t.got.topology.limit) t.after in
    accepted_by files s.text p.got network (s.says ∙ ap Ok same) p.after

-- ---- other cycles in place of its window
window_in : (files : Files) (name : List ℕ) (from to : ℕ) (said got : ScenarioParts) (b : Bool)
    → verdict files (if b then Give (record said { window = (from, to) }) else Refuse (BadScenario name (scenario_cause.Faulty OutOfRange))) ≡ Accepted got
    → got ≡ record said { window = (from, to) }
unfolding verdict
window_in files name from to said got true e = cc
window_in files name from to said got false e = absurd (cc)

span_from : (files : Files) (file : List ℕ) (from to : ℕ) (network : ScenarioOf) → from ≤ to → verdict files (span_plan file from to) ≡ Accepted network → IsScenario network
span_from files file from to network rises e =
    let p = parts files (and_then (scenario_plan file) (span_or file from to)) images_for network e in
    let t = parts files (scenario_plan file) (span_or file from to) p.got p.first in
    let s = said_in files file t.got t.first in
    let w : p.got ≡ record t.got { window = (from, to) } = window_in files file from to t.got p.got (nat_le to t.got.topology.limit) t.after in
    let q = parts files (images_plan p.got.images) (λ images. Give (network_of p.got images)) network p.after in
    let all = all_loaded files [] p.got.images q.got q.first in
    let whole : IsScenario (network_of t.got q.got) = is_scenario (network_of t.got q.got) (record {
      text = s.text;
      parts = t.got;
      says = s.says;
      files = all.texts;
      count = all.many ∙ ap (λ (it : ScenarioParts). length it.images) w;
      faultless = all.faultless;
      is = ap (network_of t.got) all.is;
    }) in
    let is : network ≡ network_of (record t.got { window = (from, to) }) q.got = network_is files (network_of p.got q.got) network q.after ∙ ap (λ (it : ScenarioParts). network_of it q.got) w in
    let spanned : IsScenario (network_of (record t.got { window = (from, to) }) q.got) = record { topo = whole.topo; images = whole.images; scripts = whole.scripts; window = rises } in
    subst IsScenario (sym is) spanned

pub span_scenario : (files : Files) (words : List (List ℕ)) (file : List ℕ) (from to : ℕ) (network : ScenarioOf) → asked_by words ≡ Some (MonitorSpan file from to)
    → verdict files (span_plan file from to) ≡ Accepted network → IsScenario network
span_scenario files words file from to network asked e =
    let limits = in_limits words (MonitorSpan file from to) (form_of words (MonitorSpan file from to) asked) in
    span_from files file from to network limits.0 e

-- ---- another script at one of its nodes
pub moved_scenario : (network : ScenarioOf) (node : ℕ) (script : ScriptBytes) → IsScenario network → IsScenario (with_script network node script)
moved_scenario network node script is = record {
  topo = is.topo;
  images = is.images;
  scripts = length-set network.scripts node script ∙ is.scripts;
  window = is.window;
}
