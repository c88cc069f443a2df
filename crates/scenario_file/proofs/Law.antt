-- What holds of each scenario that a document says.
use Rattle.std.proofs.Common.{◌≡◌, ℕ, zero, suc, ◌-◌, ◌≤◌, ◌&&◌, nat_le, true, List, [], ◌∷◌, length, Option, Some, None, codes, refl, arith}
use Rattle.std.specs.Option.{option_map_or}
use Rattle.std.proofs.lemmas.Bool.{and_parts}
use Rattle.std.proofs.lemmas.Bool.Decides.{nat_tests}
use Rattle.std.proofs.lemmas.List.{length-append}
use Rattle.toml.specs.Data.{Data, Members, get_member}
use Rattle.scenario_file.specs.Document.{number_at, pair_of, pair_at_value}
use Rattle.scenario_file.specs.Rules.{version_of, is_window_pair, is_window, has_window}
use Rattle.scenario_file.specs.Faults.{nodes, inputs}
use Rattle.scenario_file.specs.Scenario.{image_of, topology_of, script_for, scripts_below, parts_of, IsScenario}
use Rattle.scenario_file.proofs.Lists.{length_map}
use Rattle.scenario_file.proofs.Scripts.{total_most, few_sum}
use Rattle.scenario_file.proofs.Clean.{Clean}
use Rattle.scenario_file.proofs.Topologies.{top_row}
use Rattle.scenario_file.specs.declared.ranges.TheConstants.{WIDEST_WINDOW}

script_count : (n : ℕ) (ds : List Data) → length (scripts_below n ds) ≡ n
unfolding scripts_below
script_count zero ds = refl
script_count (suc n) ds = let a = length-append (scripts_below n ds) (script_for n ds ∷ []) in let ih = script_count n ds in omega (arith, a, ih)

-- a window of a run of so many cycles
abbrev IsWindow : ℕ → ℕ × ℕ → Type 0
IsWindow cycles w = (w.0 ≤ w.1) × (w.1 ≤ cycles) × (w.1 - w.0 ≤ WIDEST_WINDOW)

pair_case : (cycles a b : ℕ) → (nat_le a b && nat_le b cycles && nat_le (b - a) WIDEST_WINDOW) ≡ true → (a ≤ b) × (b ≤ cycles) × (b - a ≤ WIDEST_WINDOW)
pair_case cycles a b h =
    let p = and_parts (nat_le a b && nat_le b cycles) (nat_le (b - a) WIDEST_WINDOW) h in
    let q = and_parts (nat_le a b) (nat_le b cycles) p.0 in
    (grind (arith, nat_tests, q.0), grind (arith, nat_tests, q.1), grind (arith, nat_tests, p.1))

value_case : (cycles : ℕ) (d : Data) (p : Option (ℕ × ℕ)) → pair_of d ≡ p → is_window_pair cycles p ≡ true → IsWindow cycles (pair_at_value (Some d))
value_case cycles d None e h = absurd cc
value_case cycles d (Some (a, b)) e h = rw e (pair_case cycles a b h)

window_case : (cycles : ℕ) (o : Option Data) → option_map_or (is_window cycles) o true ≡ true → IsWindow cycles (pair_at_value o)
window_case cycles None h = (omega arith, omega arith, omega arith)
window_case cycles (Some d) h = value_case cycles d (pair_of d) refl h

pub scenario_law : (ms : Members) → Clean ms → IsScenario (parts_of ms)
unfolding parts_of topology_of has_window
scenario_law ms clean =
    let e = clean.before in
    let n = length (nodes ms) in
    let w = window_case (number_at (codes "cycles") 0 ms) (get_member (codes "window") ms) (top_row (version_of ms) n ms e.top).window in
    let bytes = total_most n (inputs ms) in
    let few = few_sum (inputs ms) e.few_bytes in
    record {
      images = length_map image_of (nodes ms);
      scripts = script_count n (inputs ms);
      few_bytes = omega (arith, bytes, few);
      window = w.0;
      within = w.1;
      narrow = w.2;
    }
