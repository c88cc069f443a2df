-- What holds of a document without a fault.
use Rattle.std.proofs.Common.{◌≡◌, ℕ, zero, suc, ◌<◌, get_or, ◌++◌, ◌≤◌, ◌&&◌, ◌||◌, ◌==◌, nat_lt, Bool, true, false, not, List, [], ◌∷◌, length, map, Option, Some, None, codes, refl, arith}
use Rattle.std.proofs.lemmas.Bool.{and_parts}
use Rattle.std.proofs.lemmas.Bool.Decides.{nat_tests}
use Rattle.toml.specs.Data.{Members}
use Rattle.scenario_file.specs.Document.{at_key, has_key, is_whole}
use Rattle.scenario_file.specs.Rules.{is_two, version_of, lacks_key, has_kinds, has_ranges}
use Rattle.scenario_file.specs.Faults.{nodes, links, inputs, first_of, early_tests, late_tests, document_fault, missing, any_lacks_key, right_kinds, are_rows, in_range, all_in_range, is_few, any_self_link, link_of, two_equal}
use Rattle.scenario_file.specs.declared.keys.Keys.TheVariants.{Top, OfNode, OfLink, OfInput}
use Rattle.scenario_file.specs.declared.fault.ScenarioFault.{ScenarioFault}
use Rattle.scenario_file.specs.declared.fault.ScenarioFault.TheVariants.{NoNodes}
use Rattle.scenario_file.proofs.Numbers.{and4}

-- the first of two lists of tests
abbrev pub fault_or : Option ScenarioFault → Option ScenarioFault → Option ScenarioFault
fault_or None later = later
fault_or (Some fault) later = Some fault

pub first_of_both : (ts us : List (Bool × ScenarioFault)) → first_of (ts ++ us) ≡ fault_or (first_of ts) (first_of us)
first_of_both [] us = refl
first_of_both ((true, f) ∷ ts) us = refl
first_of_both ((false, f) ∷ ts) us = first_of_both ts us

both_none : (ts us : List (Bool × ScenarioFault)) → first_of (ts ++ us) ≡ None → (first_of ts ≡ None) × (first_of us ≡ None)
both_none [] us h = (refl, h)
both_none ((true, f) ∷ ts) us h = absurd (cc)
both_none ((false, f) ∷ ts) us h = both_none ts us h

-- where no fault is named, no test held
none_held : (ts : List (Bool × ScenarioFault)) → first_of ts ≡ None → (i : ℕ) (d : Bool × ScenarioFault) → i < length ts → (get_or ts i d).0 ≡ false
none_held [] h i d lt = absurd (omega arith)
none_held ((true, f) ∷ ts) h i d lt = absurd (cc)
none_held ((false, f) ∷ ts) h zero d lt = refl
none_held ((false, f) ∷ ts) h (suc i) d lt = none_held ts h i d (omega arith)

not_true : (b : Bool) → not b ≡ false → b ≡ true
not_true true h = refl
not_true false h = absurd (cc)

at_most : (n : ℕ) → nat_lt 64 n ≡ false → n ≤ 64
at_most n h = grind (arith, nat_tests)

at_least : (n : ℕ) → (n == 0) ≡ false → 0 < n
at_least n h = grind (arith, nat_tests)

front : (a b c d : Bool) → (a || b || c || d) ≡ false → a ≡ false
front true b c d h = absurd (front_case b c d h)
  where
    front_case : (b c d : Bool) → (true || b || c || d) ≡ false → ⊥
    front_case b c d h = cc
front false b c d h = refl

-- the parts of a chain of six tests
and6 : (a b c d e f : Bool) → (a && b && c && d && e && f) ≡ true → (a ≡ true) × (b ≡ true) × (c ≡ true) × (d ≡ true) × (e ≡ true) × (f ≡ true)
and6 a b c d e f h =
    let p = and_parts (a && b && c && d && e) f h in
    let q = and_parts (a && b && c && d) e p.0 in
    let r = and4 a b c d q.0 in
    (r.0, r.1, r.2, r.3, q.1, p.1)

-- where none of the faults 2 to 8 applies
pub record Early (ms : Members) : Type 0 where
  pub cycles_there : has_key (codes "cycles") ms ≡ true
  pub cycles_whole : at_key is_whole (codes "cycles") ms ≡ true
  pub top : has_ranges (version_of ms) (length (nodes ms)) Top ms ≡ true
  pub links_in : all_in_range (version_of ms) (length (nodes ms)) OfLink (links ms) ≡ true
  pub inputs_in : all_in_range (version_of ms) (length (nodes ms)) OfInput (inputs ms) ≡ true
  pub few_spans : is_few OfLink (links ms) ≡ true
  pub few_bytes : is_few OfInput (inputs ms) ≡ true
  pub some : 0 < length (nodes ms)
  pub few : length (nodes ms) ≤ 64
  pub no_self : any_self_link (links ms) ≡ false

pub early : (ms : Members) → first_of (early_tests ms) ≡ None → Early ms
unfolding early_tests missing right_kinds in_range
early ms none =
    let held : (i : ℕ) (d : Bool × ScenarioFault) → i < length (early_tests ms) → (get_or (early_tests ms) i d).0 ≡ false = none_held (early_tests ms) none in
    let d : Bool × ScenarioFault = (false, NoNodes) in
    let there = front (lacks_key Top ms) (any_lacks_key OfNode (nodes ms)) (any_lacks_key OfLink (links ms)) (any_lacks_key OfInput (inputs ms)) (held 1 d (omega arith)) in
    let kinds : right_kinds ms ≡ true = not_true (right_kinds ms) (held 2 d (omega arith)) in
    let top_kinds = (and4 (has_kinds Top ms) (at_key (are_rows OfNode) (codes "node") ms) (at_key (are_rows OfLink) (codes "link") ms) (at_key (are_rows OfInput) (codes "input") ms) kinds).0 in
    let numbers = (and_parts (at_key is_whole (codes "version") ms && at_key is_whole (codes "cycles") ms && at_key is_whole (codes "latency") ms && at_key is_whole (codes "byte_time") ms) (at_key is_two (codes "window") ms) top_kinds).0 in
    let whole = and4 (at_key is_whole (codes "version") ms) (at_key is_whole (codes "cycles") ms) (at_key is_whole (codes "latency") ms) (at_key is_whole (codes "byte_time") ms) numbers in
    let ranges : in_range (version_of ms) ms ≡ true = not_true (in_range (version_of ms) ms) (held 3 d (omega arith)) in
    let v = version_of ms in
    let n = length (nodes ms) in
    let r = and6 (has_ranges v n Top ms) (all_in_range v n OfNode (nodes ms)) (all_in_range v n OfLink (links ms)) (all_in_range v n OfInput (inputs ms)) (is_few OfLink (links ms)) (is_few OfInput (inputs ms)) ranges in
    record {
      cycles_there = not_true (has_key (codes "cycles") ms) there;
      cycles_whole = whole.1;
      top = r.0;
      links_in = r.2;
      inputs_in = r.3;
      few_spans = r.4;
      few_bytes = r.5;
      some = at_least (length (nodes ms)) (held 4 d (omega arith));
      few = at_most (length (nodes ms)) (held 5 d (omega arith));
      no_self = held 6 d (omega arith);
    }

-- and none at all
pub record Clean (ms : Members) : Type 0 where
  pub before : Early ms
  pub no_twice : two_equal (map link_of (links ms)) ≡ false

pub clean : (ms : Members) → document_fault ms ≡ None → Clean ms
unfolding document_fault late_tests
clean ms none =
    let parts = both_none (early_tests ms) (late_tests ms) none in
    let d : Bool × ScenarioFault = (false, NoNodes) in
    record { before = early ms parts.0; no_twice = none_held (late_tests ms) parts.1 0 d (omega arith) }
