-- The rules as one, and the tests of the faults.
use Rattle.std.proofs.Common.{◌≡◌, ◌&&◌, ◌||◌, Bool, true, false, not, List, [], ◌∷◌, Option, Some, None, length, codes, pos, negsuc, refl, ◌∙◌}
use Rattle.std.specs.List.{list_any, list_all}
use Rattle.std.specs.Option.{option_map_or}
use Rattle.toml.specs.Data.{Data, integer, as_table, Members, get_member}
use Rattle.scenario_file.specs.Document.{on_table, number_of, number_at}
use Rattle.scenario_file.specs.Rules.{lacks_key, version_numbered, version_in, version_of}
use Rattle.scenario_file.specs.Faults.{nodes, links, inputs, has_unknown_key, any_unknown_key, unknown_key, any_lacks_key, missing, all_of_kind, all_in_range, is_few, in_range}
use Rattle.scenario_file.specs.Holds.{holds_of_all, holds_in}
use Rattle.scenario_file.specs.declared.keys.Keys.{Keys}
use Rattle.scenario_file.specs.declared.keys.Keys.TheVariants.{Top, OfNode, OfLink, OfInput}
use Rattle.scenario_file.specs.declared.keys.Version.{Version}
use Rattle.scenario_file.specs.declared.rules.Rule.TheVariants.{NoOtherKey, Complete, RightKinds, InRange}

-- a rule that holds where a table has not what it forbids
others : (bad : Members → Bool) (o : Option Members) → option_map_or (λ ms. not (bad ms)) o true ≡ not (option_map_or bad o false)
others bad None = refl
others bad (Some ms) = refl

none_of : (bad : Members → Bool) (ds : List Data) → list_all (λ d. option_map_or (λ ms. not (bad ms)) (as_table d) true) ds ≡ not (list_any (on_table bad) ds)
none_of bad [] = refl
none_of bad (d ∷ ds) = (λ i. others bad (as_table d) i && none_of bad ds i) ∙ neither (on_table bad d) (list_any (on_table bad) ds)
  where
    neither : (a b : Bool) → (not a && not b) ≡ not (a || b)
    neither true b = refl
    neither false b = refl

some_of : (a b c d : Bool) → not (not a && not b && not c && not d) ≡ (a || b || c || d)
some_of true b c d = refl
some_of false true c d = refl
some_of false false true d = refl
some_of false false false true = refl
some_of false false false false = refl

pub unknown_is : (version : Version) (ms : Members) → not (holds_in (NoOtherKey version) ms) ≡ unknown_key version ms
unfolding holds_in holds_of_all unknown_key any_unknown_key
unknown_is version ms =
    let a = none_of (has_unknown_key version OfNode) (nodes ms) in
    let b = none_of (has_unknown_key version OfLink) (links ms) in
    let c = none_of (has_unknown_key version OfInput) (inputs ms) in
    (λ i. not (not (has_unknown_key version Top ms) && a i && b i && c i))
    ∙ some_of (has_unknown_key version Top ms) (any_unknown_key version OfNode (nodes ms)) (any_unknown_key version OfLink (links ms)) (any_unknown_key version OfInput (inputs ms))

pub missing_is : (ms : Members) → not (holds_in Complete ms) ≡ missing ms
unfolding holds_in holds_of_all missing any_lacks_key
missing_is ms =
    let a = none_of (lacks_key OfNode) (nodes ms) in
    let b = none_of (lacks_key OfLink) (links ms) in
    let c = none_of (lacks_key OfInput) (inputs ms) in
    (λ i. not (not (lacks_key Top ms) && a i && b i && c i))
    ∙ some_of (lacks_key Top ms) (any_lacks_key OfNode (nodes ms)) (any_lacks_key OfLink (links ms)) (any_lacks_key OfInput (inputs ms))

pub in_range_is : (version : Version) (ms : Members) → (holds_in (InRange version (length (nodes ms))) ms && is_few OfLink (links ms) && is_few OfInput (inputs ms)) ≡ in_range version ms
unfolding holds_in holds_of_all in_range all_in_range
in_range_is version ms = refl

pub kinds_are : (keys : Keys) (ds : List Data) → holds_of_all RightKinds keys ds ≡ all_of_kind keys ds
unfolding holds_of_all all_of_kind
kinds_are keys ds = refl

-- a version that is no whole number, or none, is as number 1
version_case : (o : Option Data) → version_numbered (number_of o 1) ≡ version_in o
version_case None = refl
version_case (Some (integer (pos n))) = refl
version_case (Some (integer (negsuc n))) = refl
version_case (Some _) = refl

pub version_is : (ms : Members) → version_numbered (number_at (codes "version") 1 ms) ≡ version_of ms
version_is ms = version_case (get_member (codes "version") ms)
