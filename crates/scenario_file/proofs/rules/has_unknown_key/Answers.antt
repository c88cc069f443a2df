use Rattle.std.proofs.Common.{◌≡◌, not, rules, tests, string_bytes}
use Rattle.std.specs.List.{list_any}
use Rattle.std.specs.Map.{keys_of}
use Rattle.std.proofs.lemmas.Iterator.Consumers.{YieldsList-from_rest}
use Rattle.std.proofs.lemmas.Iterator.Search.{any_from_yields_List}
use Rattle.scenario_file.specs.Rules.{is_known}
use Rattle.scenario_file.specs.Faults.{has_unknown_key}
use Rattle.scenario_file.proofs.Lists.{keys_in-members, list_any-map}
use Rattle.scenario_file.proofs.rules.has_unknown_key.Goals as goal

pub returns : goal.returns
unfolding has_unknown_key
returns c =
    let code : c.any.result ≡ list_any (λ k. not (is_known c.args.version c.args.keys (string_bytes k))) (keys_of c.args.table.now.entries) =
    any_from_yields_List (λ k. not (is_known c.args.version c.args.keys (string_bytes k))) _ _ _ c.any.ensures.ran (YieldsList-from_rest _ c.keys.ensures.rest) (λ x b q k. search (rules, tests)) in
    rw (keys_in-members c.args.table.now.entries, list_any-map) code
