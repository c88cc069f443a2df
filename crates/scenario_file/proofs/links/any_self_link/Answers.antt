use Rattle.std.proofs.Common.{◌≡◌, rules, tests}
use Rattle.std.specs.List.{list_any}
use Rattle.std.proofs.lemmas.Iterator.{YieldsList-from_slice}
use Rattle.std.proofs.lemmas.Iterator.Search.{any_from_yields_List}
use Rattle.toml.specs.View.{view}
use Rattle.scenario_file.specs.Faults.{goes_to_itself, any_self_link}
use Rattle.scenario_file.proofs.Lists.{list_any-map}
use Rattle.scenario_file.proofs.links.any_self_link.Goals as goal

pub returns : goal.returns
unfolding any_self_link
returns c =
    let code : c.any.result ≡ list_any (λ v. goes_to_itself (view v)) c.args.values.now =
    any_from_yields_List (λ v. goes_to_itself (view v)) _ _ _ c.any.ensures.ran (YieldsList-from_slice c.args.values.now (cc)) (λ x b q k. search (rules, tests)) in
    rw list_any-map code
