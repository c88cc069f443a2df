use Rattle.std.proofs.Common.{◌≡◌, rules, tests}
use Rattle.std.specs.List.{list_all}
use Rattle.std.proofs.lemmas.Iterator.{YieldsList-from_slice}
use Rattle.std.proofs.lemmas.Iterator.Search.{all_from_yields_List}
use Rattle.std.proofs.lemmas.List.Folds.{list_all-map}
use Rattle.toml.specs.View.{view}
use Rattle.scenario_file.specs.Holds.{holds_of, holds_of_all}
use Rattle.scenario_file.proofs.rules.Rule.holds_of_all.Goals as goal

pub returns : goal.returns
unfolding holds_of_all
returns c =
    let code : c.all.result ≡ list_all (λ v. holds_of c.args.self c.args.keys (view v)) c.args.values.now =
    all_from_yields_List (λ v. holds_of c.args.self c.args.keys (view v)) _ _ _ c.all.ensures.ran (YieldsList-from_slice c.args.values.now (cc)) (λ x b q k. search (rules, tests)) in
    rw list_all-map code
