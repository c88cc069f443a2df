use Rattle.std.proofs.Common.{◌≡◌, ap, ◌∙◌, map, refl, true}
use Rattle.std.proofs.lemmas.Result.{IfErr-weaker, IfOk-weaker}
use Rattle.clap.specs.Words.{takes, app_of, is_simple, subcommand_of}
use Rattle.command_words.proofs.Splits.{accepted_taken}
use Rattle.command_words.proofs.splitting.matches_of.Goals as goal

pub returns-in-Ok-clause-ok : goal.returns-in-Ok-clause-ok
returns-in-Ok-clause-ok c =
    let texts = map (λ w. w.now) c.args.words.now in
    let simple : is_simple (app_of c.in-Ok.parser) ≡ true = ap is_simple c.in-Ok.ensures ∙ refl in
    IfOk-weaker c.try_get_matches_from.result _ _ (λ m h. (h simple).1 ∙ ap (λ a. subcommand_of a texts) c.in-Ok.ensures) c.try_get_matches_from.ensures.matches

pub returns-in-Ok-clause-err : goal.returns-in-Ok-clause-err
returns-in-Ok-clause-err c =
    let texts = map (λ w. w.now) c.args.words.now in
    let is : takes (app_of c.in-Ok.parser) texts ≡ true = ap (λ a. takes a texts) c.in-Ok.ensures ∙ accepted_taken texts c.requires in
    IfErr-weaker c.try_get_matches_from.result _ _ (λ e h. h is) c.try_get_matches_from.ensures.passes
