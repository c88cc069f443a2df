use Rattle.std.proofs.Common.{◌≡◌, ◌∙◌, ◌∷◌, [], List, ap, codes, map, rules}
use Rattle.std.proofs.lemmas.List.{take_all}
use Rattle.std.proofs.lemmas.Result.{IfOk-weaker}
use Rattle.clap.specs.Words.{App, app_of, new_app}
use Rattle.command_words.specs.Apps.{cut_app, monitor_app, node_app, one_word_app, run_app, sweep_app, two_words_app, watch_app, without_first}
use Rattle.command_words.proofs.Tables.{met, local, form_met, form_met_of, one_more, all_added, with_all}
use Rattle.command_words.proofs.building.parser.Goals as goal

pub loop-form-preserved : goal.loop-form-preserved
loop-form-preserved c = record {
  given =
      rw c.push_reserved.ensures.items
      (one_more met form_met c.loop-form.subcommands.items _ c.loop-form.form-index _ _ c.loop-form-test.true (form_met_of _ _ c.in-Ok.ensures) c.loop-form.invariant.given);
  count = search rules;
  room = search rules;
}

subs : List App
subs =
    node_app ∷ run_app ∷ one_word_app (codes "make") (codes "number") ∷ monitor_app ∷ one_word_app (codes "sniff") (codes "file")
    ∷ cut_app (codes "look") (codes "cycle")
    ∷ one_word_app (codes "check") (codes "file") ∷ one_word_app (codes "disasm") (codes "file")
    ∷ one_word_app (codes "asm") (codes "file") ∷ cut_app (codes "head") (codes "epochs")
    ∷ cut_app (codes "save") (codes "epochs") ∷ two_words_app (codes "resume") (codes "state") ∷ sweep_app ∷ watch_app ∷ []

pub returns : goal.returns
unfolding form_met subs
returns c =
    let all : map met c.loop-form.subcommands.items ≡ map local subs = c.loop-form.invariant.given ∙ ap (map form_met) (take_all c.loop-form.form-index _ c.loop-form-test.false) in
    let bare : app_of c.no_binary_name.result ≡ without_first (new_app (codes "avrora")) = search rules in
    IfOk-weaker c.subcommands.result _ _ (λ made h. all_added c.no_binary_name.result made c.loop-form.subcommands.items subs h all ∙ ap (λ app. with_all app subs) bare) c.subcommands.ensures
