use Rattle.std.proofs.Common.{◌∙◌, ap, map, rules}
use Rattle.std.proofs.lemmas.List.{take_all}
use Rattle.std.proofs.lemmas.Result.{IfOk-weaker}
use Rattle.command_words.proofs.Tables.{seen, word_seen, word_seen_of, one_more, words_added}
use Rattle.command_words.specs.Table.{with_words}
use Rattle.command_words.proofs.building.subcommand_of.Goals as goal

pub loop-word-preserved : goal.loop-word-preserved
loop-word-preserved c =
    let same = word_seen_of _ c.arg_of.result c.arg_of.ensures.rule c.arg_of.ensures.local in
    record {
      given =
          rw c.push_reserved.ensures.items
          (one_more seen word_seen c.loop-word.args.items c.args.form.now.words.now c.loop-word.word-index c.arg_of.result _ c.loop-word-test.true same c.loop-word.invariant.given);
      count = search rules;
      room = search rules;
    }

pub returns : goal.returns
returns c =
    let words = c.args.form.now.words.now in
    let all = c.loop-word.invariant.given ∙ ap (map word_seen) (take_all c.loop-word.word-index words c.loop-word-test.false) in
    IfOk-weaker c.args-2.result _ _ (λ made h. let is = words_added c.new.result made c.loop-word.args.items words h all in (is.0 ∙ ap (λ app. with_words app words) c.new.ensures.app, is.1 ∙ c.new.ensures.local)) c.args-2.ensures
