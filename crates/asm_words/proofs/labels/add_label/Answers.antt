use Rattle.std.proofs.Common.{◌∙◌, sym}
use Rattle.std.proofs.lemmas.Map.Text.{btree_map_updates_str}
use Rattle.asm_words.specs.Labels.{label_at}
use Rattle.asm_words.proofs.Added.{added, known}
use Rattle.asm_words.proofs.labels.add_label.Goals as goal

pub returns-in_ok-insert-in-None : goal.returns-in_ok-insert-in-None
returns-in_ok-insert-in-None c = λ q.
    btree_map_updates_str c.args.name.now c.args.labels.now c.insert.new.self _ c.in_ok-insert-in-None.ensures.updates q
    ∙ added (label_at c.args.labels.now) c.args.name.now q c.args.label (sym c.find_label.ensures ∙ c.in-None.is)

pub returns-in-Some : goal.returns-in-Some
returns-in-Some c = λ q. known (label_at c.args.labels.now) c.args.name.now q c.args.label _ (sym c.find_label.ensures ∙ c.in-Some.is)
