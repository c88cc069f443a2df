use Rattle.asm_words.specs.Labels.{label_at}
use Rattle.asm_text.proofs.Labels.{label_step}
use Rattle.asm_text.proofs.Steps.{if_ok}
use Rattle.asm_text.proofs.source.note_label.Goals as goal

pub returns-in-Label : goal.returns-in-Label
returns-in-Label c =
    if_ok c.add_label.result
    (λ _ h rest name. rw c.in-Label.is (label_step c.args.index c.args.at c.in-Label.name.now (label_at c.args.labels.now) (label_at c.add_label.new.labels) h rest name))
    c.add_label.ensures
