use Rattle.std.proofs.Common.{◌∙◌, sym, ap, ◌∷◌, [], ◌++◌}
use Rattle.node_monitors.specs.Spent.{unused}
use Rattle.node_monitors.proofs.Tables.{table-zero, table-more}
use Rattle.node_monitors.proofs.spent.unused_table.Goals as goal

pub loop-word-init : goal.loop-word-init
loop-word-init c = c.in_ok-slots.ensures.items ∙ sym (table-zero unused)

pub loop-word-preserved : goal.loop-word-preserved
loop-word-preserved c =
    c.in_ok-push.ensures.items ∙ ap (λ xs. xs ++ unused c.loop-word.word ∷ []) c.loop-word.invariant ∙ sym (table-more c.loop-word.word unused)
