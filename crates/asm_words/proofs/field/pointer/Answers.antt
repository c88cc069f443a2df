use Rattle.std.proofs.Common.{◌∙◌}
use Rattle.asm_words.proofs.Tables.{pointer_is}
use Rattle.asm_words.proofs.field.pointer.Goals as goal

pub returns : goal.returns
returns c = c.find.ensures ∙ pointer_is c.args.text.now
