use Rattle.std.proofs.Common.{◌∙◌}
use Rattle.asm_words.proofs.Tables.{flash_pointer_is}
use Rattle.asm_words.proofs.field.flash_pointer.Goals as goal

pub returns : goal.returns
returns c = c.find.ensures ∙ flash_pointer_is c.args.text.now
