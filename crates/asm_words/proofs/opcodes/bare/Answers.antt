use Rattle.std.proofs.Common.{◌∙◌}
use Rattle.asm_words.proofs.Tables.{bare_is}
use Rattle.asm_words.proofs.opcodes.bare.Goals as goal

pub returns : goal.returns
returns c = c.find.ensures ∙ bare_is c.args.mnemonic.now
