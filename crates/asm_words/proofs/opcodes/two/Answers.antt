use Rattle.std.proofs.Common.{ap, sym, ◌∙◌, option_map}
use Rattle.asm_words.proofs.Tables.{two_form, two_is}
use Rattle.asm_words.proofs.opcodes.two.Goals as goal

pub returns-in-Some : goal.returns-in-Some
returns-in-Some c = ap (option_map two_form) (sym c.in-Some.is ∙ c.find.ensures) ∙ two_is c.args.mnemonic.now

pub returns-in-None : goal.returns-in-None
returns-in-None c = ap (option_map two_form) (sym c.in-None.is ∙ c.find.ensures) ∙ two_is c.args.mnemonic.now
