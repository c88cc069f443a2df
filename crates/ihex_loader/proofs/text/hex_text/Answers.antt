use Rattle.std.proofs.Common.{ap, ◌∙◌}
use Rattle.ihex_loader.specs.Image.{hex_fault, image}
use Rattle.ihex_loader.proofs.Digits.{words_are_bytes}
use Rattle.ihex_loader.proofs.Whole.{text_sound, text_image}
use Rattle.ihex_loader.proofs.text.hex_text.Goals as goal

pub returns-in-Ok-clause-sound : goal.returns-in-Ok-clause-sound
returns-in-Ok-clause-sound c = ap hex_fault c.in-Ok.ensures ∙ text_sound c.args.words.now (words_are_bytes c.args.words.now c.type_inv.words) c.requires

pub returns-in-Ok-clause-image : goal.returns-in-Ok-clause-image
returns-in-Ok-clause-image c = ap image c.in-Ok.ensures ∙ text_image c.args.words.now (words_are_bytes c.args.words.now c.type_inv.words) c.requires
