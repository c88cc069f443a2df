use Rattle.avr_decoder.proofs.Long.{words_by_word}
use Rattle.instruction_laws.proofs.words_law.Goals as goal

pub returns : goal.returns
returns c = words_by_word
