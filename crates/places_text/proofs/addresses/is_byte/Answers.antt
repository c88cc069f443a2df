use Rattle.std.proofs.Common.{sym, ◌∙◌, arith}
use Rattle.places_text.proofs.Kept.{byte_is}
use Rattle.places_text.proofs.addresses.is_byte.Goals as goal

pub returns-clause-value : goal.returns-clause-value
returns-clause-value c = c.is_among.ensures ∙ byte_is c.args.address (omega (arith, c.if-address-ge-SRAM_START.false)) (sym c.is_core.ensures ∙ c.if-is_core.false)
