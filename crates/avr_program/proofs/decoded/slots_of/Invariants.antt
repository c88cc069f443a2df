use Rattle.std.proofs.Common.{◌≡◌}
use Rattle.avr_program.specs.Program.{slots_below}
use Rattle.avr_program.proofs.decoded.slots_of.Given as goal

abbrev pub invariant-loop-pc : goal.invariant-loop-pc
invariant-loop-pc l = l.slots.items ≡ slots_below l.pc l.flash.bytes
