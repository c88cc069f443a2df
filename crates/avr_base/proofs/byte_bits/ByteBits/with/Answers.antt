use Rattle.std.proofs.Common.{arith}
use Rattle.avr_base.proofs.Bits.{flag_on, flag_off}
use Rattle.avr_base.proofs.byte_bits.ByteBits.with.Goals as goal

pub returns-then-on : goal.returns-then-on
returns-then-on c = rw c.if-on.true (flag_on c.args.self.byte c.args.i (omega arith) c.requires)

pub returns-else-on : goal.returns-else-on
returns-else-on c = rw c.if-on.false (flag_off c.args.self.byte c.args.i (omega arith) c.requires)
