-- The class of an instruction: which part of the processor executes it.
use Rattle.avr_base.specs.declared.stop.StopCause.TheVariants as stop
use Rattle.avr_decoder.specs.declared.op.Op.{Op}
use Rattle.avr_decoder.specs.declared.op.Op.TheVariants as op
use Rattle.avr_decoder.specs.declared.op.Class.{Class}
use Rattle.avr_decoder.specs.declared.op.Class.TheVariants.{Arith, Flow, Memory, Halting}

abbrev pub class_of : Op → Class
class_of (op.Cpse d r) = Flow
class_of (op.LddZ d q) = Memory
class_of (op.LddY d q) = Memory
class_of (op.StdZ q r) = Memory
class_of (op.StdY q r) = Memory
class_of (op.Lds d k) = Memory
class_of (op.LdZInc d) = Memory
class_of (op.LdZDec d) = Memory
class_of (op.LpmZ d) = Memory
class_of (op.LpmZInc d) = Memory
class_of (op.ElpmZ d) = Memory
class_of (op.ElpmZInc d) = Memory
class_of (op.LdYInc d) = Memory
class_of (op.LdYDec d) = Memory
class_of (op.LdX d) = Memory
class_of (op.LdXInc d) = Memory
class_of (op.LdXDec d) = Memory
class_of (op.Pop d) = Memory
class_of (op.Sts k r) = Memory
class_of (op.StZInc r) = Memory
class_of (op.StZDec r) = Memory
class_of (op.StYInc r) = Memory
class_of (op.StYDec r) = Memory
class_of (op.StX r) = Memory
class_of (op.StXInc r) = Memory
class_of (op.StXDec r) = Memory
class_of (op.Push r) = Memory
class_of op.Ijmp = Flow
class_of op.Icall = Flow
class_of op.Ret = Flow
class_of op.Reti = Flow
class_of op.Sleep = Flow
class_of op.Break = Halting stop.BreakOp
class_of op.LpmR0 = Memory
class_of op.ElpmR0 = Memory
class_of op.Spm = Halting stop.Spm
class_of (op.Jmp k) = Flow
class_of (op.Call k) = Flow
class_of (op.Cbi a b) = Memory
class_of (op.Sbic a b) = Flow
class_of (op.Sbi a b) = Memory
class_of (op.Sbis a b) = Flow
class_of (op.InIo d a) = Memory
class_of (op.OutIo a r) = Memory
class_of (op.Rjmp k) = Flow
class_of (op.Rcall k) = Flow
class_of (op.Brbs s k) = Flow
class_of (op.Brbc s k) = Flow
class_of (op.Sbrc r b) = Flow
class_of (op.Sbrs r b) = Flow
class_of (op.Reserved word) = Halting stop.ReservedOpcode
class_of (op.Undefined word) = Halting stop.UndefinedOperands
-- the rest work on registers and flags alone
class_of _ = Arith
