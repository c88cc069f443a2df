-- No mnemonic is longer than six letters: by each instruction's own.
use Rattle.std.proofs.Common.{◌≡◌, ◌≤◌, nat_le, true, refl, length, arith}
use Rattle.std.proofs.lemmas.Bool.Decides.{nat_tests}
use Rattle.avr_decoder.specs.declared.op.Op.{Op}
use Rattle.avr_decoder.specs.declared.op.Op.TheVariants as op
use Rattle.avr_disassembler.specs.Text.{shown}

is_short : (o : Op) → nat_le (length (shown o).mnemonic) 6 ≡ true
unfolding shown
is_short op.Nop = refl
is_short (op.Movw d r) = refl
is_short (op.Muls d r) = refl
is_short (op.Mulsu d r) = refl
is_short (op.Fmul d r) = refl
is_short (op.Fmuls d r) = refl
is_short (op.Fmulsu d r) = refl
is_short (op.Cpc d r) = refl
is_short (op.Sbc d r) = refl
is_short (op.Add d r) = refl
is_short (op.Cpse d r) = refl
is_short (op.Cp d r) = refl
is_short (op.Sub d r) = refl
is_short (op.Adc d r) = refl
is_short (op.And d r) = refl
is_short (op.Eor d r) = refl
is_short (op.Or d r) = refl
is_short (op.Mov d r) = refl
is_short (op.Cpi d k) = refl
is_short (op.Sbci d k) = refl
is_short (op.Subi d k) = refl
is_short (op.Ori d k) = refl
is_short (op.Andi d k) = refl
is_short (op.LddZ d q) = refl
is_short (op.LddY d q) = refl
is_short (op.StdZ q r) = refl
is_short (op.StdY q r) = refl
is_short (op.Lds d k) = refl
is_short (op.LdZInc d) = refl
is_short (op.LdZDec d) = refl
is_short (op.LpmZ d) = refl
is_short (op.LpmZInc d) = refl
is_short (op.ElpmZ d) = refl
is_short (op.ElpmZInc d) = refl
is_short (op.LdYInc d) = refl
is_short (op.LdYDec d) = refl
is_short (op.LdX d) = refl
is_short (op.LdXInc d) = refl
is_short (op.LdXDec d) = refl
is_short (op.Pop d) = refl
is_short (op.Sts k r) = refl
is_short (op.StZInc r) = refl
is_short (op.StZDec r) = refl
is_short (op.StYInc r) = refl
is_short (op.StYDec r) = refl
is_short (op.StX r) = refl
is_short (op.StXInc r) = refl
is_short (op.StXDec r) = refl
is_short (op.Push r) = refl
is_short (op.Com d) = refl
is_short (op.Neg d) = refl
is_short (op.Swap d) = refl
is_short (op.Inc d) = refl
is_short (op.Asr d) = refl
is_short (op.Lsr d) = refl
is_short (op.Ror d) = refl
is_short (op.Dec d) = refl
is_short (op.Bset s) = refl
is_short (op.Bclr s) = refl
is_short op.Ijmp = refl
is_short op.Icall = refl
is_short op.Ret = refl
is_short op.Reti = refl
is_short op.Sleep = refl
is_short op.Break = refl
is_short op.Wdr = refl
is_short op.LpmR0 = refl
is_short op.ElpmR0 = refl
is_short op.Spm = refl
is_short (op.Jmp k) = refl
is_short (op.Call k) = refl
is_short (op.Adiw d k) = refl
is_short (op.Sbiw d k) = refl
is_short (op.Cbi a b) = refl
is_short (op.Sbic a b) = refl
is_short (op.Sbi a b) = refl
is_short (op.Sbis a b) = refl
is_short (op.Mul d r) = refl
is_short (op.InIo d a) = refl
is_short (op.OutIo a r) = refl
is_short (op.Rjmp k) = refl
is_short (op.Rcall k) = refl
is_short (op.Ldi d k) = refl
is_short (op.Brbs s k) = refl
is_short (op.Brbc s k) = refl
is_short (op.Bld d b) = refl
is_short (op.Bst d b) = refl
is_short (op.Sbrc r b) = refl
is_short (op.Sbrs r b) = refl
is_short (op.Reserved word) = refl
is_short (op.Undefined word) = refl

pub short : (o : Op) → length (shown o).mnemonic ≤ 6
short o = let h = is_short o in grind (arith, nat_tests, h)
