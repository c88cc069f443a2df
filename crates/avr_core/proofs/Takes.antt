-- A register instruction takes at least a cycle.
use Rattle.std.proofs.Common.{◌≤◌, arith}
use Rattle.avr_decoder.specs.declared.op.Op.{Op}
use Rattle.avr_decoder.specs.declared.op.Op.TheVariants as op
use Rattle.avr_core.specs.ArithTable.{arith_cycles}

pub arith_takes : (o : Op) → 1 ≤ arith_cycles o
arith_takes (op.Adiw d k) = omega arith
arith_takes (op.Sbiw d k) = omega arith
arith_takes (op.Mul d r) = omega arith
arith_takes (op.Muls d r) = omega arith
arith_takes (op.Mulsu d r) = omega arith
arith_takes (op.Fmul d r) = omega arith
arith_takes (op.Fmuls d r) = omega arith
arith_takes (op.Fmulsu d r) = omega arith
arith_takes _ = omega arith
