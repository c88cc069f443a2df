-- What the test of two cores tells.
use Rattle.std.proofs.Common.{◌≡◌, ℕ, ◌&&◌, nat_eq, Bool, true, false, refl, sym, arith}
use Rattle.std.proofs.lemmas.Bool.{and_parts, false≢true}
use Rattle.std.proofs.lemmas.Bool.Decides.{nat_tests}
use Rattle.std.specs.Cmp.Lexicographic.{pointwise, same_text}
use Rattle.avr_base.specs.declared.sreg.Sreg.{Sreg}
use Rattle.data_space.specs.declared.cpu.Cpu.{Cpu}
use Rattle.std.specs.Bool.{beq}

pub same_bits : (a b : Bool) → beq a b ≡ true → a ≡ b
same_bits true true e = refl
same_bits false false e = refl
same_bits true false e = absurd (false≢true e)
same_bits false true e = absurd (false≢true e)

same_number : (a b : ℕ) → nat_eq a b ≡ true → a ≡ b
same_number a b e = grind (arith, nat_tests)

pub same_core : (a b : Cpu) → (pointwise nat_eq a.r b.r && (nat_eq a.sreg.bits b.sreg.bits && (nat_eq a.sp b.sp && (nat_eq a.pc b.pc && beq a.rampz b.rampz)))) ≡ true → a ≡ b
same_core a b e =
    let first = and_parts (pointwise nat_eq a.r b.r) _ e in
    let second = and_parts (nat_eq a.sreg.bits b.sreg.bits) _ first.1 in
    let third = and_parts (nat_eq a.sp b.sp) _ second.1 in
    let fourth = and_parts (nat_eq a.pc b.pc) _ third.1 in
    let r : a.r ≡ b.r = same_text a.r b.r (sym first.0) in
    let bits : a.sreg.bits ≡ b.sreg.bits = same_number a.sreg.bits b.sreg.bits second.0 in
    let sp : a.sp ≡ b.sp = same_number a.sp b.sp third.0 in
    let pc : a.pc ≡ b.pc = same_number a.pc b.pc fourth.0 in
    let rampz : a.rampz ≡ b.rampz = same_bits a.rampz b.rampz fourth.1 in
    λ i. let x : Cpu = record { r = r i; sreg = (let s : Sreg = record { bits = bits i } in s); sp = sp i; pc = pc i; rampz = rampz i } in x
