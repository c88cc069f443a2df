-- Instructions that put a byte and flags: what the next one reads, and what stands there in the end.
use Rattle.std.proofs.Common.{◌≡◌, ◌≢◌, ℕ, ◌+◌, ◌*◌, ◌<◌, length, length-set, sym, ap, ◌∙◌, arith}
use Rattle.std.proofs.lemmas.List.{get_or-set_same, get_or-set_other}
use Rattle.avr_base.specs.declared.sreg.Sreg.{Sreg}
use Rattle.avr_core.specs.ArithShapes.{to_reg}
use Rattle.data_space.specs.declared.cpu.Cpu.{Cpu}
use Rattle.data_space.specs.Core.{advanced}
use Rattle.instruction_laws.specs.Branches.{AreApart, IsCore, reg, word, word_in}

abbrev pub put : ℕ → ℕ × Sreg → Cpu → Cpu
put d result cpu = advanced 1 (to_reg d result cpu)

pub still : (d e : ℕ) (result : ℕ × Sreg) (cpu : Cpu) → d ≢ e → reg e (put d result cpu) ≡ reg e cpu
still d e result cpu other = get_or-set_other cpu.r d e result.0 0 (λ f. other (sym f))

there : (d : ℕ) (result : ℕ × Sreg) (cpu : Cpu) → d < length cpu.r → reg d (put d result cpu) ≡ result.0
there d result cpu within = get_or-set_same cpu.r d result.0 0 within

-- the word that two of them put
pub word_put : (dl dh : ℕ) (low high : ℕ × Sreg) (cpu : Cpu) → IsCore cpu → AreApart dl dh
    → word_in dl dh (put dh high (put dl low cpu)) ≡ word low.0 high.0
word_put dl dh low high cpu core apart =
    let mid : Cpu = put dl low cpu in
    let low_is : reg dl (put dh high mid) ≡ low.0 =
    still dh dl high mid (λ e. apart.apart (sym e)) ∙ there dl low cpu (omega (arith, core.count, apart.low_is)) in
    let high_is : reg dh (put dh high mid) ≡ high.0 = there dh high mid (omega (arith, core.count, apart.high_is, length-set cpu.r dl low.0)) in
    ap (λ n. n + 256 * reg dh (put dh high mid)) low_is ∙ ap (λ n. low.0 + 256 * n) high_is
