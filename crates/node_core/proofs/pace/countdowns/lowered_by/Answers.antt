use Rattle.std.proofs.Common.{◌≡◌, ◌+◌, ◌-◌, ◌%◌, ◌<◌, ℕ, length, sym, subst, ap, ◌∙◌, arith}
use Rattle.std.specs.Prelude.{slice_index}
use Rattle.avr_decoder.specs.declared.op.Op.{Op}
use Rattle.avr_decoder.specs.declared.op.Op.TheVariants as op
use Rattle.data_space.specs.Core.{pair_at}
use Rattle.data_space.specs.declared.cpu.Cpu.{Cpu}
use Rattle.node_core.specs.declared.pace.countdowns.Lowering.{Lowering}
use Rattle.node_core.specs.Pace.Leaps.{IsLowering, counter_at, spared}
use Rattle.node_core.proofs.Counting.{dec_lowers, sbiw_lowers, subi_lowers}
use Rattle.node_core.proofs.pace.countdowns.lowered_by.Goals as goal

pub returns-in-Dec : goal.returns-in-Dec
returns-in-Dec c =
    let from : Cpu = c.args.core.now in
    let d : ℕ = c.in-Dec.d in
    let l : Lowering = record { low = d; high = c.above-high.result; spare = c.spared-spare.result } in
    let byte : slice_index from.r d < 256 = omega (arith, c.reg.ensures, c.reg.type_inv) in
    let spare : c.spared-spare.result ≡ spared 128 (slice_index from.r d) = c.spared-spare.ensures ∙ ap (spared 128) (c.from.ensures ∙ c.reg.ensures) in
    subst (λ (o : Op). IsLowering o from l) (sym c.in-Dec.is)
    (dec_lowers d from l (λ i. let k : Lowering = record { low = d; high = c.above-high.ensures i; spare = spare i } in k) byte)

pub returns-else-k-ne1 : goal.returns-else-k-ne1
returns-else-k-ne1 c =
    let from : Cpu = c.args.core.now in
    let d : ℕ = c.in-Subi.d in
    let l : Lowering = record { low = d; high = c.above-high-in-Subi.result; spare = c.saturating_sub-spare.result } in
    let byte : slice_index from.r d < 256 = omega (arith, c.reg-in-Subi.ensures, c.reg-in-Subi.type_inv) in
    let spare : c.saturating_sub-spare.result ≡ slice_index from.r d % 16 - 1 =
    c.saturating_sub-spare.ensures ∙ ap (λ (k : ℕ). k - 1) (c.from-in-Subi.ensures ∙ ap (λ (k : ℕ). k % 16) c.reg-in-Subi.ensures) in
    subst (λ (o : Op). IsLowering o from l) (sym c.in-Subi.is)
    (subst (λ (k : ℕ). IsLowering (op.Subi d k) from l) (sym c.if-k-ne1.false)
    (subi_lowers d from l (λ i. let k : Lowering = record { low = d; high = c.above-high-in-Subi.ensures i; spare = spare i } in k) byte))

pub returns-else-k-ne1-2 : goal.returns-else-k-ne1-2
returns-else-k-ne1-2 c =
    let from : Cpu = c.args.core.now in
    let d : ℕ = c.in-Sbiw.d in
    let l : Lowering = record { low = d; high = c.above-high-in-Sbiw.result; spare = c.spared-spare-in-Sbiw.result } in
    let above : c.above-high-in-Sbiw.result ≡ (d + 1) % 32 = c.above-high-in-Sbiw.ensures in
    let value : c.counter.result ≡ pair_at d from = c.counter.ensures.value ∙ ap (λ (e : ℕ). counter_at d e from) above in
    let word : pair_at d from < 65536 = omega (arith, value, c.counter.type_inv) in
    let spare : c.spared-spare-in-Sbiw.result ≡ spared 32768 (pair_at d from) = c.spared-spare-in-Sbiw.ensures ∙ ap (spared 32768) value in
    subst (λ (o : Op). IsLowering o from l) (sym c.in-Sbiw.is)
    (subst (λ (k : ℕ). IsLowering (op.Sbiw d k) from l) (sym c.if-k-ne1-2.false)
    (sbiw_lowers d from l (λ i. let k : Lowering = record { low = d; high = above i; spare = spare i } in k)
    c.counter.ensures.low_there (subst (λ (e : ℕ). e < length from.r) above c.counter.ensures.high_there) word))
