use Rattle.std.proofs.Common.{◌≡◌, ◌&&◌, ◌==◌, true, subst, arith}
use Rattle.std.proofs.lemmas.Slice.Eq.{slice_eq-Decides}
use Rattle.std.proofs.lemmas.Bool.Decides.{nat_tests}
use Rattle.air_base.specs.declared.air.Send.{Send}
use Rattle.air_facts.proofs.plain.are_same.Goals as goal

same : (a b : Send) → ((a.node == b.node) && ((a.cycle == b.cycle) && (a.byte == b.byte))) ≡ true → a ≡ b
same a b e =
    let h : (a.node ≡ b.node) × (a.cycle ≡ b.cycle) × (a.byte ≡ b.byte) = grind (arith, nat_tests) in
    λ i. record { node = h.0 i; cycle = h.1 i; byte = h.2 i }

itself : (a : Send) → ((a.node == a.node) && ((a.cycle == a.cycle) && (a.byte == a.byte))) ≡ true
itself a = grind (arith, nat_tests)

pub returns : goal.returns
returns c =
    slice_eq-Decides (λ (a b : Send). (same a b, (λ e. subst (λ (x : Send). ((a.node == x.node) && ((a.cycle == x.cycle) && (a.byte == x.byte))) ≡ true) e (itself a))))
    c.args.a.now c.args.b.now c.eq.result c.eq.ensures
