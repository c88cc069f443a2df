use Rattle.std.proofs.Common.{◌≡◌, ◌≢◌, nat_eq, not, true, sym, subst, ap, ◌∙◌}
use Rattle.std.proofs.lemmas.Bool.{and_parts, eq-eqb, false≢true}
use Rattle.node_core.specs.Pace.Leaps.{IsBeside}
use Rattle.node_core.proofs.Counting.{brbc_beside, brbs_beside, nop_beside, rjmp_beside, sbci_beside}
use Rattle.node_core.proofs.pace.countdowns.is_beside.Goals as goal

pub returns-in-Nop : goal.returns-in-Nop
returns-in-Nop c e = subst (IsBeside c.args.low c.args.high) (sym c.in-Nop.is) (nop_beside c.args.low c.args.high)

pub returns-in-Rjmp : goal.returns-in-Rjmp
returns-in-Rjmp c e = subst (IsBeside c.args.low c.args.high) (sym c.in-Rjmp.is) (rjmp_beside c.args.low c.args.high c.in-Rjmp.k)

pub returns-in-Brbs : goal.returns-in-Brbs
returns-in-Brbs c e = subst (IsBeside c.args.low c.args.high) (sym c.in-Brbs.is) (brbs_beside c.args.low c.args.high c.in-Brbs.s c.in-Brbs.k)

pub returns-in-Brbc : goal.returns-in-Brbc
returns-in-Brbc c e = subst (IsBeside c.args.low c.args.high) (sym c.in-Brbc.is) (brbc_beside c.args.low c.args.high c.in-Brbc.s c.in-Brbc.k)

pub returns-in-Sbci : goal.returns-in-Sbci
returns-in-Sbci c e =
    let both = and_parts (not (nat_eq c.get.result c.get-in-Sbci.result)) (not (nat_eq c.get-in-Sbci-2.result c.get-in-Sbci-3.result)) e in
    let low : c.in-Sbci.d ≢ c.args.low =
    (λ same.
    (let equal : nat_eq c.get.result c.get-in-Sbci.result ≡ true = eq-eqb _ _ (c.get.ensures.value ∙ (same ∙ sym c.get-in-Sbci.ensures.value)) in
    false≢true (sym (ap not equal) ∙ both.0))) in
    let high : c.in-Sbci.d ≢ c.args.high =
    (λ same.
    (let equal : nat_eq c.get-in-Sbci-2.result c.get-in-Sbci-3.result ≡ true = eq-eqb _ _ (c.get-in-Sbci-2.ensures.value ∙ (same ∙ sym c.get-in-Sbci-3.ensures.value)) in
    false≢true (sym (ap not equal) ∙ both.1))) in
    subst (IsBeside c.args.low c.args.high) (sym c.in-Sbci.is) (sbci_beside c.args.low c.args.high c.in-Sbci.d c.in-Sbci.k low high)
