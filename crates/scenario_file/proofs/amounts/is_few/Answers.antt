use Rattle.std.proofs.Common.{◌≡◌, ◌<◌, ◌≤◌, ℕ, arith, true, refl, ap, ◌∙◌, take_all, sum, map, get_or, nat_le, false}
use Rattle.std.proofs.lemmas.Bool.Decides.{nat_tests}
use Rattle.toml.specs.View.{view}
use Rattle.scenario_file.specs.Rules.{most_amount}
use Rattle.scenario_file.specs.Faults.{amount_of, is_few}
use Rattle.scenario_file.proofs.Lists.{sum_past}
use Rattle.scenario_file.proofs.amounts.is_few.Goals as goal

not_few : (n most : ℕ) → most < n → false ≡ nat_le n most
not_few n most h = grind (arith, nat_tests)

few : (n most : ℕ) → n ≤ most → true ≡ nat_le n most
few n most h = grind (arith, nat_tests)

pub loop-value-init : goal.loop-value-init
loop-value-init c = record { total = refl; few = omega arith }

pub returns : goal.returns
unfolding is_few
returns c =
    let all = c.loop-value.invariant.total ∙ ap (λ t. sum (map (amount_of c.args.keys) (map view t))) (take_all c.loop-value.value-index c.args.values.now c.loop-value-test.false) in
    let most = c.loop-value.invariant.few in
    few _ _ (omega (arith, all, most))

pub returns-then-total-most : goal.returns-then-total-most
unfolding is_few
returns-then-total-most c =
    let most = most_amount c.args.keys in
    let item : c.amount_of.result ≡ amount_of c.args.keys (view (get_or c.args.values.now c.loop-value.value-index c.value-item.result)) = rw (← c.value-item.is) c.amount_of.ensures in
    let bound : c.most_amount-most.result ≡ most = c.most_amount-most.ensures in
    not_few (sum (map (amount_of c.args.keys) (map view c.args.values.now))) most (sum_past (amount_of c.args.keys) view c.args.values.now c.loop-value.value-index c.loop-value.total most c.value-item.result (omega arith) c.loop-value.invariant.total (omega (arith, item, bound)))
