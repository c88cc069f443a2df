use Rattle.std.proofs.Common.{◌≡◌, ◌<◌, ◌==◌, ℕ, nat_lt, true, sym, ap, ◌∙◌, arith}
use Rattle.std.proofs.lemmas.Bool.Decides.{nat_tests}
use Rattle.std.specs.List.{count_by}
use Rattle.scenario_file.proofs.Scripts.{any_twice_at}
use Rattle.scenario_file.proofs.inputs.any_twice.Goals as goal

above : (n : ℕ) → 1 < n → nat_lt 1 n ≡ true
above n h = grind (arith, nat_tests)

pub returns-then-count_of-gt1 : goal.returns-then-count_of-gt1
returns-then-count_of-gt1 c =
    let many : nat_lt 1 (count_by (λ m. m == c.loop-node.node) c.args.nodes.now) ≡ true = ap (λ (n : ℕ). nat_lt 1 n) (sym c.count_of.ensures) ∙ above c.count_of.result c.if-count_of-gt1.true in
    sym (any_twice_at c.args.count c.loop-node.node c.args.nodes.now (omega arith) many)
