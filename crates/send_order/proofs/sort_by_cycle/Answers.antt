use Rattle.std.proofs.Common.{rules}
use Rattle.std.proofs.lemmas.List.Sorted.{IsNonDecreasingBy-from_sort_by_key, answers_always}
use Rattle.air_base.specs.declared.air.Send.{Send}
use Rattle.send_order.proofs.sort_by_cycle.Goals as goal

pub returns-clause-sorted : goal.returns-clause-sorted
returns-clause-sorted c = IsNonDecreasingBy-from_sort_by_key (λ (x : Send). x.cycle) _ c.in_ok-sort_by_key.ensures.sorted (λ a r q k. search rules)

pub returns-clause-stable : goal.returns-clause-stable
returns-clause-stable c = c.in_ok-sort_by_key.ensures.stable (λ (x : Send). x.cycle) (answers_always _ _ _ (λ f a r q k. search rules))
