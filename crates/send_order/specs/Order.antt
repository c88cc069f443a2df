-- What comes of sorting sends by node, and then by cycle. Own to this simulator.
use Rattle.std.specs.Prelude.{List}
use Rattle.std.specs.List.Sorted.{IsNonDecreasingBy, IsStableByKey}
use Rattle.std.specs.Ordering.{nat_cmp}
use Rattle.air_base.specs.declared.air.Send.{Send}

-- zs are xs sorted by node, and then by cycle
pub record AreOrdered (xs zs : List Send) : Type 0 where
  pub ys : List Send
  pub nodes : IsNonDecreasingBy (λ x. x.node) ys
  pub kept : IsStableByKey (λ x. x.node) nat_cmp xs ys
  pub cycles : IsNonDecreasingBy (λ x. x.cycle) zs
  pub moved : IsStableByKey (λ x. x.cycle) nat_cmp ys zs
