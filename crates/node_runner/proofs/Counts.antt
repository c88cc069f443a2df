-- A runner's count is its number of noted sends.
use Rattle.std.proofs.Common.{◌≡◌, ℕ, ◌+◌, ◌-◌, Bool, true, false, cond, arith}
use Rattle.air_base.specs.NodeRun.{Timed}
use Rattle.node_core.specs.declared.row.Row.{Row}
use Rattle.node_core.specs.State.{NodeState}
use Rattle.node_runner.specs.Place.{Place, IsRunner, noted_of, sends_passed}

less_case : (b : Bool) (n m : ℕ) → n + cond b 1 0 ≡ m → m - cond b 1 0 ≡ n
less_case true n m e = omega arith
less_case false n m e = omega arith

pub noted_is : (p : Place) (v : Timed NodeState Row) (n lim : ℕ) → IsRunner p v n lim → noted_of p ≡ n
noted_is p v n lim inv = less_case p.unnoted n (sends_passed p) inv.count
