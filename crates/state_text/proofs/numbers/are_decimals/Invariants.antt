use Rattle.std.proofs.Common.{◌≡◌, ◌-◌}
use Rattle.state_text.proofs.Loops.{are_decimals}
use Rattle.state_text.proofs.numbers.are_decimals.Given as goal

abbrev pub invariant-loop : goal.invariant-loop
invariant-loop l = are_decimals l.fn.parts l.count ≡ are_decimals l.parts (l.count - l.counter)
