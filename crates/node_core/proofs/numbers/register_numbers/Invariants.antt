use Rattle.std.proofs.Common.{◌≡◌, length, take}
use Rattle.node_core.proofs.numbers.register_numbers.Given as goal

abbrev pub invariant-loop-d : goal.invariant-loop-d
invariant-loop-d l = record { len : length l.numbers ≡ 32; same : take l.d l.numbers ≡ take l.d l.r }
