use Rattle.std.proofs.Common.{◌≡◌, length, take}
use Rattle.node_core.proofs.restore.registers_of.Given as goal

abbrev pub invariant-loop-d : goal.invariant-loop-d
invariant-loop-d l = record { len : length l.r ≡ 32; same : take l.d l.r ≡ take l.d l.numbers }
