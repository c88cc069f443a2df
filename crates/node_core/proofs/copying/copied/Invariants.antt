use Rattle.std.proofs.Common.{◌≡◌, length, take}
use Rattle.node_core.proofs.copying.copied.Given as goal

abbrev pub invariant-loop-k : goal.invariant-loop-k
invariant-loop-k l = record { len : length l.sram ≡ 4096; same : take l.k l.sram ≡ take l.k l.from }
