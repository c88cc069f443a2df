use Rattle.std.proofs.Common.{ℕ, ◌<◌}
use Rattle.sync_core.specs.Sampling.{IsBehind}
use Rattle.sync_core.proofs.behind.first_behind.Given as goal

abbrev pub invariant-loop-other : goal.invariant-loop-other
invariant-loop-other l = (m : ℕ) → m < l.other → ¬ IsBehind l.topo l.clocks l.node l.cycle m
