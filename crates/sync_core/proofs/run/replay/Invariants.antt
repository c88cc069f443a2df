use Rattle.world_core.specs.Consistent.{IsConsistent}
use Rattle.world_core.specs.Steps.{opening}
use Rattle.sync_core.proofs.Runs.{IsReached}
use Rattle.sync_core.proofs.run.replay.Given as goal

abbrev pub invariant-loop-place : goal.invariant-loop-place
invariant-loop-place l = record { reached : IsReached (opening l.fn.world) l.steps l.place l.core; consistent : IsConsistent l.core }
