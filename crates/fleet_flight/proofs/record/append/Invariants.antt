use Rattle.std.proofs.Common.{◌≡◌, ◌++◌, take}
use Rattle.world_core.specs.Chain.{log_of}
use Rattle.fleet_flight.proofs.record.append.Given as goal

abbrev pub invariant-loop-send : goal.invariant-loop-send
invariant-loop-send l = l.log ≡ log_of (l.fn.log.sends ++ take l.send-index l.sends) l.fn.log.room
