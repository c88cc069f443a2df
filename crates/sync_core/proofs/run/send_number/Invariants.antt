use Rattle.std.proofs.Common.{◌≡◌, ◌+◌, length, take}
use Rattle.world_core.specs.Sends.{sends_of}
use Rattle.sync_core.proofs.run.send_number.Given as goal

abbrev pub invariant-loop-send : goal.invariant-loop-send
invariant-loop-send l = l.number ≡ l.left + length (sends_of l.node (take l.send-index l.send-items))
