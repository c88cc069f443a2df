use Rattle.std.proofs.Common.{◌≡◌, ◌++◌, take}
use Rattle.world_core.specs.Sends.{sends_of}
use Rattle.air_sniffer.proofs.sniffer.joined.Given as goal

abbrev pub invariant-loop-send : goal.invariant-loop-send
invariant-loop-send l = l.line.items ≡ take l.send-index l.held

abbrev pub invariant-loop-send-2 : goal.invariant-loop-send-2
invariant-loop-send-2 l = l.line.items ≡ l.fn.held ++ sends_of l.node (take l.send-index l.sends)
