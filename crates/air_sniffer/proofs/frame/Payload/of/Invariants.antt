use Rattle.std.proofs.Common.{◌≡◌, map, take}
use Rattle.arrayvec.specs.ArrayVec.{array_vec_len}
use Rattle.air_base.specs.declared.air.Send.{Send}
use Rattle.air_sniffer.proofs.frame.Payload.of.Given as goal

abbrev pub invariant-loop-send : goal.invariant-loop-send
invariant-loop-send l = record {
  items : l.bytes.items ≡ map (λ (x : Send). x.byte) (take l.send-index l.sends);
  count : array_vec_len l.bytes ≡ l.send-index;
}
