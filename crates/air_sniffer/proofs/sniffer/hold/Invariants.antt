use Rattle.std.proofs.Common.{◌≡◌, take}
use Rattle.std.specs.Prelude.{vec_len, vec_capacity}
use Rattle.air_sniffer.proofs.sniffer.hold.Given as goal

abbrev pub invariant-loop-send : goal.invariant-loop-send
invariant-loop-send l = record {
  items : l.held.items ≡ take l.send-index l.rest;
  count : vec_len l.held ≡ l.send-index;
  capacity : vec_capacity l.held ≡ vec_capacity l.fn.held;
}
