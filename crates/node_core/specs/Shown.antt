-- What the code's node stands for. Its clock is no part of the state.
use Rattle.node_core.specs.declared.machine.Machine.{Machine}
use Rattle.node_core.specs.State.{NodeState}

abbrev pub shown : Machine → NodeState
shown m = record {
  number = m.number;
  flash = m.program.bytes;
  script = m.script;
  from = m.from;
  to = m.to;
  cpu = m.cpu;
  board = m.bus.io.board;
  sram = m.bus.sram;
  wait = m.wait;
  owed = m.owed;
  asleep = m.asleep;
  stop = m.stop;
  count = m.count;
}
