use Rattle.std.proofs.Common.{◌≡◌, drop}
use Rattle.node_monitors.specs.Taken.{IsTaken}
use Rattle.node_monitors.proofs.ledger.Ledger.of.Given as goal

abbrev pub invariant-loop-place : goal.invariant-loop-place
invariant-loop-place l = record {
  node : l.ledger.node ≡ l.node;
  window : l.ledger.window ≡ l.fn.window;
  words : l.ledger.words ≡ l.words;
  taken : IsTaken (drop l.place l.rows) l.ledger;
}
