use Rattle.std.proofs.Common.{◌≤◌, take}
use Rattle.std.specs.List.{All}
use Rattle.node_monitors.specs.Taken.{IsWithin}
use Rattle.node_monitors.proofs.ledger.words_of.Given as goal

abbrev pub invariant-loop-row : goal.invariant-loop-row
invariant-loop-row l = record {
  within : All (λ r. IsWithin l.words r.kind) (take l.row-index l.rows);
  most : l.words ≤ 65536;
}
