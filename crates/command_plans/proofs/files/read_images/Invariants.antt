use Rattle.std.proofs.Common.{◌≡◌, ◌≤◌, length}
use Rattle.std.specs.Vec.{vec_capacity}
use Rattle.command_plans.specs.Ends.{reads}
use Rattle.command_plans.proofs.Steps.{Left}
use Rattle.command_plans.proofs.files.read_images.Given as goal

abbrev pub invariant-loop-name : goal.invariant-loop-name
invariant-loop-name g l = record {
  held : g.S.Store.held l.store ≡ g.S.Store.held l.fn.store;
  same : reads (g.S.Store.faults l.store) (g.S.Store.failed l.store) ≡ reads (g.S.Store.faults l.fn.store) (g.S.Store.failed l.fn.store);
  count : length l.images.items ≡ l.name-index;
  room : length l.names ≤ vec_capacity l.images;
  left : Left (g.S.Store.held l.fn.store) l.names l.name-index l.images.items;
}
