use Rattle.std.proofs.Common.{replicate, subst}
use Rattle.world_core.specs.Consistent.{IsConsistent}
use Rattle.neighbour_sync.specs.Record.{AirRecord}
use Rattle.neighbour_sync.specs.Held.{record_of}
use Rattle.neighbour_sync.specs.Shows.{shown}
use Rattle.neighbour_sync.proofs.Shown.{at_floor}
use Rattle.neighbour_sync.proofs.record.Air.samples.Goals as goal

pub returns-clause-consistent : goal.returns-clause-consistent
returns-clause-consistent c =
    let f = c.self.inside in
    subst (λ (r : AirRecord). IsConsistent (shown r (replicate r.world.topo.nodes r.floor))) c.self.view_is (at_floor (record_of f.seat f.floor f.log.sends f.samples.items) c.self.invariant.sound)
