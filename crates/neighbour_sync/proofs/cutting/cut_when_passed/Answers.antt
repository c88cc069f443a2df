use Rattle.std.proofs.Common.{◌≤◌, ◌++◌, ◌∷◌, [], sym, subst, ap, ◌∙◌}
use Rattle.world_core.specs.Kept.{IsPostedTo}
use Rattle.neighbour_sync.specs.Loads.{pair_of}
use Rattle.neighbour_sync.specs.Record.{AirRecord}
use Rattle.neighbour_sync.proofs.Telling.{loads_more, cut_last}
use Rattle.neighbour_sync.proofs.cutting.cut_when_passed.Goals as goal

pub cut-requires : goal.cut-requires
cut-requires g c =
    let e = c.loop.invariant.waits.1 in
    record {
      table = ap (λ (r : AirRecord). r.table) e ∙ c.requires.table;
      rises = subst (λ (r : AirRecord). r.floor ≤ c.args.floor) (sym e) c.requires.rises;
      within = subst (λ (r : AirRecord). c.args.floor ≤ r.world.topo.limit) (sym e) c.requires.within;
    }

pub loop-preserved : goal.loop-preserved
loop-preserved g c =
    let before = c.loop.invariant.waits in
    let load = c.in-Err.ensures.load in
    record {
      next = tt;
      finite = tt;
      waits = (before.0 ++ (load.0 ++ pair_of c.in-Err.field-0 ∷ []), loads_more c.args.air.now c.loop.air c.cut.new.self before.0 (load.0 ++ pair_of c.in-Err.field-0 ∷ []) before.1 load.1);
    }

pub returns-in-Ok : goal.returns-in-Ok
returns-in-Ok g c =
    let before = c.loop.invariant.waits in
    let e = before.1 in
    let same = c.cut.ensures.same in
    record {
      same = (same.0 ∙ ap (λ (r : AirRecord). r.table) e, same.1 ∙ ap (λ (r : AirRecord). r.world) e);
      posted = subst (λ (r : AirRecord). IsPostedTo r.world c.args.floor r.sent) e c.in-Ok.ensures.posted;
      cut = cut_last c.args.air.now c.loop.air c.cut.new.self c.args.floor before.0 e c.in-Ok.ensures.cut;
    }
