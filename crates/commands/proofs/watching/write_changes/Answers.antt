use Rattle.std.proofs.Common.{◌≡◌, ℕ, ◌+◌, ◌≤◌, min, List, ◌++◌, refl, sym, ap, ◌∙◌, subst, arith}
use Rattle.world_core.specs.Kept.{epoch}
use Rattle.sim_io.specs.Outside.{Rose, TookFront, extended}
use Rattle.sim_io.proofs.Pages.{stands_first, stands_front, stands_more}
use Rattle.changes_text.specs.Line.{changes_text}
use Rattle.fleet_flight.specs.Origin.{Origin, flown}
use Rattle.fleet_flight.specs.Shadows.{IsWatching, groups_of}
use Rattle.fleet_flight.specs.Watched.{Group, watched}
use Rattle.node_places.specs.declared.Change.{Change}
use Rattle.command_plans.specs.Ends.{stream}
use Rattle.commands.proofs.Changing.{front_stands, piece_more, piece_none}
use Rattle.commands.proofs.SweepRuns.{all_taken, piece_taken}
use Rattle.commands.proofs.watching.write_changes.Goals as goal

pub loop-watching-init : goal.loop-watching-init
loop-watching-init g c = record {
  from = refl;
  watching = c.requires.watching;
  within = c.requires.more;
  stands = stands_first _ _ _ _ refl refl;
  count = refl;
}

pub next-requires-clause-end : goal.next-requires-clause-end
next-requires-clause-end g c =
    let e : g.B.Begins.origin c.loop-watching.watching.from ≡ g.B.Begins.origin c.args.watching.from = ap g.B.Begins.origin c.loop-watching.invariant.from in
    subst (λ (o : Origin). c.args.to ≤ o.topo.limit) (sym e) c.requires.end

pub returns-in_default : goal.returns-in_default
returns-in_default g c = (front_stands _ _ _ _ c.loop-watching.invariant.stands, c.loop-watching.invariant.count)

pub returns-in-Err : goal.returns-in-Err
returns-in-Err g c =
    let i = c.loop-watching.invariant in
    let w = c.loop-watching.watching in
    let f = flown (g.B.Begins.origin w.from) in
    let gs : List Group = groups_of w.shadows.items in
    let floor : c.next.new.self.floor ≡ min (w.floor + epoch) c.args.to = c.in-Ok.ensures.floor in
    let up : w.floor ≤ c.next.new.self.floor = (let l = i.within in omega (arith, floor, l)) in
    let low : c.next.new.self.floor ≤ c.args.to = omega (arith, floor) in
    let more = piece_more f gs w.floor c.next.new.self.floor c.args.to up low in
    let piece : changes_text c.as_slice.result.now ≡ changes_text (watched f gs w.floor c.next.new.self.floor) = ap changes_text (c.as_slice.ensures.value ∙ c.in-Ok.ensures.changes) in
    let front = subst (λ (l : List ℕ). TookFront (g.O.Sink.taken c.loop-watching.out) l (g.O.Sink.taken c.write.new.sink)) piece c.in-Err.ensures.front in
    record {
      front = stands_front _ _ _ _ _ _ (stands_more _ _ _ _ _ _ _ _ i.stands more refl) front;
      rose = subst (λ (n : ℕ). Rose n (g.O.Sink.faults c.write.new.sink)) i.count c.in-Err.ensures.rose;
    }

pub loop-watching-preserved : goal.loop-watching-preserved
loop-watching-preserved g c =
    let i = c.loop-watching.invariant in
    let w = c.loop-watching.watching in
    let e = c.in-Ok.ensures in
    let f = flown (g.B.Begins.origin w.from) in
    let gs : List Group = groups_of w.shadows.items in
    let floor : c.next.new.self.floor ≡ min (w.floor + epoch) c.args.to = e.floor in
    let up : w.floor ≤ c.next.new.self.floor = (let l = i.within in omega (arith, floor, l)) in
    let low : c.next.new.self.floor ≤ c.args.to = omega (arith, floor) in
    let after : watched f gs c.next.new.self.floor c.args.to ≡ watched (flown (g.B.Begins.origin c.next.new.self.from)) (groups_of c.next.new.self.shadows.items) c.next.new.self.floor c.args.to =
    (λ k. watched (flown (g.B.Begins.origin (sym e.from k))) (sym e.groups k) c.next.new.self.floor c.args.to) in
    let piece : changes_text c.as_slice.result.now ≡ changes_text (watched f gs w.floor c.next.new.self.floor) = ap changes_text (c.as_slice.ensures.value ∙ e.changes) in
    let more = piece_more f gs w.floor c.next.new.self.floor c.args.to up low ∙ ap (λ (l : List Change). changes_text (watched f gs w.floor c.next.new.self.floor) ++ changes_text l) after in
    record {
      from = e.from ∙ i.from;
      watching = subst (λ (o : Origin). IsWatching o c.next.new.self.floor c.next.new.self.nodes.items c.next.new.self.log.sends c.next.new.self.shadows.items) (ap g.B.Begins.origin (sym e.from)) e.watching;
      within = low;
      stands = piece_taken _ _ _ _ _ (changes_text (watched f gs w.floor c.next.new.self.floor)) _ i.stands more (c.in-Ok-write.ensures.taken ∙ ap (extended (g.O.Sink.taken c.loop-watching.out)) piece);
      count = c.in-Ok-write.ensures.ok ∙ i.count;
    }

pub returns : goal.returns
returns g c =
    let i = c.loop-watching.invariant in
    let w = c.loop-watching.watching in
    let over : w.floor ≡ c.args.to = omega arith in
    let none = piece_none (flown (g.B.Begins.origin w.from)) (groups_of w.shadows.items) w.floor c.args.to over in
    let taken = all_taken _ _ _ _ i.stands none in
    λ k. stream (taken k) (i.count k)
