use Rattle.std.proofs.Common.{◌≡◌, inl, inr, ⊎_elim, ℕ, ◌-◌, ◌≤◌, true, false, is_some, List, sym, subst, ap, ◌∙◌, arith}
use Rattle.std.proofs.lemmas.Bool.{false≢true}
use Rattle.node_places.specs.declared.Change.{Change}
use Rattle.fleet_flight.specs.Shadows.{Goes, ear_of}
use Rattle.fleet_flight.specs.declared.shadow.Shadow.{Shadow}
use Rattle.fleet_flight.proofs.Following.{follow_goes, goes_none, goes_stopped}
use Rattle.fleet_flight.proofs.shadow.follow.Goals as goal

pub loop-shadow-init : goal.loop-shadow-init
loop-shadow-init c =
    let v : Shadow = c.args.shadow.now in
    let cs : List Change = c.args.changes.now.items in
    let h = ear_of c.args.topo.now c.args.log.now.sends v.number in
    let has = c.requires.has.within in
    let more = c.requires.more in
    let e : v.node.cycle - c.args.floor ≡ 0 = omega arith in
    record {
      goes = subst (λ (n : ℕ). Goes h c.args.floor n v cs v cs) (sym e) (goes_none h c.args.floor v cs);
      shadow = c.requires.shadow;
      within = omega arith;
      over = ⊎_elim (λ (stop : is_some v.node.state.stop ≡ true). inl stop) (λ (at : v.node.cycle ≡ c.args.floor). inr (omega arith)) c.requires.has.over;
    }

pub loop-shadow-preserved : goal.loop-shadow-preserved
loop-shadow-preserved c =
    let i = c.loop-shadow.invariant in
    let v : Shadow = c.loop-shadow.shadow in
    let w : Shadow = c.turn.new.shadow in
    let e = c.in_ok-turn.ensures in
    let runs : is_some v.node.state.stop ≡ false = ap is_some (sym c.stopped.ensures) ∙ (sym c.is_some.ensures ∙ c.if-is_some.false) in
    let from : c.args.floor ≤ v.node.cycle = ⊎_elim (λ (stop : is_some v.node.state.stop ≡ true). absurd (false≢true (sym runs ∙ stop))) (λ (le : c.args.floor ≤ v.node.cycle). le) i.over in
    let moves = e.moves in
    let mine = subst (λ (k : ℕ). Goes (ear_of c.args.topo.now c.args.log.now.sends k) v.node.cycle (w.node.cycle - v.node.cycle) v c.loop-shadow.changes.items w c.turn.new.changes.items) i.goes.number e.goes in
    record {
      goes = follow_goes (ear_of c.args.topo.now c.args.log.now.sends c.args.shadow.now.number) c.args.floor c.args.shadow.now v w c.args.changes.now.items c.loop-shadow.changes.items c.turn.new.changes.items i.goes from (omega arith) mine;
      shadow = e.shadow;
      within = e.within;
      over = inr (omega arith);
    }

pub returns-then-is_some-clause-goes : goal.returns-then-is_some-clause-goes
returns-then-is_some-clause-goes c =
    let i = c.loop-shadow.invariant in
    let within = i.within in
    let stop : is_some c.loop-shadow.shadow.node.state.stop ≡ true = ap is_some (sym c.stopped.ensures) ∙ (sym c.is_some.ensures ∙ c.if-is_some.true) in
    goes_stopped (ear_of c.args.topo.now c.args.log.now.sends c.args.shadow.now.number) c.args.floor (c.loop-shadow.shadow.node.cycle - c.args.floor) (c.args.end - c.args.floor) c.args.shadow.now c.loop-shadow.shadow c.args.changes.now.items c.loop-shadow.changes.items i.goes stop (omega arith)
