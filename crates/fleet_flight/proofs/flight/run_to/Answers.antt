use Rattle.std.proofs.Common.{◌≡◌, ◌+◌, ◌<◌, ◌≤◌, List, [], true, false, sym, subst, arith, rules}
use Rattle.std.specs.List.{All}
use Rattle.std.specs.declared.option.Option.{Option}
use Rattle.std.proofs.lemmas.List.Elements.{All-weaker}
use Rattle.air_base.specs.declared.air.Send.{Send}
use Rattle.air_base.specs.NodeRun.{Timed}
use Rattle.world_core.specs.Topology.{IsInside, Topology, latency_of}
use Rattle.node_core.specs.Cycle.{node_kind}
use Rattle.node_core.specs.State.{NodeState}
use Rattle.node_core.specs.declared.row.Row.{Row}
use Rattle.node_core.proofs.Steady.{steady}
use Rattle.fleet_flight.specs.Origin.{flown}
use Rattle.fleet_flight.specs.Turns.{IsLow, IsTurn, Takes, is_live}
use Rattle.fleet_flight.specs.declared.turns.Turn.{Turn}
use Rattle.fleet_flight.proofs.Flights.{land, take_off, whole}
use Rattle.fleet_flight.proofs.Steps.{can_post, flight_on, here, moves, still_low}
use Rattle.fleet_flight.proofs.flight.run_to.Goals as goal

pub loop-turn-init : goal.loop-turn-init
loop-turn-init g c = record {
  flight = take_off (flown (g.B.Begins.origin c.args.from.now)) c.args.floor c.args.end steady c.args.hold c.args.nodes.now.items c.args.log.now.sends c.requires.paused c.requires.more c.requires.hold;
  turn = search rules;
}

pub advance-requires-clause-live : goal.advance-requires-clause-live
advance-requires-clause-live g c =
    let b = subst (λ (o : Option Turn). IsTurn node_kind c.args.end c.lookahead-ahead.result c.loop-turn.nodes.items o) c.in-Some.is c.loop-turn.invariant.turn in
    subst (λ (v : Timed NodeState Row). is_live node_kind c.args.end v ≡ true) (sym c.index_mut.ensures.value) (b.live c.index_mut.result.now)

pub advance-requires-clause-inside : goal.advance-requires-clause-inside
advance-requires-clause-inside g c =
    let xs : List Send = c.loop-turn.log.sends in
    let t : Topology = (g.B.Begins.origin c.args.from.now).topo in
    let lim = c.requires.end in
    subst (λ (u : Topology). All (λ (x : Send). IsInside u x.node x.cycle) xs) (sym c.topo-topo.ensures.value)
    (All-weaker (λ (x : Send). (x.node < t.nodes) × (x.cycle < c.args.end)) (λ (x : Send). IsInside t x.node x.cycle) (λ x h. (h.0, (let a = h.1 in omega arith))) xs c.loop-turn.invariant.flight.inside)

pub advance-requires-clause-post : goal.advance-requires-clause-post
advance-requires-clause-post g c =
    let f = flown (g.B.Begins.origin c.args.from.now) in
    let vs : List (Timed NodeState Row) = c.loop-turn.nodes.items in
    let t : Turn = c.in-Some.now in
    let v : Timed NodeState Row = c.index_mut.result.now in
    let fl = c.loop-turn.invariant.flight in
    let n = fl.count in
    let b = subst (λ (o : Option Turn). IsTurn node_kind c.args.end c.lookahead-ahead.result vs o) c.in-Some.is c.loop-turn.invariant.turn in
    let live = subst (λ (u : Timed NodeState Row). is_live node_kind c.args.end u ≡ true) (sym c.index_mut.ensures.value) (b.live v) in
    can_post f steady c.args.floor c.args.end c.args.hold vs c.loop-turn.log.sends fl t.number v t.low (let h = b.within in omega arith) c.index_mut.ensures.value live b.low c.topo-topo.ensures.sound.ranges.nodes_to

pub next_turn-turn-requires-clause-low : goal.next_turn-turn-requires-clause-low
next_turn-turn-requires-clause-low g c =
    let f = flown (g.B.Begins.origin c.args.from.now) in
    let vs : List (Timed NodeState Row) = c.loop-turn.nodes.items in
    let t : Turn = c.in-Some.now in
    let v : Timed NodeState Row = c.index_mut.result.now in
    let w : Timed NodeState Row = c.advance.new.node in
    let fl = c.loop-turn.invariant.flight in
    let n = fl.count in
    let b = subst (λ (o : Option Turn). IsTurn node_kind c.args.end c.lookahead-ahead.result vs o) c.in-Some.is c.loop-turn.invariant.turn in
    let l : t.number < f.topo.nodes = (let h = b.within in omega arith) in
    let live = subst (λ (u : Timed NodeState Row). is_live node_kind c.args.end u ≡ true) (sym c.index_mut.ensures.value) (b.live v) in
    let early = (here f steady c.args.floor c.args.end c.args.hold vs c.loop-turn.log.sends fl t.number v t.low l c.index_mut.ensures.value live b.low).1 in
    let moved = moves node_kind c.args.end v w live early c.topo-topo.result.now t.number c.min.result c.loop-turn.log.sends c.advance.new.log.sends c.in_ok-advance.ensures in
    subst (λ (us : List (Timed NodeState Row)). IsLow node_kind c.args.end t.low us) (sym c.deref-in-Some.ensures.value)
    (still_low node_kind c.args.end t.low vs t.number v w b.within c.index_mut.ensures.value live moved.0 b.low)

pub loop-turn-preserved : goal.loop-turn-preserved
loop-turn-preserved g c =
    let f = flown (g.B.Begins.origin c.args.from.now) in
    let vs : List (Timed NodeState Row) = c.loop-turn.nodes.items in
    let t : Turn = c.in-Some.now in
    let v : Timed NodeState Row = c.index_mut.result.now in
    let w : Timed NodeState Row = c.advance.new.node in
    let fl = c.loop-turn.invariant.flight in
    let n = fl.count in
    let own = c.topo-topo.ensures.value in
    let b = subst (λ (o : Option Turn). IsTurn node_kind c.args.end c.lookahead-ahead.result vs o) c.in-Some.is c.loop-turn.invariant.turn in
    let l : t.number < f.topo.nodes = (let h = b.within in omega arith) in
    let live = subst (λ (u : Timed NodeState Row). is_live node_kind c.args.end u ≡ true) (sym c.index_mut.ensures.value) (b.live v) in
    let near = subst (λ (u : Timed NodeState Row). u.cycle < t.low + c.lookahead-ahead.result) (sym c.index_mut.ensures.value) (b.near v) in
    let each = subst (λ (t : Topology). All (λ l. c.lookahead-ahead.result ≤ latency_of t l.from l.to) t.links) own c.lookahead-ahead.ensures.each in
    let drop = c.min.result in
    let least = c.min.ensures in
    let takes = subst (λ (u : Topology). Takes node_kind u t.number drop c.args.end v c.loop-turn.log.sends w c.advance.new.log.sends) own c.in_ok-advance.ensures in
    record {
      flight = flight_on f steady c.args.floor c.args.end c.args.hold vs c.loop-turn.log.sends fl t.number v t.low c.lookahead-ahead.result l c.index_mut.ensures.value live b.low c.lookahead-ahead.ensures.some each near drop (omega (arith, least)) (omega (arith, least)) w c.advance.new.log.sends takes;
      turn = subst (λ (us : List (Timed NodeState Row)). IsTurn node_kind c.args.end c.lookahead-ahead.result us c.next_turn-turn.result) c.deref-in-Some.ensures.value c.next_turn-turn.ensures;
    }

pub returns-clause-paused : goal.returns-clause-paused
returns-clause-paused g c =
    let f = flown (g.B.Begins.origin c.args.from.now) in
    let nobody : Timed NodeState Row = record { cycle = 0; asking = false; state = f.begins 0; rows = [] } in
    let still : All (λ v. is_live node_kind c.args.end v ≡ false) c.loop-turn.nodes.items = search rules in
    land f c.args.floor c.args.end c.args.hold c.loop-turn.nodes.items c.loop-turn.log.sends c.loop-turn.invariant.flight still nobody

pub returns-clause-held : goal.returns-clause-held
returns-clause-held g c =
    let f = flown (g.B.Begins.origin c.args.from.now) in
    let nobody : Timed NodeState Row = record { cycle = 0; asking = false; state = f.begins 0; rows = [] } in
    let still : All (λ v. is_live node_kind c.args.end v ≡ false) c.loop-turn.nodes.items = search rules in
    whole f c.args.floor c.args.end c.args.hold c.loop-turn.nodes.items c.loop-turn.log.sends c.loop-turn.invariant.flight still nobody
