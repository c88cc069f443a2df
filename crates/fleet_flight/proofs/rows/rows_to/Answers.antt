use Rattle.std.proofs.Common.{◌≡◌, cond, ◌==◌, List, [], ◌++◌, length, ap, ◌∙◌, arith}
use Rattle.air_base.specs.NodeRun.{Timed}
use Rattle.world_core.specs.Topology.{Topology}
use Rattle.node_core.specs.State.{NodeState}
use Rattle.node_core.specs.declared.row.Row.{Row}
use Rattle.fleet_flight.specs.Origin.{Origin}
use Rattle.fleet_flight.specs.Paused.{ends_of}
use Rattle.fleet_flight.proofs.Epoch.{next_paused, next_rows}
use Rattle.fleet_flight.proofs.rows.rows_to.Goals as goal

pub returns-clause-rows : goal.returns-clause-rows
returns-clause-rows g c =
    let o : Origin = g.B.Begins.origin c.args.from.now in
    let vs = c.run_to.new.nodes.items in
    let limit : c.limit-limit.result ≡ o.topo.limit = c.limit-limit.ensures.value ∙ ap (λ (t : Topology). t.limit) c.topo.ensures.value in
    let last : (d : Timed NodeState Row) → c.in_ok-last.last.items ≡ cond (c.args.end == o.topo.limit) (ends_of o.topo.limit (length vs) vs d) [] =
    λ d. c.in_ok-last.ensures d ∙ (λ j. cond (c.args.end == limit j) (ends_of (limit j) (length (c.deref.ensures.value j)) (c.deref.ensures.value j) d) []) in
    next_rows o c.args.floor c.args.end vs c.run_to.new.log.sends c.in_ok-run_to.ensures.paused c.in_ok-rows.rows.items c.sort.new.rows.items c.in_ok-last.last.items c.extend_from_slice.new.self.items c.in_ok-rows.ensures.rows
    (let m = c.requires.more in let e = c.requires.end in omega arith) c.in_ok-sort.ensures.sorted c.in_ok-sort.ensures.stable
    last (c.in_ok-extend_from_slice.ensures.items ∙ ap (λ (l : List Row). c.sort.new.rows.items ++ l) c.deref-2.ensures.value)

pub returns-clause-paused : goal.returns-clause-paused
returns-clause-paused g c =
    next_paused (g.B.Begins.origin c.args.from.now) c.args.floor c.args.end c.run_to.new.nodes.items c.run_to.new.log.sends c.in_ok-run_to.ensures.paused _ c.in_ok-rows.ensures.taken
