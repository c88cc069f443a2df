use Rattle.std.proofs.Common.{◌≡◌, ◌+◌, [], length, ◌∙◌, ap, arith}
use Rattle.neighbour_sync.specs.Rule.{node_view}
use Rattle.neighbour_sync.proofs.Views.{Seat}
use Rattle.neighbour_sync.proofs.AirSteps.{splits}
use Rattle.neighbour_sync.proofs.Seating.{first_after, next_is, words_are, is_below, view_is, facts_are, seated_more}
use Rattle.neighbour_sync.proofs.open.seat_nodes.Goals as goal

pub split_seat-seat-requires : goal.split_seat-seat-requires
split_seat-seat-requires g c =
    let w = g.W.World.facts c.args.table.now.shared.key.value in
    let view = c.loop-number.invariant.view in
    let n : c.args.nodes ≡ w.topo.nodes = c.requires.laid.nodes_is in
    let made : c.loop-number.first.me.0.made ≡ c.loop-number.number = ap (λ (m : Seat). m.0.made) view in (
      c.loop-number.invariant.table ∙ c.requires.table,
      omega (arith, c.requires.laid.words_is),
      splits w c.loop-number.first.id c.loop-number.first.me.0 (ap (λ (m : Seat). m.0.is_air) view) (omega (arith, c.loop-number-test.true)),
    )

pub of-requires : goal.of-requires
of-requires g c =
    let w = g.W.World.facts c.args.table.now.shared.key.value in
    let z = c.args.table.now.shared.table_id in
    let n = c.loop-number.number in
    let l = c.loop-number.invariant in
    let split = c.split_seat-seat.ensures in
    let new = c.split_seat-seat.result in
    let same = split.3 ∙ l.table ∙ c.requires.table in
    let is : new.me ≡ (node_view w n, []) = next_is w n c.loop-number.first.me c.loop-number.first.me new.me l.view split.4 in
    record {
      words = words_are w z new.table_id c.args.nodes n new.me same c.requires.laid is;
      below = is_below w z new.table_id c.args.nodes n new.me same c.requires.laid is c.loop-number-test.true;
      view = view_is w z new.table_id c.args.nodes n new.me same c.requires.laid is;
    }

pub loop-number-preserved : goal.loop-number-preserved
loop-number-preserved g c =
    let w = g.W.World.facts c.args.table.now.shared.key.value in
    let z = c.args.table.now.shared.table_id in
    let n = c.loop-number.number in
    let l = c.loop-number.invariant in
    let split = c.split_seat-seat.ensures in
    let new = c.split_seat-seat.result in
    let same = split.3 ∙ l.table ∙ c.requires.table in
    let is : new.me ≡ (node_view w n, []) = next_is w n c.loop-number.first.me c.loop-number.first.me new.me l.view split.4 in
    let push = c.push_reserved.ensures in
    let len : length c.loop-number.seats.items ≡ n = omega (arith, l.len) in
    record {
      table = split.0 ∙ l.table;
      view = first_after w n c.loop-number.first.me c.split_seat-seat.new.seat.me new.me l.view split.2;
      len = push.len ∙ ap (λ k. k + 1) l.len;
      room = omega (arith, l.room, push.capacity);
      made = seated_more z w n c.loop-number.seats.items c.push_reserved.new.self.items c.of.result l.made len (facts_are w z new.table_id c.args.nodes n new.me same c.requires.laid is c.of.result c.of.ensures) push.items;
    }
