use Rattle.std.proofs.Common.{ℕ, List, ◌∙◌, arith, length-set}
use Rattle.std.proofs.lemmas.List.{get_or_default}
use Rattle.node_places.specs.declared.Place.{Place}
use Rattle.fleet_flight.proofs.Following.{byte_done, byte_left, one_place}
use Rattle.fleet_flight.proofs.places.compare_each.Goals as goal

pub loop-k-preserved : goal.loop-k-preserved
loop-k-preserved c =
    let i = c.loop-k.invariant in
    let k : ℕ = c.loop-k.k in
    let ps : List Place = c.args.places.now in
    let u = c.args.node.now.state in
    let x : ℕ = c.in_ok-last.field-0 in
    let before = c.loop-k-test.true in
    let within = c.requires.within in
    let count = i.count in
    record {
      count = length-set c.loop-k.last.items k x ∙ count;
      goes = λ xs cs h.
          (let d = i.goes xs cs h in
          record {
            count = length-set c.loop-k.last.items k x ∙ count;
            changes = one_place ps xs c.args.begun c.args.cycle u k _ cs c.loop-k.changes.items c.compare_one.new.changes.items (c.index.ensures ∙ (get_or_default c.loop-k.last.items k c.index.result.now 0 (omega arith) ∙ d.left k (omega arith))) d.changes c.in_ok-last.ensures.seen;
            done = byte_done ps u c.loop-k.last.items k x (omega arith) c.in_ok-last.ensures.byte d.done;
            left = byte_left c.loop-k.last.items xs k x d.left;
          });
    }
