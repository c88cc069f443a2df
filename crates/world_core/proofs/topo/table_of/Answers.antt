use Rattle.std.proofs.Common.{sym, ◌∙◌, arith}
use Rattle.world_core.specs.declared.link_table.Link.{Link}
use Rattle.world_core.proofs.Links.{itself_at, twice_at, new_at, table_at, place_fits}
use Rattle.world_core.proofs.topo.table_of.Goals as goal

abbrev no_link : Link
no_link = record { from = 0; to = 0 }

pub returns-then-link : goal.returns-then-link
returns-then-link c = itself_at c.args.links.now c.loop-place.place c.loop-place.table.rows c.loop-place-test.true c.loop-place.invariant.kept c.loop-place.invariant.table no_link c.if-link.true

pub entry-requires : goal.entry-requires
entry-requires c = c.requires c.loop-place.place no_link c.loop-place-test.true

pub add-requires-clause-ends : goal.add-requires-clause-ends
add-requires-clause-ends c = c.requires c.loop-place.place no_link c.loop-place-test.true

pub add-requires-clause-free : goal.add-requires-clause-free
add-requires-clause-free c = sym c.entry.ensures.value ∙ c.if-entry-ne0.false

pub returns-then-entry-ne0 : goal.returns-then-entry-ne0
returns-then-entry-ne0 c =
    let links = c.args.links.now in
    let p = c.loop-place.place in
    let ends = c.requires p no_link c.loop-place-test.true in
    twice_at links p c.loop-place.table.rows c.loop-place-test.true c.loop-place.invariant.kept c.loop-place.invariant.table no_link ends.0 ends.1 (λ z. c.if-entry-ne0.true (c.entry.ensures.value ∙ z))

pub overflow_cast-place : goal.overflow_cast-place
overflow_cast-place c =
    let links = c.args.links.now in
    let p = c.loop-place.place in
    let ends = c.requires p no_link c.loop-place-test.true in
    let fits = place_fits links p c.loop-place.table.rows c.loop-place-test.true c.loop-place.invariant.kept c.loop-place.invariant.table no_link ends.0 ends.1 c.entry.ensures.size (sym c.entry.ensures.value ∙ c.if-entry-ne0.false) in
    omega arith

pub add-requires-clause-place : goal.add-requires-clause-place
add-requires-clause-place c =
    let links = c.args.links.now in
    let p = c.loop-place.place in
    let ends = c.requires p no_link c.loop-place-test.true in
    let fits = place_fits links p c.loop-place.table.rows c.loop-place-test.true c.loop-place.invariant.kept c.loop-place.invariant.table no_link ends.0 ends.1 c.entry.ensures.size (sym c.entry.ensures.value ∙ c.if-entry-ne0.false) in
    omega arith

pub loop-place-preserved : goal.loop-place-preserved
loop-place-preserved c =
    let links = c.args.links.now in
    let p = c.loop-place.place in
    let rows = c.loop-place.table.rows in
    let lt = c.loop-place-test.true in
    let i = c.loop-place.invariant in
    let ends = c.requires p no_link lt in
    let free = sym c.entry.ensures.value ∙ c.if-entry-ne0.false in
    record {
      kept = new_at links p rows lt i.kept i.table no_link ends.0 ends.1 c.if-link.false free;
      table = table_at links p rows lt i.kept i.table no_link c.add.new.self.rows ends.0 ends.1 free c.add.ensures.entries c.add.ensures.filled;
    }
