use Rattle.std.proofs.Common.{ℕ, List, ◌∙◌}
use Rattle.node_places.specs.declared.Change.{Change}
use Rattle.node_places.specs.declared.Place.{Place}
use Rattle.fleet_flight.proofs.Quiet.{compared_none}
use Rattle.fleet_flight.proofs.places.compare.Goals as goal

pub compare_sram-requires-clause-count : goal.compare_sram-requires-clause-count
compare_sram-requires-clause-count c =
    let ps : List Place = c.args.places.now in
    let xs : List ℕ = c.args.last.now.items in
    let cs : List Change = c.args.changes.now.items in
    let others = c.in_ok-compare_others.ensures xs cs (compared_none ps xs c.args.begun c.args.cycle c.args.node.now.state cs c.requires.count) in
    others.count

pub compare_begun-requires-clause-count : goal.compare_begun-requires-clause-count
compare_begun-requires-clause-count c =
    let ps : List Place = c.args.places.now in
    let xs : List ℕ = c.args.last.now.items in
    let cs : List Change = c.args.changes.now.items in
    let others = c.in_ok-compare_others.ensures xs cs (compared_none ps xs c.args.begun c.args.cycle c.args.node.now.state cs c.requires.count) in
    let sram = c.in_ok-compare_sram.ensures xs cs others in
    sram.count

pub compare_begun-requires-clause-none : goal.compare_begun-requires-clause-none
compare_begun-requires-clause-none c =
    let ps : List Place = c.args.places.now in
    let xs : List ℕ = c.args.last.now.items in
    let cs : List Change = c.args.changes.now.items in
    let others = c.in_ok-compare_others.ensures xs cs (compared_none ps xs c.args.begun c.args.cycle c.args.node.now.state cs c.requires.count) in
    let sram = c.in_ok-compare_sram.ensures xs cs others in
    λ j f l. sram.left j f ∙ c.requires.none j f l

pub returns-clause-last : goal.returns-clause-last
returns-clause-last c =
    let ps : List Place = c.args.places.now in
    let xs : List ℕ = c.args.last.now.items in
    let cs : List Change = c.args.changes.now.items in
    let others = c.in_ok-compare_others.ensures xs cs (compared_none ps xs c.args.begun c.args.cycle c.args.node.now.state cs c.requires.count) in
    let sram = c.in_ok-compare_sram.ensures xs cs others in
    let all = c.in_ok-compare_begun.ensures xs cs sram in
    record { count = all.count; each = all.done }
