use Rattle.std.proofs.Common.{◌≡◌, ◌≤◌, ℕ, List, sym, ap, ◌∙◌, subst, arith}
use Rattle.changes_text.specs.Line.{changes_text}
use Rattle.fleet_flight.specs.Shadows.{groups_of}
use Rattle.fleet_flight.specs.Watched.{groups_in, watched}
use Rattle.node_runner.specs.Run.{RunAt}
use Rattle.node_runner.specs.Scenario.{ScenarioOf, fleet_of}
use Rattle.command_plans.specs.Ends.{stream}
use Rattle.command_plans.specs.Parts.{Written}
use Rattle.commands.specs.Texts.{watch_text}
use Rattle.commands.proofs.watching.write_watch.Goals as goal

pub run_up_to-requires-clause-to : goal.run_up_to-requires-clause-to
run_up_to-requires-clause-to g c = let rises = c.requires.rises in let within = c.requires.within in omega (arith, rises, within)

pub write_changes-requires-clause-more : goal.write_changes-requires-clause-more
write_changes-requires-clause-more g c =
    let at : c.in-Ok-watch.watching.floor ≡ c.args.watch.now.from = c.in-Ok-watch.ensures.floor ∙ ap (λ (r : RunAt). r.floor) c.in-Ok-run_up_to.ensures in
    let rises = c.requires.rises in
    omega (arith, at, rises)

pub write_changes-requires-clause-end : goal.write_changes-requires-clause-end
write_changes-requires-clause-end g c = subst (λ (s : ScenarioOf). c.args.watch.now.to ≤ s.topo.limit) (sym c.in-Ok-watch.ensures.scenario) c.requires.within

pub returns-in-Ok-watch : goal.returns-in-Ok-watch
returns-in-Ok-watch g c =
    let e = c.in-Ok-watch.ensures in
    let places : groups_in c.args.network.now.topo.nodes c.deref.result.now ≡ groups_in c.args.network.now.topo.nodes c.args.watch.now.places.items = ap (groups_in c.args.network.now.topo.nodes) c.deref.ensures.value in
    let at : c.in-Ok-watch.watching.floor ≡ c.args.watch.now.from = e.floor ∙ ap (λ (r : RunAt). r.floor) c.in-Ok-run_up_to.ensures in
    let w = c.in-Ok-watch.watching in
    let text : changes_text (watched (fleet_of w.from.scenario.now) (groups_of w.shadows.items) w.floor c.args.watch.now.to) ≡ watch_text c.args.network.now c.args.watch.now.places.items c.args.watch.now.from c.args.watch.now.to =
    (λ i. changes_text (watched (fleet_of (e.scenario i)) ((e.groups ∙ places) i) (at i) c.args.watch.now.to)) in
    subst (λ (l : List ℕ). Written l (stream (g.O.Sink.taken c.args.out.now) (g.O.Sink.faults c.args.out.now)) (stream (g.O.Sink.taken c.write_changes.new.out) (g.O.Sink.faults c.write_changes.new.out)) c.write_changes.result) text c.write_changes.ensures
