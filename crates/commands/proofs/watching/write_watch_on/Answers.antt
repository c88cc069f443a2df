use Rattle.std.proofs.Common.{◌≡◌, ◌≤◌, ℕ, List, refl, sym, ap, ◌∙◌, subst, arith}
use Rattle.changes_text.specs.Line.{changes_text}
use Rattle.checkpoint_text.specs.Onward.{SavedAt, onward}
use Rattle.fleet_flight.specs.Shadows.{groups_of}
use Rattle.fleet_flight.specs.Watched.{groups_in, watched}
use Rattle.node_runner.specs.Scenario.{ScenarioOf}
use Rattle.state_text.specs.Text.{StateOf}
use Rattle.command_plans.specs.Ends.{stream}
use Rattle.command_plans.specs.Parts.{Written}
use Rattle.commands.proofs.SweepRuns.{look_on_begun}
use Rattle.commands.specs.Texts.{watch_on_text}
use Rattle.commands.proofs.watching.write_watch_on.Goals as goal

pub go_on-requires : goal.go_on-requires
go_on-requires g c = record { look = look_on_begun c.args.network.now c.args.state.now c.in-Ok.saved c.args.watch.now c.in-Ok.ensures c.requires }

pub write_changes-requires-clause-more : goal.write_changes-requires-clause-more
write_changes-requires-clause-more g c =
    let at : c.in-Ok-watch.watching.floor ≡ c.args.watch.now.from = c.in-Ok-watch.ensures.floor ∙ ap (λ (a : SavedAt). a.floor) c.in-Ok-go_on.ensures in
    let rises = c.requires.watch.rises in
    omega (arith, at, rises)

pub write_changes-requires-clause-end : goal.write_changes-requires-clause-end
write_changes-requires-clause-end g c = subst (λ (s : ScenarioOf). c.args.watch.now.to ≤ s.topo.limit) (sym c.in-Ok-watch.ensures.scenario) c.requires.watch.within

pub returns-in-Ok-watch : goal.returns-in-Ok-watch
returns-in-Ok-watch g c =
    let e = c.in-Ok-watch.ensures in
    let places : groups_in c.args.network.now.topo.nodes c.deref.result.now ≡ groups_in c.args.network.now.topo.nodes c.args.watch.now.places.items = ap (groups_in c.args.network.now.topo.nodes) c.deref.ensures.value in
    let at : c.in-Ok-watch.watching.floor ≡ c.args.watch.now.from = e.floor ∙ ap (λ (a : SavedAt). a.floor) c.in-Ok-go_on.ensures in
    let state : c.in-Ok-watch.watching.from.state.value ≡ c.args.state.now =
    e.state ∙ (ap (λ (a : SavedAt). a.state) c.in-Ok-go_on.ensures ∙ ap (λ (a : SavedAt). a.state) c.in-Ok.ensures) in
    let w = c.in-Ok-watch.watching in
    let text : changes_text (watched (onward w.from.scenario.now w.from.state.value) (groups_of w.shadows.items) w.floor c.args.watch.now.to) ≡ watch_on_text c.args.network.now c.args.state.now c.args.watch.now.places.items c.args.watch.now.from c.args.watch.now.to =
    (λ i. changes_text (watched (onward (e.scenario i) (state i)) ((e.groups ∙ places) i) (at i) c.args.watch.now.to)) in
    subst (λ (l : List ℕ). Written l (stream (g.O.Sink.taken c.args.out.now) (g.O.Sink.faults c.args.out.now)) (stream (g.O.Sink.taken c.write_changes.new.out) (g.O.Sink.faults c.write_changes.new.out)) c.write_changes.result) text c.write_changes.ensures
