use Rattle.std.proofs.Common.{◌≡◌, ◌≤◌, ℕ, false, List, ◌++◌, refl, sym, subst, ◌∙◌, arith}
use Rattle.std.specs.List.{All}
use Rattle.world_core.specs.declared.world.WorldFacts.{WorldFacts}
use Rattle.world_core.specs.Order.{facts_of}
use Rattle.node_runner.specs.Scenario.{fleet_of}
use Rattle.neighbour_sync.specs.Parts.{AreParts}
use Rattle.fleet_threads.specs.declared.member.Member.{Member}
use Rattle.fleet_threads.specs.declared.parts.Parts.{Parts}
use Rattle.fleet_threads.proofs.Nodes.{begun}
use Rattle.fleet_threads.proofs.Epochs.{tied, at_end, tied_taken, all_go_on}
use Rattle.fleet_threads.proofs.run.through.Goals as goal

pub epoch_rows-requires-clause-sound : goal.epoch_rows-requires-clause-sound
epoch_rows-requires-clause-sound g c = c.requires.epoch.sound

pub epoch_rows-requires-clause-end : goal.epoch_rows-requires-clause-end
epoch_rows-requires-clause-end g c = c.requires.epoch.within

pub epoch_rows-requires-clause-floor : goal.epoch_rows-requires-clause-floor
epoch_rows-requires-clause-floor g c = c.requires.more

pub returns-clause-rows : goal.returns-clause-rows
returns-clause-rows g c = c.in_ok-rows.ensures.rows

pub epoch_rows-requires-clause-members : goal.epoch_rows-requires-clause-members
epoch_rows-requires-clause-members g c =
    let back = c.in_session-parts.result in
    let now : Parts = record { clocks = back.clocks; air = c.cut_when_passed.new.air; members = back.members } in
    let cut = c.cut_when_passed.ensures.cut in
    let goes : All (λ m. m.halted ≡ false) back.members.items = subst (λ (l : List Member). All (λ m. m.halted ≡ false) l) c.deref.ensures.value (c.if-any_halted.ensures refl) in
    at_end c.args.epoch.now.scenario.now c.args.epoch.now.floor c.args.epoch.now.end now
    (tied c.args.epoch.now.scenario.now c.args.epoch.now.floor c.args.epoch.now.end c.args.parts now back.air (cut.0 ++ cut.1) c.requires.tied c.in_session-parts.ensures.parts
    c.cut_when_passed.ensures.same.0 c.cut_when_passed.ensures.same.1 c.cut_when_passed.ensures.posted cut.3 c.in_session-parts.ensures.numbers c.in_session-parts.ensures.members goes)

pub returns-clause-tied : goal.returns-clause-tied
returns-clause-tied g c =
    let back = c.in_session-parts.result in
    let now : Parts = record { clocks = back.clocks; air = c.cut_when_passed.new.air; members = back.members } in
    let next : Parts = record { clocks = back.clocks; air = c.cut_when_passed.new.air; members = c.epoch_rows.new.members } in
    let cut = c.cut_when_passed.ensures.cut in
    let goes : All (λ m. m.halted ≡ false) back.members.items = subst (λ (l : List Member). All (λ m. m.halted ≡ false) l) c.deref.ensures.value (c.if-any_halted.ensures refl) in
    tied_taken c.args.epoch.now.scenario.now c.args.epoch.now.floor c.args.epoch.now.end now next
    (tied c.args.epoch.now.scenario.now c.args.epoch.now.floor c.args.epoch.now.end c.args.parts now back.air (cut.0 ++ cut.1) c.requires.tied c.in_session-parts.ensures.parts
    c.cut_when_passed.ensures.same.0 c.cut_when_passed.ensures.same.1 c.cut_when_passed.ensures.posted cut.3 c.in_session-parts.ensures.numbers c.in_session-parts.ensures.members goes) refl refl c.in_ok-rows.ensures.left

pub in_session-parts-requires-clause-parts : goal.in_session-parts-requires-clause-parts
in_session-parts-requires-clause-parts g c κs within =
    subst (λ (n : ℕ). AreParts c.args.parts.air.table (facts_of (fleet_of c.args.epoch.now.scenario.now)) n c.args.parts.clocks c.args.parts.air) (sym c.requires.tied.parts.floor) c.requires.tied.parts

pub in_session-parts-requires-clause-begun : goal.in_session-parts-requires-clause-begun
in_session-parts-requires-clause-begun g c κs within =
    let len = c.len.ensures in
    let room = c.in_ok-waiting.ensures.capacity in
    begun _ _ _ _ _ c.args.parts.members c.in_ok-waiting.waiting (all_go_on c.args.epoch.now.scenario.now c.args.epoch.now.floor c.args.epoch.now.end c.args.parts c.requires.tied c.requires.epoch) c.in_ok-waiting.ensures.len (omega arith)

pub cut_when_passed-requires-clause-table : goal.cut_when_passed-requires-clause-table
cut_when_passed-requires-clause-table g c = c.in_session-parts.ensures.parts.table ∙ sym c.in_session-parts.ensures.parts.words

pub cut_when_passed-requires-clause-rises : goal.cut_when_passed-requires-clause-rises
cut_when_passed-requires-clause-rises g c = let a = c.in_session-parts.ensures.parts.floor in let b = c.requires.tied.parts.floor in let m = c.requires.more in omega arith

pub cut_when_passed-requires-clause-within : goal.cut_when_passed-requires-clause-within
cut_when_passed-requires-clause-within g c = subst (λ (w : WorldFacts). c.args.epoch.now.end ≤ w.topo.limit) (sym c.in_session-parts.ensures.parts.world) c.requires.epoch.within
