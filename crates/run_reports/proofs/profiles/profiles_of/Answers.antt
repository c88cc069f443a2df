use Rattle.std.proofs.Common.{◌≡◌, ℕ, ◌++◌, List, add-one, length, ap, ◌∙◌, rules}
use Rattle.std.proofs.lemmas.Iterator.Adapters.{YieldsList-from_vec}
use Rattle.std.proofs.lemmas.Iterator.Consumers.{YieldsList-turn, YieldsList-end}
use Rattle.std.proofs.lemmas.List.{length_push}
use Rattle.node_core.specs.declared.row.Row.{Row}
use Rattle.node_monitors.specs.Tally.{TallyOf, untallied}
use Rattle.node_monitors.proofs.Tallies.{all-kept}
use Rattle.node_runner.specs.Scenario.{fleet_of}
use Rattle.world_core.specs.Order.{run_rows}
use Rattle.run_reports.specs.Profiles.{profile_text, window_of}
use Rattle.run_reports.proofs.Runs.{profile_next, profiles_all, tally_fits, tally_told}
use Rattle.run_reports.proofs.TalliesMore.{tallies-length, turn-tally}
use Rattle.run_reports.proofs.profiles.profiles_of.Goals as goal

pub profile-requires : goal.profile-requires
profile-requires c =
    let sc = c.args.network.now in
    let turn = YieldsList-turn (YieldsList-from_vec c.args.all.items (search rules) (search rules)) c.loop-tally.yielded c.loop-tally.tally-iterator c.loop-tally.yielded_by c.next.result c.next.new.self c.in-Some.tally c.in-Some.is c.next.ensures.steps in
    let is = turn-tally sc.topo.nodes (window_of sc) (run_rows (fleet_of sc)) c.args.all.items (length c.loop-tally.yielded) c.in-Some.tally c.requires.taken turn in
    tally_fits sc c.lawful_topo-lawful.ensures.sound (length c.loop-tally.yielded) c.in-Some.tally c.requires.within is

pub loop-tally-preserved : goal.loop-tally-preserved
loop-tally-preserved c =
    let sc = c.args.network.now in
    let k : ℕ = length c.loop-tally.yielded in
    let rows : List Row = run_rows (fleet_of sc) in
    let turn = YieldsList-turn (YieldsList-from_vec c.args.all.items (search rules) (search rules)) c.loop-tally.yielded c.loop-tally.tally-iterator c.loop-tally.yielded_by c.next.result c.next.new.self c.in-Some.tally c.in-Some.is c.next.ensures.steps in
    let is = turn-tally sc.topo.nodes (window_of sc) (run_rows (fleet_of sc)) c.args.all.items (length c.loop-tally.yielded) c.in-Some.tally c.requires.taken turn in
    let number : c.node-node.result ≡ length c.loop-tally.yielded = c.node-node.ensures ∙ ap (λ (t : TallyOf). t.node) is ∙ (all-kept rows (untallied k (window_of sc))).0 in
    let own = tally_told sc c.lawful_topo-lawful.ensures.sound (length c.loop-tally.yielded) c.in-Some.tally c.in_ok-profile.profile c.requires.within is c.in_ok-profile.ensures.at c.in_ok-profile.ensures.entered c.in_ok-profile.ensures.told in
    let long = length_push c.loop-tally.yielded c.in-Some.tally in
    rw (long, add-one)
    (profile_next sc c.lawful_topo-lawful.ensures.sound (length c.loop-tally.yielded) c.in_ok-profile.profile c.loop-tally.text.items _ own c.loop-tally.invariant
    (c.in_ok-put_profile.ensures ∙ ap (λ (n : ℕ). c.loop-tally.text.items ++ profile_text n c.in_ok-profile.profile) number))

pub returns : goal.returns
returns c =
    let sc = c.args.network.now in
    let end = YieldsList-end (YieldsList-from_vec c.args.all.items (search rules) (search rules)) c.loop-tally.yielded c.loop-tally.tally-iterator c.loop-tally.yielded_by c.next.result c.next.new.self c.in-None.is c.next.ensures.steps in
    let count : length c.loop-tally.yielded ≡ sc.topo.nodes = end.1 ∙ ap length c.requires.taken ∙ tallies-length sc.topo.nodes (window_of sc) (run_rows (fleet_of sc)) in
    profiles_all sc c.lawful_topo-lawful.ensures.sound (length c.loop-tally.yielded) c.loop-tally.text.items count c.loop-tally.invariant
