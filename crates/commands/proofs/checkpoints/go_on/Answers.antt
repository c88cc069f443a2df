use Rattle.std.proofs.Common.{◌≡◌, ◌+◌, ◌≤◌, min, refl, ap, ◌∙◌, arith}
use Rattle.world_core.specs.Kept.{epoch}
use Rattle.node_runner.specs.Scenario.{ScenarioOf}
use Rattle.state_text.specs.Text.{StateOf}
use Rattle.checkpoint_text.specs.Onward.{SavedAt}
use Rattle.commands.proofs.checkpoints.go_on.Goals as goal

pub loop-saved-init : goal.loop-saved-init
loop-saved-init c =
    let state : StateOf = c.args.saved.now.state in
    let is = c.requires.look.fresh.is in
    let at : c.args.saved.now.floor ≡ state.cycle = ap (λ (a : SavedAt). a.floor) is in
    let from : state.cycle ≤ c.args.end = c.requires.look.from in
    record {
      same = ap (λ (a : SavedAt). a.scenario) is;
      state = refl;
      sound = ap (λ (a : SavedAt). a.failed) is;
      within = omega (arith, at, from);
    }

pub pass-requires-clause-within : goal.pass-requires-clause-within
pass-requires-clause-within c =
    let to = c.requires.look.to in
    let same = ap (λ (s : ScenarioOf). s.topo.limit) c.loop-saved.invariant.same in
    omega (arith, to, same)

pub loop-saved-preserved : goal.loop-saved-preserved
loop-saved-preserved c =
    let after = c.in_ok-pass.ensures.after in
    let floor : c.pass.new.self.floor ≡ min (c.loop-saved.saved.floor + epoch) c.args.end = ap (λ (a : SavedAt). a.floor) after in
    record {
      same = ap (λ (a : SavedAt). a.scenario) after ∙ c.loop-saved.invariant.same;
      state = ap (λ (a : SavedAt). a.state) after ∙ c.loop-saved.invariant.state;
      sound = ap (λ (a : SavedAt). a.failed) after ∙ c.loop-saved.invariant.sound;
      within = omega (arith, floor);
    }

pub returns : goal.returns
returns c =
    let over : c.loop-saved.saved.floor ≡ c.args.end = omega arith in
    λ i. record { scenario = c.loop-saved.invariant.same i; state = c.loop-saved.invariant.state i; floor = over i; failed = c.loop-saved.invariant.sound i }
