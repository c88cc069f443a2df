use Rattle.std.proofs.Common.{◌≡◌, ℕ, ◌+◌, ◌-◌, is_some, refl, sym, ap, ◌∙◌, arith}
use Rattle.board_io.specs.Cycle.{timers_leap}
use Rattle.node_core.specs.Inside.{IsCalm}
use Rattle.node_core.specs.Shown.{shown}
use Rattle.node_core.specs.State.{NodeState}
use Rattle.node_core.proofs.Clocks.{calm_of, lines_stay}
use Rattle.node_core.proofs.Idling.{all_quiet, no_rows, only_sleeps, passed_rested, sleeps}
use Rattle.node_core.proofs.machine.Machine.sleep_on.Goals as goal

pub returns-clause-rested : goal.returns-clause-rested
returns-clause-rested c =
    let s : NodeState = shown c.args.self.now in
    let r = c.requires in
    let n = c.leap_up_to.result in
    let within = c.leap_up_to.ensures.within in
    let calm : IsCalm c.args.cycle n s = calm_of c.args.cycle n c.args.self.now r.now c.leap_up_to.ensures.idle (λ i l. c.quiet-calm.ensures.none i (omega (arith, within, l))) in
    let lines = lines_stay c.args.cycle n c.args.self.now r.now c.leap_up_to.ensures.idle in
    let board = c.leap_up_to.ensures.state ∙ ap (λ (t : ℕ). timers_leap t n c.args.self.now.bus.io.board) r.now in
    let wait : s.wait ≡ s.wait - n = omega (arith, r.free) in
    record {
      only = only_sleeps c.args.cycle s (ap is_some r.going) n calm r.asleep (sleeps c.args.cycle n s r.free r.asleep r.none lines);
      quiet = all_quiet c.args.cycle s (ap is_some r.going) n calm (sleeps c.args.cycle n s r.free r.asleep r.none lines);
      state = (λ k. let u : NodeState = record s { wait = wait k; board = board k } in u)
          ∙ sym (passed_rested c.args.cycle s (ap is_some r.going) n calm (sleeps c.args.cycle n s r.free r.asleep r.none lines) n (omega arith));
      rows = no_rows c.args.cycle s (ap is_some r.going) n calm (sleeps c.args.cycle n s r.free r.asleep r.none lines);
      same = refl;
      stop = c.requires.going;
      count = refl;
      clock = c.leap_up_to.ensures.clock ∙ ap (λ (t : ℕ). t + c.leap_up_to.result) c.requires.now;
    }
