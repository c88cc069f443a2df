use Rattle.std.proofs.Common.{ℕ, ◌+◌, ◌-◌, is_some, refl, sym, ap, ◌∙◌, arith}
use Rattle.board_io.specs.declared.board.Board.{Board}
use Rattle.board_io.specs.Cycle.{timers_leap}
use Rattle.node_core.specs.Inside.{IsCalm}
use Rattle.node_core.specs.Shown.{shown}
use Rattle.node_core.specs.State.{NodeState}
use Rattle.node_core.proofs.Clocks.{calm_of}
use Rattle.node_core.proofs.Idling.{all_quiet, no_rows, only_waits, passed_rested, waits}
use Rattle.node_core.proofs.machine.Machine.wait_out.Goals as goal

pub returns-clause-rested : goal.returns-clause-rested
returns-clause-rested c =
    let s : NodeState = shown c.args.self.now in
    let n = c.leap_up_to-n.result in
    let within = c.leap_up_to-n.ensures.within in
    let calm : IsCalm c.args.cycle n s =
    calm_of c.args.cycle n c.args.self.now c.requires.now c.leap_up_to-n.ensures.idle (λ i l. c.quiet-calm.ensures.none i (omega (arith, within, l))) in
    let board = c.leap_up_to-n.ensures.state ∙ ap (λ (t : ℕ). timers_leap t n c.args.self.now.bus.io.board) c.requires.now in
    record {
      only = only_waits c.args.cycle s (ap is_some c.requires.going) n calm (omega arith);
      quiet = all_quiet c.args.cycle s (ap is_some c.requires.going) n calm (waits c.args.cycle n s (omega arith));
      state = ap (λ (b : Board). let u : NodeState = record s { wait = s.wait - n; board = b } in u) board
          ∙ sym (passed_rested c.args.cycle s (ap is_some c.requires.going) n calm (waits c.args.cycle n s (omega arith)) n (omega arith));
      rows = no_rows c.args.cycle s (ap is_some c.requires.going) n calm (waits c.args.cycle n s (omega arith));
      same = refl;
      stop = c.requires.going;
      count = refl;
      clock = c.leap_up_to-n.ensures.clock ∙ ap (λ (t : ℕ). t + c.leap_up_to-n.result) c.requires.now;
    }
