use Rattle.std.proofs.Common.{inl, inr, is_some, refl, sym, ap}
use Rattle.command_words.proofs.Accepts.{head_on, save_on, look_on, monitor_span, sweep_files, no_quadruple, other}
use Rattle.command_words.proofs.accepted.is_quadruple.Goals as goal

pub returns-in-head : goal.returns-in-head
returns-in-head c = elim c.in-head.is [
  | inl head ↦ rw (head, head_on c.args.first.now c.args.second.now c.args.third.now, sym c.is_file.ensures, sym c.is_file-in-head.ensures, ap is_some (sym c.epochs.ensures), sym c.is_some.ensures) refl
  | inr save ↦ rw (save, save_on c.args.first.now c.args.second.now c.args.third.now, sym c.is_file.ensures, sym c.is_file-in-head.ensures, ap is_some (sym c.epochs.ensures), sym c.is_some.ensures) refl
]

pub returns-in-monitor : goal.returns-in-monitor
returns-in-monitor c =
    rw (c.in-monitor.is, monitor_span c.args.first.now c.args.second.now c.args.third.now, sym c.is_file-in-monitor.ensures, ap is_some (sym c.span.ensures), sym c.is_some-in-monitor.ensures) refl

pub returns-in-sweep : goal.returns-in-sweep
returns-in-sweep c =
    rw (c.in-sweep.is, sweep_files c.args.first.now c.args.second.now c.args.third.now, sym c.is_file-in-sweep.ensures, sym c.is_file-in-sweep-2.ensures, sym c.is_file-in-sweep-3.ensures) refl

pub returns-in-look : goal.returns-in-look
returns-in-look c =
    rw (c.in-look.is, look_on c.args.first.now c.args.second.now c.args.third.now, sym c.is_file-in-look.ensures, sym c.is_file-in-look-2.ensures, ap is_some (sym c.bound.ensures.value), sym c.is_some-in-look.ensures) refl

pub returns-in_default : goal.returns-in_default
returns-in_default c =
    let d = c.in_default in
    sym (no_quadruple c.args.command.now c.args.first.now c.args.second.now c.args.third.now (other _ _ d.not-head) (other _ _ d.not-save) (other _ _ d.not-monitor) (other _ _ d.not-sweep) (other _ _ d.not-look))
