use Rattle.std.proofs.Common.{inl, inr, is_some, refl, sym, ap}
use Rattle.command_words.proofs.Accepts.{node_triple, run_triple, head_triple, save_triple, resume_triple, look_triple, no_triple, other}
use Rattle.command_words.proofs.accepted.is_triple.Goals as goal

pub returns-in-node : goal.returns-in-node
returns-in-node c =
    rw (c.in-node.is, node_triple c.args.first.now c.args.second.now, sym c.is_file.ensures, ap is_some (sym c.cycles.ensures.value), sym c.is_some.ensures) refl

pub returns-in_default : goal.returns-in_default
returns-in_default c =
    let d = c.in_default in
    sym (no_triple c.args.command.now c.args.first.now c.args.second.now (other _ _ d.not-node) (other _ _ d.not-run) (other _ _ d.not-head) (other _ _ d.not-save) (other _ _ d.not-resume) (other _ _ d.not-look))

pub returns-in-run : goal.returns-in-run
returns-in-run c =
    rw (c.in-run.is, run_triple c.args.first.now c.args.second.now, sym c.eq.ensures, sym c.is_file-in-run.ensures) refl

pub returns-in-head : goal.returns-in-head
returns-in-head c = elim c.in-head.is [
  | inl head ↦ rw (head, head_triple c.args.first.now c.args.second.now, sym c.is_file-in-head.ensures, ap is_some (sym c.epochs.ensures), sym c.is_some-in-head.ensures) refl
  | inr save ↦ rw (save, save_triple c.args.first.now c.args.second.now, sym c.is_file-in-head.ensures, ap is_some (sym c.epochs.ensures), sym c.is_some-in-head.ensures) refl
]

pub returns-in-look : goal.returns-in-look
returns-in-look c =
    rw (c.in-look.is, look_triple c.args.first.now c.args.second.now, sym c.is_file-in-look.ensures, ap is_some (sym c.bound.ensures.value), sym c.is_some-in-look.ensures) refl

pub returns-in-resume : goal.returns-in-resume
returns-in-resume c =
    rw (c.in-resume.is, resume_triple c.args.first.now c.args.second.now, sym c.is_file-in-resume.ensures, sym c.is_file-in-resume-2.ensures) refl
