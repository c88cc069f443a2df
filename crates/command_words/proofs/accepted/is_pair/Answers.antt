use Rattle.std.proofs.Common.{inl, inr, is_some, sym, ◌∙◌, ap}
use Rattle.command_words.proofs.Accepts.{run_pair, monitor_pair, sniff_pair, check_pair, disasm_pair, asm_pair, make_pair, no_pair, other}
use Rattle.command_words.proofs.accepted.is_pair.Goals as goal

pub returns-in-run : goal.returns-in-run
returns-in-run c =
    let word = c.args.word.now in
    c.is_file.ensures ∙ sym (elim c.in-run.is [
      | inl run ↦ rw run (run_pair word)
      | inr (inl monitor) ↦ rw monitor (monitor_pair word)
      | inr (inr (inl sniff)) ↦ rw sniff (sniff_pair word)
      | inr (inr (inr (inl check))) ↦ rw check (check_pair word)
      | inr (inr (inr (inr (inl disasm)))) ↦ rw disasm (disasm_pair word)
      | inr (inr (inr (inr (inr asm)))) ↦ rw asm (asm_pair word)
    ])

pub returns-in-make : goal.returns-in-make
returns-in-make c = c.is_some.ensures ∙ (ap is_some c.sample.ensures ∙ sym (rw c.in-make.is (make_pair c.args.word.now)))

pub returns-in_default : goal.returns-in_default
returns-in_default c =
    let d = c.in_default in
    sym (no_pair c.args.command.now c.args.word.now (other _ _ d.not-run) (other _ _ d.not-monitor) (other _ _ d.not-sniff) (other _ _ d.not-check) (other _ _ d.not-disasm) (other _ _ d.not-asm) (other _ _ d.not-make))
