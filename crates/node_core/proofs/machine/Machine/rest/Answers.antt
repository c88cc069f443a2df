use Rattle.std.proofs.Common.{refl, add-zero, sym, ◌∙◌, arith}
use Rattle.node_core.specs.Shown.{shown}
use Rattle.node_core.proofs.Idling.{only_none, passed_zero}
use Rattle.node_core.proofs.machine.Machine.rest.Goals as goal

pub returns-clause-rested : goal.returns-clause-rested
returns-clause-rested c = record {
  only = only_none c.args.cycle (shown c.args.self.now);
  quiet = λ i l. absurd (omega arith);
  state = passed_zero c.args.cycle (shown c.args.self.now);
  rows = refl;
  same = refl;
  stop = c.requires.going;
  count = refl;
  clock = c.requires.now ∙ sym (add-zero c.args.cycle);
}
