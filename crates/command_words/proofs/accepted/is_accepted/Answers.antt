use Rattle.std.proofs.Common.{sym}
use Rattle.command_words.proofs.Accepts.{too_few, too_many}
use Rattle.command_words.proofs.accepted.is_accepted.Goals as goal

pub returns-in_default : goal.returns-in_default
returns-in_default c = sym (too_few (λ w. w.now) c.args.words.now c.in_default.len_below)

pub returns-in_default-2 : goal.returns-in_default-2
returns-in_default-2 c = sym (too_many (λ w. w.now) c.args.words.now c.in_default.len_at_least)
