use Rattle.std.proofs.Common.{sym, arith}
use Rattle.board_io.proofs.Agree.{rule_past}
use Rattle.board_io.proofs.rules.rule_at.Goals as goal

pub returns-then-at-gt-LAST : goal.returns-then-at-gt-LAST
returns-then-at-gt-LAST c = sym (rule_past c.args.at (omega arith))
