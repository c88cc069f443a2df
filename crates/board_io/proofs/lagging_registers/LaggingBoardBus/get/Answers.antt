use Rattle.std.proofs.Common.{refl}
use Rattle.board_io.specs.Table.{rule_of}
use Rattle.board_io.proofs.Agree.{get_err, get_ok, get_past, got_same}
use Rattle.board_io.proofs.lagging_registers.LaggingBoardBus.get.Goals as goal

pub returns-then-at-gt-LAST-clause-err : goal.returns-then-at-gt-LAST-clause-err
returns-then-at-gt-LAST-clause-err c = get_past c.args.self.now c.args.at c.if-at-gt-LAST.true

pub returns-clause-ok : goal.returns-clause-ok
returns-clause-ok c =
    get_ok c.args.self.now c.args.at (rule_of c.args.at) refl c.get_listed.result c.get_listed.new.self c.get_listed.ensures

pub returns-clause-err : goal.returns-clause-err
returns-clause-err c =
    get_err c.args.self.now c.args.at (rule_of c.args.at) refl c.get_listed.result c.get_listed.new.self c.get_listed.ensures

pub returns-clause-same : goal.returns-clause-same
returns-clause-same c = got_same _ c.args.self.now c.get_listed.new.self c.get_listed.result c.get_listed.ensures
