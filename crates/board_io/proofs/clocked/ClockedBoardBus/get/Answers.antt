use Rattle.board_io.proofs.Agree.{get_clocked, get_err, get_ok, get_past, got_same}
use Rattle.board_io.proofs.clocked.ClockedBoardBus.get.Goals as goal

pub returns-then-at-gt-LAST-clause-err : goal.returns-then-at-gt-LAST-clause-err
returns-then-at-gt-LAST-clause-err c = get_past c.args.self.now c.args.at c.if-at-gt-LAST.true

pub returns-clause-ok : goal.returns-clause-ok
returns-clause-ok c =
    get_ok c.args.self.now c.args.at c.listed_rule.result c.listed_rule.ensures c.get_by.result _
    (get_clocked c.listed_rule.result c.args.self.now c.args.at c.get_by.result c.get_by.new.self c.get_by.ensures)

pub returns-clause-err : goal.returns-clause-err
returns-clause-err c =
    get_err c.args.self.now c.args.at c.listed_rule.result c.listed_rule.ensures c.get_by.result _
    (get_clocked c.listed_rule.result c.args.self.now c.args.at c.get_by.result c.get_by.new.self c.get_by.ensures)

pub returns-clause-same : goal.returns-clause-same
returns-clause-same c =
    got_same _ c.args.self.now _ c.get_by.result
    (get_clocked c.listed_rule.result c.args.self.now c.args.at c.get_by.result c.get_by.new.self c.get_by.ensures)
