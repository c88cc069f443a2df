use Rattle.board_io.proofs.Agree.{put_clocked, put_err, put_ok, put_past, put_same}
use Rattle.board_io.proofs.clocked.ClockedBoardBus.put.Goals as goal

pub returns-then-at-gt-LAST-clause-err : goal.returns-then-at-gt-LAST-clause-err
returns-then-at-gt-LAST-clause-err c = put_past c.args.self.now c.args.at c.args.b c.if-at-gt-LAST.true

pub returns-clause-ok : goal.returns-clause-ok
returns-clause-ok c =
    put_ok c.args.self.now c.args.at c.listed_rule.result c.listed_rule.ensures c.args.b c.put_by.result _
    (put_clocked c.listed_rule.result c.args.self.now c.args.at c.args.b c.put_by.result c.put_by.new.self c.put_by.ensures)

pub returns-clause-err : goal.returns-clause-err
returns-clause-err c =
    put_err c.args.self.now c.args.at c.listed_rule.result c.listed_rule.ensures c.args.b c.put_by.result _
    (put_clocked c.listed_rule.result c.args.self.now c.args.at c.args.b c.put_by.result c.put_by.new.self c.put_by.ensures)

pub returns-clause-same : goal.returns-clause-same
returns-clause-same c =
    put_same _ c.args.self.now _ c.put_by.result
    (put_clocked c.listed_rule.result c.args.self.now c.args.at c.args.b c.put_by.result c.put_by.new.self c.put_by.ensures)
