use Rattle.std.proofs.lemmas.Result.{IfOk-weaker}
use Rattle.run_reports.proofs.Feeding.{text_whole}
use Rattle.commands.proofs.frames.frames_text.Goals as goal

pub feed_run-requires-clause-unfed : goal.feed_run-requires-clause-unfed
feed_run-requires-clause-unfed c =
    c.in_ok-all.ensures

pub returns : goal.returns
returns c =
    IfOk-weaker c.frames_of.result _ _ (λ text e. text_whole c.args.network.now c.feed_run.new.all.items text.items c.in_ok-feed_run.ensures e) c.frames_of.ensures
