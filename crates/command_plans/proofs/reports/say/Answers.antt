use Rattle.command_plans.proofs.Pieces.{fails_first, fails_second, said_third}
use Rattle.command_plans.proofs.reports.say.Goals as goal

pub returns-in-Ok-write_all : goal.returns-in-Ok-write_all
returns-in-Ok-write_all g c =
    said_third _ _ _ _ _ _ _ _ _ c.as_bytes.result.now c.as_bytes-in-Ok.result.now c.as_bytes-in-Ok-write_all.result.now (cc)
    c.in-Ok.ensures.taken c.in-Ok.ensures.ok c.in-Ok-write_all.ensures.taken c.in-Ok-write_all.ensures.ok c.write_all-in-Ok-write_all.result
    c.write_all-in-Ok-write_all.ensures.taken c.write_all-in-Ok-write_all.ensures.ok c.write_all-in-Ok-write_all.ensures.front c.write_all-in-Ok-write_all.ensures.rose

pub returns-in-Err-write_all : goal.returns-in-Err-write_all
returns-in-Err-write_all g c =
    fails_second _ _ _ _ _ _ _ c.as_bytes.result.now c.as_bytes-in-Ok.result.now c.args.after.now (cc)
    c.in-Ok.ensures.taken c.in-Ok.ensures.ok c.in-Err-write_all.ensures.front c.in-Err-write_all.ensures.rose

pub returns-in-Err : goal.returns-in-Err
returns-in-Err g c =
    fails_first _ _ _ _ _ c.as_bytes.result.now c.args.name.now c.args.after.now (cc) c.in-Err.ensures.front c.in-Err.ensures.rose
