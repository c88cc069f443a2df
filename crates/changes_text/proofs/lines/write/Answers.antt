use Rattle.std.proofs.Common.{◌≡◌, ◌∙◌, arith}
use Rattle.std.proofs.lemmas.Result.{err_from_is_err_and}
use Rattle.sim_io.proofs.Pages.{stands_moved, stands_more, stands_front, stands_all}
use Rattle.changes_text.proofs.Behind.{changes_text-drop, changes_text-drop_all}
use Rattle.changes_text.proofs.lines.write.Goals as goal

pub returns-in_err-make_room-clause-front : goal.returns-in_err-make_room-clause-front
returns-in_err-make_room-clause-front g c =
    let fault = err_from_is_err_and c.from_residual.result c.from_residual.ensures.1 in
    rw (fault.1) (stands_front _ _ _ _ _ _ c.loop-change.invariant.stands c.in_err-make_room.ensures.front)

pub loop-change-preserved : goal.loop-change-preserved
loop-change-preserved g c =
    let moved = stands_moved _ _ _ _ _ _ _ c.loop-change.invariant.stands c.in_ok-make_room.ensures.moved in
    let next = changes_text-drop c.args.changes.now c.loop-change.change-index _ (omega arith) in
    record {
      stands = stands_more _ _ _ _ _ _ _ _ moved next c.put_change.ensures.bytes;
      count = c.in_ok-make_room.ensures.ok ∙ c.loop-change.invariant.count;
    }

pub returns-in-Ok-clause-taken : goal.returns-in-Ok-clause-taken
returns-in-Ok-clause-taken g c =
    let page : c.as_bytes.result.now ≡ c.loop-change.page.bytes = c.as_bytes.ensures.value ∙ c.as_str.ensures.value in
    stands_all _ _ _ _ _ _ c.loop-change.invariant.stands (changes_text-drop_all c.args.changes.now c.loop-change.change-index (omega arith)) (rw page at c.in-Ok.ensures.taken)

pub returns-in-Err-clause-front : goal.returns-in-Err-clause-front
returns-in-Err-clause-front g c =
    let page : c.as_bytes.result.now ≡ c.loop-change.page.bytes = c.as_bytes.ensures.value ∙ c.as_str.ensures.value in
    stands_front _ _ _ _ _ _ c.loop-change.invariant.stands (rw page at c.in-Err.ensures.front)
