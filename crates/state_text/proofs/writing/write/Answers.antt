use Rattle.std.proofs.Common.{◌≡◌, ◌∙◌}
use Rattle.state_text.proofs.Put.{written_front}
use Rattle.state_text.proofs.writing.write.Goals as goal

pub returns-in-Err-clause-front : goal.returns-in-Err-clause-front
returns-in-Err-clause-front g c =
    let page : c.as_bytes.result.now ≡ c.put_state.new.page.text.bytes = c.as_bytes.ensures.value ∙ c.as_str.ensures.value in
    written_front _ _ _ _ c.new-page.ensures.text c.new-page.ensures.failed c.if-page.false c.put_state.ensures (rw page at c.in-Err.ensures.front)
