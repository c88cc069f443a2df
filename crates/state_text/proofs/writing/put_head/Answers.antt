use Rattle.state_text.proofs.Put.{put_more}
use Rattle.state_text.proofs.writing.put_head.Goals as goal

pub returns : goal.returns
returns g c = put_more _ _ _ _ _ c.put_text.ensures c.put_number.ensures
