use Rattle.state_text.proofs.Pieced.{put_numbers_line}
use Rattle.state_text.proofs.writing.put_numbers_line.Goals as goal

pub returns : goal.returns
returns g c = put_numbers_line _ _ _ _ _ _ _ c.put_head.ensures c.put_numbers.ensures c.put_text.ensures
