use Rattle.state_text.proofs.Pieced.{put_numbers_lines}
use Rattle.state_text.proofs.writing.put_numbers_lines.Goals as goal

pub returns : goal.returns
returns g c = put_numbers_lines _ _ _ _ _ _ _ _ _ _ c.split_at.ensures.front c.split_at.ensures.back c.split_at-2.ensures.front c.split_at-2.ensures.back c.put_numbers_line.ensures c.put_numbers_line-2.ensures c.put_numbers_line-3.ensures
