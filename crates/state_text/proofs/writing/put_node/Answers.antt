use Rattle.state_text.proofs.Pieced.{put_node}
use Rattle.state_text.proofs.writing.put_node.Goals as goal

pub returns : goal.returns
returns g c = put_node _ _ _ _ _ _ _ _ _ _ _ _ c.numbers.ensures c.put_numbers_lines.ensures c.put_head.ensures c.put_text.ensures c.put_io.ensures c.put_head-2.ensures c.put_text-2.ensures c.put_sram.ensures c.put_text-3.ensures
