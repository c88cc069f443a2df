use Rattle.std.proofs.Common.{arith}
use Rattle.state_text.proofs.Pieced.{put_send}
use Rattle.state_text.proofs.writing.put_send.Goals as goal

pub returns : goal.returns
returns g c = put_send _ _ _ _ _ _ _ (omega arith) (rw c.from.ensures at c.put_head.ensures) c.put_number.ensures c.put_text.ensures c.put_byte.ensures c.put_text-2.ensures
