use Rattle.state_text.proofs.Pieced.{put_state}
use Rattle.state_text.proofs.writing.put_state.Goals as goal

pub returns : goal.returns
returns g c = put_state _ _ _ _ _ _ _ _ c.put_text.ensures c.put_number.ensures c.put_text-2.ensures c.put_nodes.ensures c.put_sends.ensures c.put_text-3.ensures
