use Rattle.std.proofs.Common.{arith}
use Rattle.state_text.specs.Parts.{ended}
use Rattle.state_text.specs.Text.{send_line}
use Rattle.state_text.proofs.Pieced.{put_flat}
use Rattle.state_text.proofs.writing.put_sends.Goals as goal

pub loop-send-preserved : goal.loop-send-preserved
loop-send-preserved g c = put_flat (λ x. ended (send_line x)) c.args.sends.now c.loop-send.send-index _ _ _ _ (omega arith) c.loop-send.invariant c.put_send.ensures
