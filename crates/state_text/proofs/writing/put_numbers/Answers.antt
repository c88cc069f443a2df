use Rattle.std.proofs.Common.{arith, decimal}
use Rattle.state_text.specs.Writing.{spaced}
use Rattle.state_text.proofs.Pieced.{put_flat}
use Rattle.state_text.proofs.writing.put_numbers.Goals as goal

pub loop-n-preserved : goal.loop-n-preserved
loop-n-preserved g c = put_flat (λ n. spaced (decimal n)) c.args.numbers.now c.loop-n.n-index _ _ _ _ (omega arith) c.loop-n.invariant c.put_number.ensures
