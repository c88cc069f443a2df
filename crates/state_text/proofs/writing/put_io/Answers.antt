use Rattle.std.proofs.Common.{arith}
use Rattle.hex.specs.Hex.{encode_with}
use Rattle.state_text.proofs.Pieced.{put_hex}
use Rattle.state_text.proofs.Put.{put_none}
use Rattle.state_text.proofs.writing.put_io.Goals as goal

pub loop-place-init : goal.loop-place-init
unfolding encode_with
loop-place-init g c = put_none _

pub loop-place-preserved : goal.loop-place-preserved
loop-place-preserved g c =
    let low = c.loop-place-test.true in
    let size = c.requires.sized.io in
    put_hex _ _ _ _ _ _ (omega (arith, low, size)) c.io.ensures (omega arith) c.loop-place.invariant c.put_byte.ensures
