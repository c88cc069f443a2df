use Rattle.std.proofs.Common.{◌<◌, arith, length}
use Rattle.sim_io.proofs.Whole.{whole_read}
use Rattle.sim_io.proofs.dir_store.read_whole.Goals as goal

pub returns-else-len-most-clause-whole : goal.returns-else-len-most-clause-whole
returns-else-len-most-clause-whole g c =
    let less : length c.read_to_end.new.buf.items < c.take-front.result.limit = omega (arith, c.read_to_end.new.buf.ok.0, c.read_to_end.new.buf.small) in
    let whole = whole_read (g.F.Read.remaining c.take-front.result.inner) c.take-front.result.limit _ _ c.new-bytes.ensures.items c.in-Ok.ensures.bytes less in
    rw c.take-front.ensures.inner at whole
