use Rattle.std.proofs.Common.{get_or, take, sym, ap, ◌∙◌, arith}
use Rattle.std.proofs.Math.ListN.{length-set}
use Rattle.ihex_loader.specs.Image.{last_put, placed}
use Rattle.ihex_loader.proofs.Puts.{last_put-set, placed-more}
use Rattle.ihex_loader.proofs.flash.place.Goals as goal

pub loop-i-preserved : goal.loop-i-preserved
loop-i-preserved c = record {
  len = simp length-set c.loop-i.invariant.len;
  each = λ a.
      last_put-set c.loop-i.list.items _ c.args.at c.loop-i.i _ a (placed c.args.at (take c.loop-i.i c.args.bytes.now)) (omega arith) (c.loop-i.invariant.each a)
      ∙ ap (last_put (get_or c.args.list.now.items a 0) a) (sym (placed-more c.args.at c.args.bytes.now c.loop-i.i (omega arith)));
}
