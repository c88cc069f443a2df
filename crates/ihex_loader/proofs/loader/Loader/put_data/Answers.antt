use Rattle.std.proofs.Common.{◌+◌, get_or, refl, ap, ◌∙◌, arith}
use Rattle.ihex_loader.specs.Image.{last_put, placed}
use Rattle.ihex_loader.proofs.Good.{data_good, other_good}
use Rattle.ihex_loader.proofs.loader.Loader.put_data.Goals as goal

pub returns-then-n-eq0-clause-good : goal.returns-then-n-eq0-clause-good
returns-then-n-eq0-clause-good c = λ before s.
    other_good before _ _ _ _ 0 c.args.offset c.args.bytes.now _ _ s c.requires (λ _. omega arith) refl c.requires

pub returns-clause-good : goal.returns-clause-good
returns-clause-good c = λ before s.
    let old = c.args.self.now in
    data_good before _ _ _ _ _ c.args.offset c.args.bytes.now _ _ s c.requires refl (omega arith) (omega arith) (omega arith)
    c.put.ensures.len
    (λ a. c.put.ensures.each a ∙ ap (λ n. last_put (get_or old.flash.bytes a 0) a (placed (old.base + n) c.args.bytes.now)) c.from-first.ensures)
    (omega arith)
