use Rattle.std.proofs.Common.{◌-◌, refl, arith}
use Rattle.std.proofs.lemmas.Bool.{false≢true}
use Rattle.world_core.specs.declared.spans.Span.{Span}
use Rattle.world_core.proofs.Latencies.{apart_more, all_defaults}
use Rattle.world_core.proofs.topo.are_apart.Goals as goal

abbrev no_span : Span
no_span = record { link = 0; from = 0; until = 0 }

pub loop-place-preserved : goal.loop-place-preserved
loop-place-preserved c =
    let i = c.loop-place.invariant in
    let p = c.loop-place.place in
    record {
      first = omega arith;
      kept = apart_more c.args.spans.now c.args.count p c.requires i.first c.loop-place-test.true i.kept (all_defaults c.args.spans.now p no_span i.first c.loop-place-test.true (c.if-not-may_follow.ensures.0 refl));
    }

pub returns-then-not-may_follow : goal.returns-then-not-may_follow
returns-then-not-may_follow c =
    let p = c.loop-place.place in
    let first = c.loop-place.invariant.first in
    ((λ e. absurd (false≢true e)), (λ apart. absurd (false≢true (c.if-not-may_follow.ensures.1 (apart (p - 1) p no_span (omega arith) c.loop-place-test.true)))))

pub returns : goal.returns
returns c = ((λ _. λ i j d before lt. let end = c.loop-place-test.false in c.loop-place.invariant.kept i j d before (omega arith)), (λ _. refl))
