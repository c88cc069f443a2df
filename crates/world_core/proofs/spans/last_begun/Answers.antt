use Rattle.std.proofs.Common.{◌<◌, ◌-◌, length, get_or, arith, refl}
use Rattle.std.proofs.lemmas.Bool.{false≢true}
use Rattle.world_core.proofs.Search.{ends, not_yet, always, has_at, no_span, link_all, until_all}
use Rattle.world_core.proofs.spans.last_begun.Goals as goal

pub returns-then-is_before : goal.returns-then-is_before
returns-then-is_before c =
    let xs = c.args.spans.now in
    let n = c.count_begun-count.result in
    let b = c.if-is_before.ensures.0 refl in
    ends xs c.args.place c.args.cycle n c.requires.apart c.requires.spans c.count_begun-count.ensures.bound c.count_begun-count.ensures.point (get_or xs (n - 1) no_span).until b.0 b.2 (λ d. until_all xs (n - 1) no_span d b.1)

pub returns-then-is_of : goal.returns-then-is_of
returns-then-is_of c =
    let xs = c.args.spans.now in
    let n = c.count_begun-count.result in
    let p = c.args.place in
    let b = c.if-is_of.ensures.0 refl in (
      has_at xs p n b.0 b.1,
      not_yet xs p c.args.cycle n c.requires.apart c.requires.spans c.count_begun-count.ensures.bound c.count_begun-count.ensures.point
          (λ d pos l. let lt : n - 1 < length xs = let m = c.count_begun-count.ensures.bound in omega arith in false≢true (c.if-is_before.ensures.1 (pos, lt, λ e. link_all xs (n - 1) p d e lt l))),
    )

pub returns : goal.returns
returns c =
    let xs = c.args.spans.now in
    let n = c.count_begun-count.result in
    let p = c.args.place in
    always xs p c.args.cycle n c.requires.apart c.requires.spans c.count_begun-count.ensures.bound c.count_begun-count.ensures.point
    (λ d pos l. let lt : n - 1 < length xs = let m = c.count_begun-count.ensures.bound in omega arith in false≢true (c.if-is_before.ensures.1 (pos, lt, λ e. link_all xs (n - 1) p d e lt l)))
    (λ d lt l. false≢true (c.if-is_of.ensures.1 (lt, λ e. link_all xs n p d e lt l)))
