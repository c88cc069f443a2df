use Rattle.std.proofs.Common.{refl, arith}
use Rattle.std.proofs.lemmas.Bool.{false≢true}
use Rattle.world_core.proofs.Links.{no_ranges}
use Rattle.world_core.proofs.topo.are_in_range.Goals as goal

pub returns-then-not-are_numbers : goal.returns-then-not-are_numbers
returns-then-not-are_numbers c = no_ranges _ (λ r. false≢true (c.if-not-are_numbers.ensures.1 (r.nodes_from, r.nodes_to, r.limit_from, r.limit_to, r.latency_from, r.latency_to, r.byte_from, r.byte_to)))

pub returns-then-not-are_ends : goal.returns-then-not-are_ends
returns-then-not-are_ends c = no_ranges _ (λ r. false≢true (c.if-not-are_ends.ensures.1 r.ends))

pub returns-then-not-are_enough : goal.returns-then-not-are_enough
returns-then-not-are_enough c = no_ranges _ (λ r. false≢true (c.if-not-are_enough.ensures.1 (λ some. r.own_count some)))

pub returns-then-not-are_latencies : goal.returns-then-not-are_latencies
returns-then-not-are_latencies c = no_ranges _ (λ r. false≢true (c.if-not-are_latencies.ensures.1 r.own_in))

pub returns-then-spans-gt-MOST_SPANS : goal.returns-then-spans-gt-MOST_SPANS
returns-then-spans-gt-MOST_SPANS c = no_ranges _ (λ r. let most = r.span_count in omega (arith, c.if-spans-gt-MOST_SPANS.true))

pub returns-then-not-are_spans : goal.returns-then-not-are_spans
returns-then-not-are_spans c = no_ranges _ (λ r. false≢true (c.if-not-are_spans.ensures.1 r.spans_in))

pub are_apart-requires : goal.are_apart-requires
are_apart-requires c = c.if-not-are_spans.ensures.0 refl

pub returns : goal.returns
returns c = (
  λ apart. let numbers = c.if-not-are_numbers.ensures.0 refl in record {
    nodes_from = numbers.0;
    nodes_to = numbers.1;
    limit_from = numbers.2;
    limit_to = numbers.3;
    latency_from = numbers.4;
    latency_to = numbers.5;
    byte_from = numbers.6;
    byte_to = numbers.7;
    ends = c.if-not-are_ends.ensures.0 refl;
    own_count = λ some. c.if-not-are_enough.ensures.0 refl some;
    own_in = c.if-not-are_latencies.ensures.0 refl;
    span_count = omega (arith, c.if-spans-gt-MOST_SPANS.false);
    spans_in = c.if-not-are_spans.ensures.0 refl;
    spans_apart = c.are_apart.ensures.0 apart;
  },
  λ r. c.are_apart.ensures.1 r.spans_apart,
)
