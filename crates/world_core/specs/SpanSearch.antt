-- What a search among spans that stand in order answers: the span of a link that has begun last by a cycle.
use Rattle.std.specs.Prelude.{◌≡◌, ℕ, ◌≤◌, ◌<◌, Bool, true, false, ◌&&◌, ◌||◌, ◌==◌, nat_le, nat_lt, List, length, slice_index_or}
use Rattle.std.specs.List.{All}
use Rattle.world_core.specs.declared.spans.Span.{Span}
use Rattle.world_core.specs.declared.spans.LastSpan.{LastSpan}
use Rattle.world_core.specs.declared.spans.LastSpan.TheVariants.{Always, NotYet, Until}
use Rattle.world_core.specs.Topology.{has_span}

-- the span comes before the link at place p, or is one of its spans and has begun by cycle c
abbrev pub begins_by : ℕ → ℕ → Span → Bool
begins_by p c x = nat_lt x.link p || ((x.link == p) && nat_le x.from c)

-- of the spans of the link at place p that have begun by cycle c, the last ends at u
pub record EndsAt (xs : List Span) (p c u : ℕ) : Type 0 where
  pub place : ℕ
  pub lt : place < length xs
  pub link : (d : Span) → (slice_index_or xs place d).link ≡ p
  pub from : (d : Span) → (slice_index_or xs place d).from ≤ c
  pub until : (d : Span) → (slice_index_or xs place d).until ≡ u
  pub most : All (λ x. x.link ≡ p → x.from ≤ c → x.until ≤ u) xs

abbrev pub IsLastBegun : List Span → ℕ → ℕ → LastSpan → Type 0
IsLastBegun xs p c Always = has_span xs p ≡ false
IsLastBegun xs p c NotYet = (has_span xs p ≡ true) × All (λ x. x.link ≡ p → c < x.from) xs
IsLastBegun xs p c (Until u) = EndsAt xs p c u
