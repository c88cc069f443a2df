-- The topology of a network of nodes, and which topologies there are. Own to this simulator.
use Rattle.std.specs.Prelude.{◌≡◌, ◌≢◌, ℕ, suc, ◌+◌, ◌≤◌, ◌<◌, max, Bool, true, not, ◌&&◌, ◌||◌, ◌==◌, nat_le, nat_lt, if◌then◌else◌, List, [], ◌∷◌, length, take, slice_index_or}
use Rattle.air_base.specs.Bounds.{LAST_CYCLE}
use Rattle.air_base.specs.declared.bounds.TheConstants.{LAST_SHORT_CYCLE, LONGEST_BYTE, LONGEST_LATENCY, MOST_NODES, SHORTEST_BYTE}
use Rattle.std.specs.List.{All, AllPairs, Contains, list_any}
use Rattle.world_core.specs.declared.link_table.Link.{Link}
use Rattle.world_core.specs.declared.spans.Span.{Span}
use Rattle.world_core.specs.declared.spans.TheConstants.{MOST_SPANS}
use Rattle.world_core.specs.declared.faults.TopoFault.{TopoFault}
use Rattle.world_core.specs.declared.faults.TopoFault.TheVariants.{Range, SelfLink, TwiceLinked}
use Rattle.air_base.specs.Each.{each_below}
use Rattle.world_core.specs.FirstFault.{AllKeep, IsFirstFault}

pub record Topology : Type 0 where
  pub nodes : ℕ
  -- a run has the cycles below this one
  pub limit : ℕ
  -- so many cycles after a send its byte is heard first, over a link that has no latency of its own
  pub latency : ℕ
  -- for so many cycles a byte is heard
  pub byte_time : ℕ
  pub links : List Link
  -- each link's own latency, in the order of the links, or nothing
  pub own : List ℕ
  -- when links are open
  pub spans : List Span

abbrev pub topology : ℕ → ℕ → ℕ → ℕ → List Link → List ℕ → List Span → Topology
topology nodes limit latency byte_time links own spans =
    record { nodes = nodes; limit = limit; latency = latency; byte_time = byte_time; links = links; own = own; spans = spans }

-- the span y may stand behind the span x: by link, and within a link apart
abbrev pub IsSpanOrder : Span → Span → Type 0
IsSpanOrder x y = (x.link ≤ y.link) × (x.link ≡ y.link → x.until ≤ y.from)

-- a span of one of so many links, that is not empty and ends by cycle 2^40
abbrev pub IsSpan : ℕ → Span → Type 0
IsSpan links x = (x.link < links) × (x.from < x.until) × (x.until ≤ LAST_CYCLE)

-- the ranges of its numbers
pub record HasRanges (t : Topology) : Type 0 where
  pub nodes_from : 1 ≤ t.nodes
  pub nodes_to : t.nodes ≤ MOST_NODES
  pub limit_from : 1 ≤ t.limit
  pub limit_to : t.limit ≤ LAST_CYCLE
  pub latency_from : 1 ≤ t.latency
  pub latency_to : t.latency ≤ LONGEST_LATENCY
  pub byte_from : SHORTEST_BYTE ≤ t.byte_time
  pub byte_to : t.byte_time ≤ LONGEST_BYTE
  pub ends : All (λ l. (l.from < t.nodes) × (l.to < t.nodes)) t.links
  -- there is no own latency, or one of each link
  pub own_count : 0 < length t.own → length t.own ≡ length t.links
  pub own_in : All (λ n. (1 ≤ n) × (n ≤ LONGEST_LATENCY)) t.own
  pub span_count : length t.spans ≤ MOST_SPANS
  pub spans_in : All (IsSpan (length t.links)) t.spans
  pub spans_apart : AllPairs IsSpanOrder t.spans

-- the bound on the limit of a topology without spans
abbrev pub IsShort : Topology → Type 0
IsShort t = t.limit ≤ LAST_SHORT_CYCLE

-- a link that may stand behind these: it goes to another node, and is none of them
abbrev pub IsNewLink : List Link → Link → Type 0
IsNewLink before l = (l.from ≢ l.to) × (¬ Contains before l)

pub record IsTopology (t : Topology) : Type 0 where
  pub ranges : HasRanges t
  pub links : AllKeep IsNewLink t.links

-- why these links are no topology's
abbrev pub IsLinkFault : List Link → TopoFault → Type 0
IsLinkFault links Range = ⊥
IsLinkFault links (SelfLink p) = IsFirstFault IsNewLink links p × ((d : Link) → (slice_index_or links p d).from ≡ (slice_index_or links p d).to)
IsLinkFault links (TwiceLinked p) = IsFirstFault IsNewLink links p × ((d : Link) → Contains (take p links) (slice_index_or links p d))

-- why this is no topology: a range comes first, and else the first link that is at fault
abbrev pub IsTopoFault : Topology → TopoFault → Type 0
IsTopoFault t Range = ¬ HasRanges t
IsTopoFault t (SelfLink p) = HasRanges t × IsLinkFault t.links (SelfLink p)
IsTopoFault t (TwiceLinked p) = HasRanges t × IsLinkFault t.links (TwiceLinked p)

-- why this is no short topology
abbrev pub IsShortFault : Topology → TopoFault → Type 0
IsShortFault t Range = ¬ (HasRanges t × IsShort t)
IsShortFault t (SelfLink p) = IsShort t × IsTopoFault t (SelfLink p)
IsShortFault t (TwiceLinked p) = IsShort t × IsTopoFault t (TwiceLinked p)

-- a node and a cycle that there are
abbrev pub IsInside : Topology → ℕ → ℕ → Type 0
IsInside t node cycle = (node < t.nodes) × (cycle < t.limit)

-- node `to` hears node `from`
abbrev pub is_linked : Topology → ℕ → ℕ → Bool
is_linked t from to = list_any (λ l. (l.from == from) && (l.to == to)) t.links

-- the numbers of the nodes that node j hears, from the lowest on
abbrev pub neighbours : Topology → ℕ → List ℕ
neighbours t j = each_below t.nodes (λ k. if is_linked t k j then k ∷ [] else [])

-- the place of the link from node k to node j, and where there is none the count of the links
abbrev pub place_in : List Link → ℕ → ℕ → ℕ
place_in [] k j = 0
place_in (l ∷ ls) k j = if (l.from == k) && (l.to == j) then 0 else suc (place_in ls k j)

-- How many cycles a byte takes from node k to node j: the link's own number, else the topology's. Each latency is
-- looked up here.
abbrev pub latency_of : Topology → ℕ → ℕ → ℕ
latency_of t k j = slice_index_or t.own (place_in t.links k j) t.latency

abbrev pub greatest : List ℕ → ℕ → ℕ
greatest [] n = n
greatest (x ∷ xs) n = max x (greatest xs n)

-- the greatest of all latencies
abbrev pub reach : Topology → ℕ
reach t = greatest t.own t.latency

-- one of these spans is of the link at place p
abbrev pub has_span : List Span → ℕ → Bool
has_span xs p = list_any (λ x. x.link == p) xs

-- with these spans the link at place p is open in cycle c: in one of its spans, and always where it has none
abbrev pub is_open_in : List Span → ℕ → ℕ → Bool
is_open_in xs p c = not (has_span xs p) || list_any (λ x. (x.link == p) && (nat_le x.from c && nat_lt c x.until)) xs

-- the link from node k to node j is open in cycle c
abbrev pub is_open : Topology → ℕ → ℕ → ℕ → Bool
is_open t k j c = is_open_in t.spans (place_in t.links k j) c

-- a byte that is sent in cycle c is heard in cycle s, over a latency l and for a byte time d
abbrev pub is_in_time : ℕ → ℕ → ℕ → ℕ → Bool
is_in_time l d s c = nat_le (c + l) s && nat_lt s (c + l + d)

-- With these spans, the link at place p is open in a cycle that is heard in cycle s. It is told by the ends of the
-- spans.
abbrev pub is_reached_in : List Span → ℕ → ℕ → ℕ → ℕ → Bool
is_reached_in xs p l d s = if has_span xs p then list_any (λ x. (x.link == p) && (nat_le (x.from + l) s && nat_lt (s + 1) (x.until + l + d))) xs else nat_le l s

-- node j may hear a byte of node k in cycle s: it is linked, and was open in a cycle that is heard then
abbrev pub is_needed : Topology → ℕ → ℕ → ℕ → Bool
is_needed t k j s = is_linked t k j && is_reached_in t.spans (place_in t.links k j) (latency_of t k j) t.byte_time s

-- what is_needed says: there is a cycle in which the link is open and whose byte is heard in cycle s
pub record IsHearable (t : Topology) (k j s : ℕ) : Type 0 where
  pub linked : is_linked t k j ≡ true
  pub cycle : ℕ
  pub is_open : is_open t k j cycle ≡ true
  pub from : cycle + latency_of t k j ≤ s
  pub until : s < cycle + latency_of t k j + t.byte_time
