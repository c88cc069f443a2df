-- What is seen at the places of a network that are watched. Own to this simulator.
use Rattle.std.specs.Prelude.{ℕ, ◌+◌, ◌-◌, ◌/◌, ◌%◌, ◌==◌, Bool, false, not, nat_lt, if◌then◌else◌, Option, Some, None, List, [], ◌∷◌, length, slice_index, slice_index_or}
use Rattle.std.specs.List.{filter}
use Rattle.air_base.specs.Each.{each_below}
use Rattle.board_io.specs.Kept.{io_at}
use Rattle.data_space.specs.declared.regions.TheConstants.{SRAM_START}
use Rattle.node_core.specs.Cycle.{begun_at}
use Rattle.node_core.specs.State.{NodeState}
use Rattle.node_core.specs.declared.row.Row.{Row}
use Rattle.node_places.specs.declared.Spot.{Spot}
use Rattle.node_places.specs.declared.Spot.TheVariants as spot
use Rattle.node_places.specs.declared.Place.{Place}
use Rattle.node_places.specs.declared.Seen.{Seen}
use Rattle.node_places.specs.declared.Seen.TheVariants as seen
use Rattle.node_places.specs.declared.Change.{Change}
use Rattle.world_core.specs.Order.{Fleet, node_at}

-- the byte of a node's data space at an address: a register, SP, SREG, one that the board keeps, or one of the SRAM
-- (ATmega128 datasheet, "SRAM Data Memory")
unfoldable pub byte_at : ℕ → NodeState → ℕ
byte_at at s =
    if nat_lt 0xFF at then slice_index s.sram (at - SRAM_START)
    else if nat_lt at 0x20 then slice_index s.cpu.r at
    else if at == 0x5D then s.cpu.sp % 256
    else if at == 0x5E then s.cpu.sp / 256
    else if at == 0x5F then s.cpu.sreg.bits
    else io_at at s.board

-- what of a node is looked at before a cycle, to see what the cycle changes: a byte, and nothing where an instruction is
-- watched
abbrev pub byte_of : Spot → NodeState → ℕ
byte_of (spot.Byte at) s = byte_at at s
byte_of (spot.At at) s = 0

abbrev pub is_at : Option ℕ → ℕ → Bool
is_at None at = false
is_at (Some pc) at = pc == at

abbrev pub seen_if : Bool → ℕ → ℕ → Seen → List Change
seen_if b t k what = if b then record { cycle = t; node = k; seen = what } ∷ [] else []

-- what is seen in cycle t of node k, which the cycle brings to the state u, where the byte was this one and the
-- instruction at this address begins, if one does
abbrev pub seen_from : Spot → ℕ → ℕ → ℕ → Option ℕ → NodeState → List Change
seen_from (spot.Byte at) t k was begun u = seen_if (not (byte_at at u == was)) t k (seen.Byte at (byte_at at u))
seen_from (spot.At at) t k was begun u = seen_if (is_at begun at) t k (seen.At at)

-- what is seen at a place in cycle t, which brings its node from the state s to the state u: the byte, where it is
-- another then; the instruction, where it begins
abbrev pub seen_at : Place → ℕ → NodeState → NodeState → List Change
seen_at p t s u = seen_from p.spot t p.node (byte_of p.spot s) (begun_at s) u

-- some place, where there is none
abbrev pub no_place : Place
no_place = record { node = 0; spot = spot.Byte 0 }

-- at places of one node, in their order
abbrev pub seen_by : List Place → ℕ → NodeState → NodeState → List Change
seen_by ps t s u = each_below (length ps) (λ j. seen_at (slice_index_or ps j no_place) t s u)

-- the places of one node
pub record Group : Type 0 where
  pub node : ℕ
  pub places : List Place

abbrev pub no_group : Group
no_group = record { node = 0; places = [] }

-- what is seen of a group in cycle t of a run
abbrev pub seen_in : Fleet NodeState Row → Group → ℕ → List Change
seen_in f g t = seen_by g.places t (node_at f g.node t) (node_at f g.node (t + 1))

-- what is seen in the cycles from a on and below b: cycle by cycle, node by node, place by place
abbrev pub watched : Fleet NodeState Row → List Group → ℕ → ℕ → List Change
watched f gs a b = each_below (b - a) (λ i. each_below (length gs) (λ g. seen_in f (slice_index_or gs g no_group) (a + i)))

-- the places of node k among these, in their order
abbrev pub places_of : ℕ → List Place → List Place
places_of k ps = filter (λ (p : Place). p.node == k) ps

-- the group of node k, where it has places
abbrev pub group_with : ℕ → List Place → List Group
group_with k [] = []
group_with k (p ∷ ps) = record { node = k; places = p ∷ ps } ∷ []

-- of the first n nodes those that have places among these, in order of number, each with its own
abbrev pub groups_in : ℕ → List Place → List Group
groups_in n ps = each_below n (λ k. group_with k (places_of k ps))

-- ---- changes put in

-- a byte at a data address that was this one, behind what is seen
abbrev pub byte_behind : Seen → ℕ → ℕ → ℕ
byte_behind (seen.Byte address byte) at was = if address == at then byte else was
byte_behind (seen.At address) at was = was

-- and of node k, behind a change
abbrev pub put_one : ℕ → ℕ → Change → ℕ → ℕ
put_one k at c was = if c.node == k then byte_behind c.seen at was else was

-- behind one change after another
unfoldable pub put_in : ℕ → ℕ → List Change → ℕ → ℕ
put_in k at [] was = was
put_in k at (c ∷ cs) was = put_in k at cs (put_one k at c was)
