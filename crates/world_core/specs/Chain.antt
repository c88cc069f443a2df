-- A list of sends with, for each node, a way back along its own sends. Own to this simulator.
use Rattle.std.specs.Prelude.{◌≡◌, ℕ, zero, suc, ◌<◌, ◌≤◌, ◌==◌, if◌then◌else◌, List, length, slice_index, slice_index_or}
use Rattle.std.specs.List.{All, AllPairs}
use Rattle.air_base.specs.declared.bounds.TheConstants.{MOST_NODES}
use Rattle.air_base.specs.declared.air.Send.{Send}
use Rattle.world_core.specs.declared.ways.JumpPointer.{JumpPointer}

abbrev pub no_send : Send
no_send = record { node = 0; cycle = 0; byte = 0 }

-- the send at this place, counted from 0
abbrev pub send_at : List Send → ℕ → Send
send_at sends i = slice_index_or sends i no_send

abbrev pub way_at : List JumpPointer → ℕ → JumpPointer
way_at ways i = slice_index_or ways i (record { before = 0; far = 0; depth = 0 })

-- 1 + the place of the last send of node k among the first n, and 0 where there is none
abbrev pub newest : List Send → ℕ → ℕ → ℕ
newest sends k zero = 0
newest sends k (suc n) = if (send_at sends n).node == k then suc n else newest sends k n

-- each node's sends rise
abbrev pub Rises : List Send → Type 0
Rises = AllPairs (λ x y. x.node ≡ y.node → x.cycle < y.cycle)

-- each way's far place is an earlier one
abbrev pub AreBack : List JumpPointer → Type 0
AreBack ways = (i : ℕ) → i < length ways → (way_at ways i).far ≤ i

-- for each send, 1 + the place of the send before it of the same node, and an earlier place
pub record IsChain (sends : List Send) (ways : List JumpPointer) : Type 0 where
  pub places : length ways ≡ length sends
  pub back : (i : ℕ) → i < length sends → (way_at ways i).before ≡ newest sends (send_at sends i).node i
  pub fars : AreBack ways

-- a place counted from 1 is 0, or that of a send of node k
abbrev pub IsPlaceOf : List Send → ℕ → ℕ → Type 0
IsPlaceOf sends k place = (i : ℕ) → suc i ≡ place → (send_at sends i).node ≡ k

-- for each node, 1 + the place of its last send
abbrev pub AreNewest : List Send → List ℕ → Type 0
AreNewest sends ends = (k : ℕ) → k < MOST_NODES → slice_index ends k ≡ newest sends k (length sends)

pub record IsLog (sends : List Send) (ways : List JumpPointer) (ends : List ℕ) : Type 0 where
  pub chain : IsChain sends ways
  pub places : AreNewest sends ends
  pub rises : Rises sends
  pub nodes : All (λ x. x.node < MOST_NODES) sends

-- what a log holds: its sends, and how many there is room for
pub record LogFacts : Type 0 where
  pub sends : List Send
  pub room : ℕ

abbrev pub log_of : List Send → ℕ → LogFacts
log_of sends room = record { sends = sends; room = room }

-- the send x may be posted after y
abbrev pub IsAfter : Send → Send → Type 0
IsAfter x y = y.node ≡ x.node → y.cycle < x.cycle
