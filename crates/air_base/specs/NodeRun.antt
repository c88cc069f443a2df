-- Many cycles of one node by itself: how far a run comes before the node samples, sends or stops. Own to this
-- simulator.
use Rattle.std.specs.Prelude.{◌≡◌, ℕ, zero, suc, ◌+◌, ◌-◌, ◌<◌, ◌≤◌, Bool, true, false, Some, None, List, ◌++◌}
use Rattle.air_base.specs.declared.air.Heard.{Heard}
use Rattle.air_base.specs.Each.{each_below}
use Rattle.air_base.specs.NodeKind.{NodeKind}

-- the state after n cycles from cycle t on, none of which samples
unfoldable pub passed : {S R : Type 0} → NodeKind S R → ℕ → ℕ → S → S
passed m t zero s = s
passed m t (suc n) s = m.begun (t + n) (passed m t n s)

-- the rows of these cycles
abbrev pub passed_rows : {S R : Type 0} → NodeKind S R → ℕ → ℕ → S → List R
passed_rows m t n s = each_below n (λ i. m.begun_rows (t + i) (passed m t i s))

-- cycle t, begun in state s, neither samples nor sends
abbrev pub IsQuiet : {S R : Type 0} → NodeKind S R → ℕ → S → Type 0
IsQuiet m t s = (m.asks t s ≡ false) × (m.sends t s ≡ None)

-- none of n cycles from cycle t on samples or sends
abbrev pub AllQuiet : {S R : Type 0} → NodeKind S R → ℕ → ℕ → S → Type 0
AllQuiet m t n s = (i : ℕ) → i < n → IsQuiet m (t + i) (passed m t i s)

-- A node at the beginning of a cycle, or, where it is asking, at the sample of that cycle.
-- The rows are those made since they were last taken.
pub record Timed (S R : Type 0) : Type 0 where
  pub cycle : ℕ
  pub asking : Bool
  pub state : S
  pub rows : List R

-- from v on the node came through quiet cycles to the beginning of cycle c, in state s and with rows l
pub record Comes {S R : Type 0} (m : NodeKind S R) (v : Timed S R) (c : ℕ) (s : S) (l : List R) : Type 0 where
  pub later : v.cycle ≤ c
  pub quiet : AllQuiet m v.cycle (c - v.cycle) v.state
  pub state : s ≡ passed m v.cycle (c - v.cycle) v.state
  pub rows : l ≡ v.rows ++ passed_rows m v.cycle (c - v.cycle) v.state

-- no cycle from v on and below c was begun by a stopped node
abbrev pub AllRunning : {S R : Type 0} → NodeKind S R → Timed S R → ℕ → Type 0
AllRunning m v c = (i : ℕ) → i < c - v.cycle → m.is_stopped (passed m v.cycle i v.state) ≡ false

-- it came to the beginning of cycle c and stands there
pub record Rests {S R : Type 0} (m : NodeKind S R) (v : Timed S R) (c : ℕ) (new : Timed S R) : Type 0 where
  pub cycle : new.cycle ≡ c
  pub asking : new.asking ≡ false
  pub comes : Comes m v c new.state new.rows

-- it came to the first cycle at whose beginning it is stopped, and stands there
pub record Stops {S R : Type 0} (m : NodeKind S R) (v new : Timed S R) : Type 0 where
  pub rests : Rests m v new.cycle new
  pub stopped : m.is_stopped new.state ≡ true
  pub running : AllRunning m v new.cycle

-- it came to cycle c, which sends b, and has finished it
pub record Sends {S R : Type 0} (m : NodeKind S R) (v : Timed S R) (c b : ℕ) (new : Timed S R) : Type 0 where
  pub state : S
  pub rows : List R
  pub comes : Comes m v c state rows
  pub sends : m.sends c state ≡ Some b
  pub asks : m.asks c state ≡ false
  pub after : new ≡ record { cycle = c + 1; asking = false; state = m.begun c state; rows = rows ++ m.begun_rows c state }

-- it came to cycle c, which samples, and stands at the sample
pub record Asks {S R : Type 0} (m : NodeKind S R) (v : Timed S R) (c : ℕ) (new : Timed S R) : Type 0 where
  pub state : S
  pub rows : List R
  pub comes : Comes m v c state rows
  pub asks : m.asks c state ≡ true
  pub after : new ≡ record { cycle = c; asking = true; state = m.begun c state; rows = rows ++ m.begun_rows c state }

-- the rest of the cycle of a sample that hears h
abbrev pub answered : {S R : Type 0} → NodeKind S R → Timed S R → Heard → Timed S R
answered m v h = record { cycle = v.cycle + 1; asking = false; state = m.finished v.cycle v.state h; rows = v.rows ++ m.finished_rows v.cycle v.state h }
