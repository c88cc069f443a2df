-- A kind of node: what one cycle does to a node, as far as the air and the order of all nodes ask. Own to this
-- simulator.
use Rattle.std.specs.Prelude.{◌≡◌, ℕ, ◌+◌, ◌≤◌, Bool, true, false, if◌then◌else◌, Option, Some, None, List, [], ◌++◌}
use Rattle.std.specs.List.{All}
use Rattle.air_base.specs.declared.air.Heard.{Heard}

-- A node is in a state of S, and makes rows of R. What it hears enters a cycle at its sample alone: a cycle begins (up
-- to its sample, or whole where it samples nothing) and then, where it samples, is finished with what was heard.
pub record NodeKind (S R : Type 0) : Type 0 where
  -- cycle t, begun in this state, samples the air
  pub asks : ℕ → S → Bool
  -- cycle t, begun in this state, sends this byte
  pub sends : ℕ → S → Option ℕ
  -- the state after cycle t, or at its sample
  pub begun : ℕ → S → S
  -- the rows made till then
  pub begun_rows : ℕ → S → List R
  -- the state after cycle t, from the state at its sample
  pub finished : ℕ → S → Heard → S
  -- the rows made from the sample on
  pub finished_rows : ℕ → S → Heard → List R
  -- the node has stopped for good
  pub is_stopped : S → Bool
  -- the cycle that a row bears
  pub row_cycle : R → ℕ
  -- the last row of a run up to a cycle
  pub end_row : ℕ → S → R

-- the state after the whole cycle t, where h is what a sample in it hears
abbrev pub ticked : {S R : Type 0} → NodeKind S R → ℕ → S → Heard → S
ticked m t s h = if m.asks t s then m.finished t (m.begun t s) h else m.begun t s

-- the rows of the whole cycle
abbrev pub ticked_rows : {S R : Type 0} → NodeKind S R → ℕ → S → Heard → List R
ticked_rows m t s h = m.begun_rows t s ++ (if m.asks t s then m.finished_rows t (m.begun t s) h else [])

-- what the order of all nodes asks of a kind of node, of every state
pub record IsSteady {S R : Type 0} (m : NodeKind S R) : Type 0 where
  -- a stopped node does nothing more
  pub stays : (t : ℕ) (s : S) → m.is_stopped s ≡ true → m.begun t s ≡ s
  pub mute : (t : ℕ) (s : S) → m.is_stopped s ≡ true → m.begun_rows t s ≡ []
  pub deaf : (t : ℕ) (s : S) → m.is_stopped s ≡ true → m.asks t s ≡ false
  pub silent : (t : ℕ) (s : S) → m.is_stopped s ≡ true → m.sends t s ≡ None
  -- a cycle that samples sends nothing
  pub apart : (t : ℕ) (s : S) → m.asks t s ≡ true → m.sends t s ≡ None
  -- the rows of a cycle bear its number
  pub begun_rows : (t : ℕ) (s : S) → All (λ r. m.row_cycle r ≡ t) (m.begun_rows t s)
  pub finished_rows : (t : ℕ) (s : S) (h : Heard) → All (λ r. m.row_cycle r ≡ t) (m.finished_rows t s h)
  -- two sends lie apart: `free` is the first cycle in which the node may send again, `gap` the byte time that it was
  -- made with
  pub free : S → ℕ
  pub gap : S → ℕ
  pub gap_begun : (t : ℕ) (s : S) → gap (m.begun t s) ≡ gap s
  pub gap_finished : (t : ℕ) (s : S) (h : Heard) → gap (m.finished t s h) ≡ gap s
  pub free_begun : (t : ℕ) (s : S) → free s ≤ free (m.begun t s)
  pub free_finished : (t : ℕ) (s : S) (h : Heard) → free s ≤ free (m.finished t s h)
  pub sends_free : (t b : ℕ) (s : S) → m.sends t s ≡ Some b → free s ≤ t
  pub sends_next : (t b : ℕ) (s : S) → m.sends t s ≡ Some b → t + gap s ≤ free (m.begun t s)
