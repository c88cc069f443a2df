-- What the sums over the first rows are the sums of. Own to this simulator.
use Rattle.std.specs.Prelude.{◌≡◌, ℕ, ◌+◌, ◌-◌, ◌<◌, ◌≤◌, Bool, false, not, if◌then◌else◌, Option, List, max, slice_index_or}
use Rattle.std.specs.List.{All}
use Rattle.node_core.specs.declared.row.Row.{Row}
use Rattle.node_core.specs.declared.row.Kind.{Kind}
use Rattle.node_monitors.specs.declared.spent.Spent.{Spent}
use Rattle.node_monitors.specs.Account.{at_word, at_vector, bytes_sent, lead}
use Rattle.node_monitors.specs.Owner.{owned, owner, passes, takes_over, is_asleep, is_stopped, is_instr, is_entry}
use Rattle.node_monitors.specs.Spent.{cycles_in, unused}
use Rattle.node_monitors.specs.Taken.{IsQuiet}
use Rattle.node_monitors.specs.Tally.{TallyOf}

-- the cycles of the window that are shared out
abbrev pub shared_out : TallyOf → ℕ × ℕ
shared_out t = (t.window.0, t.done)

-- the table with the last row
abbrev pub with_last : (Kind → Bool) → Option Row → Spent → Spent
with_last test last s = record s { count = s.count + (if passes (λ r. test r.kind) last then 1 else 0) }

-- over the cycles that are shared out these are the sums of an account of the rows
pub record AreSums (rows : List Row) (last : Option Row) (t : TallyOf) : Type 0 where
  pub lead : t.lead ≡ lead t.node (shared_out t) rows
  pub at : (w : ℕ) → with_last (is_instr w) last (slice_index_or t.at w (unused w)) ≡ at_word t.node (shared_out t) rows w
  pub entered : (w : ℕ) → with_last (is_entry w) last (slice_index_or t.entered w (unused w)) ≡ at_vector t.node (shared_out t) rows w
  pub asleep : t.asleep ≡ owned is_asleep t.node (shared_out t) rows
  pub stopped : t.stopped ≡ owned is_stopped t.node (shared_out t) rows
  pub sent : t.sent ≡ bytes_sent t.node t.window rows
  pub whole : t.lead + t.asleep + t.stopped + cycles_in t.at + cycles_in t.entered ≡ t.done - t.window.0
  pub quiet_at : All IsQuiet t.at
  pub quiet_entered : All IsQuiet t.entered

-- these rows were taken, in order of cycle
pub record IsTallied (rows : List Row) (t : TallyOf) : Type 0 where
  pub sums : AreSums rows t.last t
  -- the cycles from there on have the last row
  pub last : (c : ℕ) → t.done ≤ c → c < t.window.1 → owner t.node rows c ≡ t.last
  -- it takes cycles over
  pub takes : passes (λ r. not (takes_over r.kind)) t.last ≡ false
  -- it is no later than what is late enough for all rows
  pub early : (c : ℕ) → All (λ r. r.cycle ≤ c) rows → t.done ≤ max c t.window.0
  pub low : t.window.0 ≤ t.done
  pub high : t.done ≤ max t.window.0 t.window.1
