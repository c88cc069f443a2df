-- What the sums are the sums of.
use Rattle.std.specs.Prelude.{◌≡◌, ℕ, ◌+◌, ◌-◌, ◌^◌, ◌<◌, ◌≤◌, if◌then◌else◌, List, [], ◌∷◌, length, min, max}
use Rattle.std.specs.List.{All}
use Rattle.node_core.specs.declared.row.Row.{Row}
use Rattle.node_core.specs.declared.row.Kind.{Kind}
use Rattle.node_core.specs.declared.row.Kind.TheVariants.{Instr, Enter}
use Rattle.node_monitors.specs.declared.spent.Spent.{Spent}
use Rattle.node_monitors.specs.Account.{at_word, at_vector, bytes_sent}
use Rattle.node_monitors.specs.Owner.{owned, owns, is_asleep, is_stopped}
use Rattle.node_monitors.specs.Spent.{table, cycles_in}
use Rattle.node_monitors.specs.Sums.{Sums}

-- the first cycle of the window that has an owner, or its end
unfoldable pub unowned : ℕ → ℕ × ℕ → List Row → ℕ
unowned node window [] = max window.0 window.1
unowned node window (r ∷ rs) = if owns node r then min (max r.cycle window.0) (unowned node window rs) else unowned node window rs

-- no cycles without a row
abbrev pub IsQuiet : Spent → Type 0
IsQuiet s = s.count ≡ 0 → s.cycles ≡ 0

-- these rows were taken
pub record IsTaken (rows : List Row) (s : Sums) : Type 0 where
  pub free : s.free ≡ unowned s.node s.window rows
  pub at : s.at ≡ table s.words (at_word s.node s.window rows)
  pub entered : s.entered ≡ table s.words (at_vector s.node s.window rows)
  pub asleep : s.asleep ≡ owned is_asleep s.node s.window rows
  pub stopped : s.stopped ≡ owned is_stopped s.node s.window rows
  pub sent : s.sent ≡ bytes_sent s.node s.window rows
  pub awake : s.awake ≡ cycles_in s.at + cycles_in s.entered
  pub whole : (s.free - s.window.0) + s.awake + s.asleep + s.stopped ≡ s.window.1 - s.window.0
  pub quiet_at : All IsQuiet s.at
  pub quiet_entered : All IsQuiet s.entered

-- one row more fits
pub record HasRoom (s : Sums) : Type 0 where
  pub cycles : (s.free - s.window.0) + s.awake + s.asleep + s.stopped < 2 ^ 64
  pub sent : s.sent + 1 < 2 ^ 64
  pub at : length s.at ≡ s.words
  pub entered : length s.entered ≡ s.words
  pub count_at : All (λ x. x.count + 1 < 2 ^ 64) s.at
  pub count_entered : All (λ x. x.count + 1 < 2 ^ 64) s.entered
  pub cycles_at : All (λ x. x.cycles ≤ s.awake) s.at
  pub cycles_entered : All (λ x. x.cycles ≤ s.awake) s.entered

-- the instruction or the vector of a row is one of so many words
abbrev pub IsWithin : ℕ → Kind → Type 0
IsWithin words (Instr pc word next) = pc < words
IsWithin words (Enter vector back) = vector < words
IsWithin words _ = Unit {0}
