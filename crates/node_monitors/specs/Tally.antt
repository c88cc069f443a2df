-- The sums over the first rows of a trace, and what one row more behind them changes. Own to this simulator.
use Rattle.std.specs.Prelude.{ℕ, ◌+◌, ◌-◌, ◌*◌, ◌&&◌, ◌==◌, nat_le, nat_lt, if◌then◌else◌, Option, Some, None, List, [], ◌∷◌, ◌++◌, length, map, max, min, slice_set, slice_index_or}
use Rattle.std.specs.List.{filter, range_with_len}
use Rattle.node_core.specs.declared.row.Row.{Row}
use Rattle.node_core.specs.declared.row.Kind.{Kind}
use Rattle.node_core.specs.declared.row.Kind.TheVariants.{Instr, Enter, Serial, Sent, Heard, Stop, End}
use Rattle.node_monitors.specs.declared.spent.Spent.{Spent}
use Rattle.node_monitors.specs.Account.{Account}
use Rattle.node_monitors.specs.Matters.{matters}
use Rattle.node_monitors.specs.Spent.{is_used, unused}
use Rattle.node_monitors.specs.declared.spent.TheConstants.{AWAKE_CHARGE, SENT_CHARGE}

pub record TallyOf : Type 0 where
  pub node : ℕ
  pub window : ℕ × ℕ
  -- the row that has the cycles from `done` on, up to the next such row; none has those of the lead
  pub last : Option Row
  -- the cycles of the window below this one are shared out
  pub done : ℕ
  pub lead : ℕ
  -- what was spent at each word, and at each vector, without the last row
  pub at : List Spent
  pub entered : List Spent
  pub asleep : ℕ
  pub stopped : ℕ
  -- the bytes sent in the window
  pub sent : ℕ

-- of no rows
abbrev pub untallied : ℕ → ℕ × ℕ → TallyOf
untallied node window =
    record { node = node; window = window; last = None; done = window.0; lead = 0; at = []; entered = []; asleep = 0; stopped = 0; sent = 0 }

-- a sum, or the highest number of 64 bits
abbrev pub capped : ℕ → ℕ → ℕ
capped a b = min (a + b) 18446744073709551615

-- a table that has so many words, or more
unfoldable pub grown : ℕ → List Spent → List Spent
grown words slots = slots ++ map unused (range_with_len (length slots) (words - length slots))

-- one row more, with so many cycles
abbrev pub counted : ℕ → Spent → Spent
counted cycles s = record s { count = capped s.count 1; cycles = capped s.cycles cycles }

-- a table with one row more
unfoldable pub with_row : ℕ → ℕ → List Spent → List Spent
with_row word cycles slots = slice_set (grown (word + 1) slots) word (counted cycles (slice_index_or (grown (word + 1) slots) word (unused word)))

-- how many of the cycles that are shared out up to `to` an instruction executes: all, but SLEEP its own alone
abbrev pub executes : ℕ → ℕ → ℕ → TallyOf → ℕ
executes cycle word to t = if word == 0x9588 then (if nat_le t.done cycle && nat_lt cycle to then 1 else 0) else to - t.done

-- the cycles below `to` go to the row of a cycle
abbrev pub shared_to : ℕ → ℕ → Kind → TallyOf → TallyOf
shared_to to cycle (Instr pc word next) t =
    record t { done = to; at = with_row pc (executes cycle word to t) t.at; asleep = capped t.asleep ((to - t.done) - executes cycle word to t) }
shared_to to cycle (Enter vector back) t = record t { done = to; entered = with_row vector (to - t.done) t.entered }
shared_to to cycle (Stop pc cause) t = record t { done = to; stopped = capped t.stopped (to - t.done) }
shared_to to cycle (Serial byte) t = record t { done = to }
shared_to to cycle (Sent byte) t = record t { done = to }
shared_to to cycle (Heard heard) t = record t { done = to }
shared_to to cycle (End state instructions) t = record t { done = to }

-- they go to the last row, or to the lead where there is none
abbrev pub shared_by : Option Row → ℕ → TallyOf → TallyOf
shared_by None to t = record t { done = to; lead = capped t.lead (to - t.done) }
shared_by (Some r) to t = shared_to to r.cycle r.kind t

abbrev pub shared : ℕ → TallyOf → TallyOf
shared to t = shared_by t.last to t

-- a row takes over
abbrev pub followed : Row → TallyOf → TallyOf
followed r t = record (shared (max r.cycle t.window.0) t) { last = Some r }

abbrev pub tallied_kind : Row → Kind → TallyOf → TallyOf
tallied_kind r (Instr pc word next) t = followed r t
tallied_kind r (Enter vector back) t = followed r t
tallied_kind r (Stop pc cause) t = followed r t
tallied_kind r (Sent byte) t = record t { sent = capped t.sent 1 }
tallied_kind r (Serial byte) t = t
tallied_kind r (Heard heard) t = t
tallied_kind r (End state instructions) t = t

-- one row more; rows of other nodes, and those that do not matter, are passed over
abbrev pub tallied : Row → TallyOf → TallyOf
tallied r t = if (r.node == t.node) && matters t.window r then tallied_kind r r.kind t else t

-- and all these
unfoldable pub tallied_all : List Row → TallyOf → TallyOf
tallied_all [] t = t
tallied_all (r ∷ rows) t = tallied_all rows (tallied r t)

-- the cycles up to the window's end go to the last row
abbrev pub ended : TallyOf → TallyOf
ended t = shared (max t.window.0 t.window.1) t

-- the charge, by the cycles awake that are left
abbrev pub charge_of : TallyOf → ℕ
charge_of t = AWAKE_CHARGE * (t.window.1 - t.window.0 - t.lead - t.asleep - t.stopped) + t.asleep + SENT_CHARGE * t.sent

-- the account that the sums give
abbrev pub told : TallyOf → Account
told t = record { lead = t.lead; at = filter is_used t.at; entered = filter is_used t.entered; asleep = t.asleep; stopped = t.stopped; charge = charge_of t }
