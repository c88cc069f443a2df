-- The sums over the last rows of a trace, and what one row more before them changes.
use Rattle.std.specs.Prelude.{ℕ, ◌+◌, ◌-◌, Bool, ◌&&◌, ◌==◌, nat_le, nat_lt, if◌then◌else◌, List, min, max, slice_set, slice_index_or}
use Rattle.node_core.specs.declared.row.Row.{Row}
use Rattle.node_core.specs.declared.row.Kind.{Kind}
use Rattle.node_core.specs.declared.row.Kind.TheVariants.{Instr, Enter, Serial, Sent, Heard, Stop, End}
use Rattle.node_monitors.specs.declared.spent.Spent.{Spent}
use Rattle.node_monitors.specs.Spent.{more, table, unused}

pub record Sums : Type 0 where
  pub node : ℕ
  pub window : ℕ × ℕ
  -- how many words the tables have: more than each instruction and vector of the rows
  pub words : ℕ
  -- the cycles of the window below this one have no owner yet
  pub free : ℕ
  -- what was spent at each of these words, and at each vector
  pub at : List Spent
  pub entered : List Spent
  -- the cycles of both tables
  pub awake : ℕ
  pub asleep : ℕ
  pub stopped : ℕ
  -- the bytes sent in the window
  pub sent : ℕ

-- of no rows
abbrev pub no_rows : ℕ → ℕ × ℕ → ℕ → Sums
no_rows node window words = record {
  node = node;
  window = window;
  words = words;
  free = max window.0 window.1;
  at = table words unused;
  entered = table words unused;
  awake = 0;
  asleep = 0;
  stopped = 0;
  sent = 0;
}

-- from where on a row of a cycle has the cycles that are free
abbrev pub since : ℕ → Sums → ℕ
since cycle s = min (max cycle s.window.0) s.free

-- how many these are
abbrev pub newly_owned : ℕ → Sums → ℕ
newly_owned cycle s = s.free - since cycle s

-- whether a cycle is in the window and free
abbrev pub is_free : ℕ → Sums → Bool
is_free cycle s = nat_le s.window.0 cycle && nat_lt cycle s.free

-- how many of its cycles an instruction executes: all, but SLEEP its own alone
abbrev pub executing : ℕ → ℕ → Sums → ℕ
executing cycle word s = if word == 0x9588 then (if is_free cycle s then 1 else 0) else newly_owned cycle s

-- a table with one row more
abbrev pub added : ℕ → ℕ → List Spent → List Spent
added word cycles slots = slice_set slots word (more cycles (slice_index_or slots word (unused word)))

abbrev pub executed : ℕ → ℕ → ℕ → Sums → Sums
executed cycle pc word s = record s {
  free = since cycle s;
  at = added pc (executing cycle word s) s.at;
  awake = s.awake + executing cycle word s;
  asleep = s.asleep + (newly_owned cycle s - executing cycle word s);
}

abbrev pub vectored : ℕ → ℕ → Sums → Sums
vectored cycle vector s = record s {
  free = since cycle s;
  entered = added vector (newly_owned cycle s) s.entered;
  awake = s.awake + newly_owned cycle s;
}

abbrev pub halted : ℕ → Sums → Sums
halted cycle s = record s { free = since cycle s; stopped = s.stopped + newly_owned cycle s }

abbrev pub is_within : ℕ → Sums → Bool
is_within cycle s = nat_le s.window.0 cycle && nat_lt cycle s.window.1

abbrev pub told : ℕ → Sums → Sums
told cycle s = record s { sent = s.sent + (if is_within cycle s then 1 else 0) }

-- what a row of the node changes
abbrev pub took_kind : ℕ → Kind → Sums → Sums
took_kind cycle (Instr pc word next) s = executed cycle pc word s
took_kind cycle (Enter vector back) s = vectored cycle vector s
took_kind cycle (Stop pc cause) s = halted cycle s
took_kind cycle (Sent byte) s = told cycle s
took_kind cycle (Serial byte) s = s
took_kind cycle (Heard heard) s = s
took_kind cycle (End state instructions) s = s

abbrev pub took : Row → Sums → Sums
took r s = if r.node == s.node then took_kind r.cycle r.kind s else s
