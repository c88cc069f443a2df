-- The account of a node over a window of a trace.
use Rattle.std.specs.Prelude.{ℕ, ◌+◌, ◌*◌, Bool, ◌&&◌, ◌==◌, nat_le, nat_lt, List}
use Rattle.std.specs.List.{count_by, filter}
use Rattle.std.specs.Option.{is_none}
use Rattle.node_core.specs.declared.row.Row.{Row}
use Rattle.node_core.specs.declared.row.Kind.{Kind}
use Rattle.node_monitors.specs.declared.spent.Spent.{Spent}
use Rattle.node_monitors.specs.Owner.{owner, owned, cycles_of, is_asleep, is_stopped, is_instr, is_executing, is_entry, is_entering, is_sent}
use Rattle.node_monitors.specs.Spent.{is_used, table, cycles_in}
use Rattle.node_monitors.specs.declared.spent.TheConstants.{AWAKE_CHARGE, SENT_CHARGE}

pub record Account : Type 0 where
  -- the cycles before the node's first row
  pub lead : ℕ
  -- what was spent at each instruction, in rising order of its address
  pub at : List Spent
  -- what was spent at the entry of each interrupt, in rising order of its vector
  pub entered : List Spent
  -- the cycles of sleep
  pub asleep : ℕ
  -- the cycles after the node stopped
  pub stopped : ℕ
  -- the units of charge
  pub charge : ℕ

-- the cycles of the window without owner
unfoldable pub lead : ℕ → ℕ × ℕ → List Row → ℕ
lead node window rows = count_by (λ c. is_none (owner node rows c)) (cycles_of window)

-- how many rows of the node are of a kind
unfoldable pub rows_that : (Kind → Bool) → ℕ → List Row → ℕ
rows_that test node rows = count_by (λ r. (r.node == node) && test r.kind) rows

-- the instruction at a word: its rows and its cycles
unfoldable pub at_word : ℕ → ℕ × ℕ → List Row → ℕ → Spent
at_word node window rows word = record {
  word = word;
  count = rows_that (is_instr word) node rows;
  cycles = owned (is_executing word) node window rows;
}

-- the entries of a vector: their rows and their cycles
unfoldable pub at_vector : ℕ → ℕ × ℕ → List Row → ℕ → Spent
at_vector node window rows word = record {
  word = word;
  count = rows_that (is_entry word) node rows;
  cycles = owned (is_entering word) node window rows;
}

-- the words of flash at which something was spent
abbrev pub spent : (ℕ → Spent) → List Spent
spent said = filter is_used (table 65536 said)

-- the bytes that the node sent in the window
unfoldable pub bytes_sent : ℕ → ℕ × ℕ → List Row → ℕ
bytes_sent node window rows =
    count_by (λ r. (r.node == node) && (is_sent r.kind && (nat_le window.0 r.cycle && nat_lt r.cycle window.1))) rows

-- eight units for a cycle awake, one for a cycle of sleep, 512 for a byte sent
abbrev pub charge : List Spent → List Spent → ℕ → ℕ → ℕ
charge at entered asleep bytes = AWAKE_CHARGE * (cycles_in at + cycles_in entered) + asleep + SENT_CHARGE * bytes

unfoldable pub account : ℕ → ℕ × ℕ → List Row → Account
account node window rows =
    let at = spent (at_word node window rows) in
    let entered = spent (at_vector node window rows) in
    let asleep = owned is_asleep node window rows in
    record {
      lead = lead node window rows;
      at = at;
      entered = entered;
      asleep = asleep;
      stopped = owned is_stopped node window rows;
      charge = charge at entered asleep (bytes_sent node window rows);
    }

-- the cycles of all parts
abbrev pub whole : Account → ℕ
whole a = a.lead + a.asleep + a.stopped + cycles_in a.at + cycles_in a.entered
