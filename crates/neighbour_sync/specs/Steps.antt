-- The nine kinds of step, and what each tells the seat that takes it. Own to this simulator.
use Rattle.std.specs.Prelude.{◌≡◌, ℕ, ◌+◌, ◌-◌, ◌≤◌, true, [], ◌∷◌, ◌++◌, slice_set}
use Rattle.atomic_table.specs.Table.{Me, Step}
use Rattle.world_core.specs.Sends.{sends_below}
use Rattle.world_core.specs.Posted.{sent_of}
use Rattle.neighbour_sync.specs.declared.rule.View.{View}
use Rattle.neighbour_sync.specs.Layout.{line_of}
use Rattle.neighbour_sync.specs.Rule.{node_view}

-- what a step tells: of the step, the seat before, the number that it loaded or stored, and the seat after
abbrev pub Telling : Type 1
Telling = Step (Unit {0}) → Me (Unit {0}) View → ℕ → Me (Unit {0}) View → Type 0

-- split: the air's seat makes the seat of the next node
abbrev pub with_seat : View → View
with_seat v = record v { made = v.made + 1 }

abbrev pub next_seat : View → View
next_seat v = node_view v.world v.made

-- what a seat knows after it loaded the clock of node k, and the cycle was c
abbrev pub with_load : View → ℕ → ℕ → View
with_load v k c = record v { loads = v.loads ++ (k, c) ∷ [] }

-- load clock, by the air's seat: all sends of that node below the cycle are counted
abbrev pub clock_loaded : Telling
clock_loaded s me found new = (new ≡ (with_load me.0 (line_of s.word) found, me.1)) × (sends_below me.0.world.sends (line_of s.word) found ≤ sent_of me.0.sent (line_of s.word))

-- first look at a clock, by a node's seat: it says nothing of sends
abbrev pub clock_peeked : Telling
clock_peeked s me found new = new ≡ (with_load me.0 (line_of s.word) found, me.1)

-- raise: a clock never falls
abbrev pub with_clock : View → ℕ → View
with_clock v c = record v { clock = c }

abbrev pub clock_raised : Telling
clock_raised s me stored new = (new ≡ (with_clock me.0 s.first, me.1)) × (me.0.clock ≤ s.first)

-- store sent: one more send of node k is posted
abbrev pub with_sent : View → ℕ → View
with_sent v k = record v { sent = slice_set v.sent k (sent_of v.sent k + 1) }

abbrev pub sent_stored : Telling
sent_stored s me stored new = new ≡ (with_sent me.0 (line_of s.word - me.0.world.topo.nodes), me.1)

-- see sent: so many sends of the seat's node are posted, and it never was told more
abbrev pub with_told : View → ℕ → View
with_told v n = record v { told = n }

abbrev pub sent_seen : Telling
sent_seen s me found new = (new ≡ (with_told me.0 found, me.1)) × (me.0.told ≤ found)

-- want: a want word is lowered or stored, which tells nothing and leaves the seat as it is
abbrev pub want_left : Telling
want_left s me found new = new ≡ me

-- store halt
abbrev pub with_stop : View → View
with_stop v = record v { stopped = true }

abbrev pub halt_stored : Telling
halt_stored s me stored new = new ≡ (with_stop me.0, me.1)

-- load halt: 0 or 1
abbrev pub with_halt : View → ℕ → View
with_halt v n = record v { halts = v.halts ++ n ∷ [] }

abbrev pub halt_loaded : Telling
halt_loaded s me found new = (new ≡ (with_halt me.0 found, me.1)) × (found ≤ 1)
