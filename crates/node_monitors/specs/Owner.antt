-- Which row has a cycle, and what the node does in it.
use Rattle.std.specs.Prelude.{ℕ, ◌-◌, Bool, true, false, ◌&&◌, not, ◌==◌, nat_le, cond, Option, Some, None, List, [], ◌∷◌}
use Rattle.std.specs.List.{count_by, range_with_len}
use Rattle.std.specs.Option.{option_or}
use Rattle.node_core.specs.declared.row.Row.{Row}
use Rattle.node_core.specs.declared.row.Kind.{Kind}
use Rattle.node_core.specs.declared.row.Kind.TheVariants.{Instr, Enter, Serial, Sent, Heard, Stop, End}

-- a row of the node in which it executes, enters an interrupt or stops
abbrev pub takes_over : Kind → Bool
takes_over (Instr pc word next) = true
takes_over (Enter vector back) = true
takes_over (Stop pc cause) = true
takes_over (Serial byte) = false
takes_over (Sent byte) = false
takes_over (Heard heard) = false
takes_over (End state instructions) = false

abbrev pub owns : ℕ → Row → Bool
owns node r = (r.node == node) && takes_over r.kind

-- the owner of cycle c: the last such row of a cycle at most c
unfoldable pub owner : ℕ → List Row → ℕ → Option Row
owner node [] c = None
owner node (r ∷ rs) c = option_or (owner node rs c) (cond (owns node r && nat_le r.cycle c) (Some r) None)

-- a test of the owner
abbrev pub passes : (Row → Bool) → Option Row → Bool
passes test None = false
passes test (Some r) = test r

-- the cycles of a window: from its first number on, below its second
abbrev pub cycles_of : ℕ × ℕ → List ℕ
cycles_of window = range_with_len window.0 (window.1 - window.0)

-- how many cycles of the window have an owner that passes a test; the test may ask for the cycle
unfoldable pub owned : (ℕ → Row → Bool) → ℕ → ℕ × ℕ → List Row → ℕ
owned test node window rows = count_by (λ c. passes (test c) (owner node rows c)) (cycles_of window)

-- the word of SLEEP
abbrev pub is_sleep : Kind → Bool
is_sleep (Instr pc word next) = word == 0x9588
is_sleep _ = false

-- SLEEP is executed in its own cycle, and the node is asleep in all others
abbrev pub is_asleep : ℕ → Row → Bool
is_asleep c r = is_sleep r.kind && not (r.cycle == c)

abbrev pub is_stop : Kind → Bool
is_stop (Stop pc cause) = true
is_stop _ = false

abbrev pub is_stopped : ℕ → Row → Bool
is_stopped c r = is_stop r.kind

-- an instruction at a word
abbrev pub is_instr : ℕ → Kind → Bool
is_instr at (Instr pc word next) = pc == at
is_instr at _ = false

abbrev pub is_executing : ℕ → ℕ → Row → Bool
is_executing at c r = is_instr at r.kind && not (is_asleep c r)

-- an entry of a vector
abbrev pub is_entry : ℕ → Kind → Bool
is_entry at (Enter vector back) = vector == at
is_entry at _ = false

abbrev pub is_entering : ℕ → ℕ → Row → Bool
is_entering at c r = is_entry at r.kind

abbrev pub is_sent : Kind → Bool
is_sent (Sent byte) = true
is_sent _ = false
