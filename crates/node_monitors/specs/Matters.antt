-- Which rows of a trace a profile needs.
use Rattle.std.specs.Prelude.{◌≡◌, ℕ, ◌<◌, Bool, true, false, ◌&&◌, ◌||◌, nat_le, nat_lt}
use Rattle.node_core.specs.declared.row.Row.{Row}
use Rattle.node_core.specs.declared.row.Kind.{Kind}
use Rattle.node_core.specs.declared.row.Kind.TheVariants.{Instr, Enter}
use Rattle.node_monitors.specs.Owner.{takes_over, is_sent}

-- a row below the window's end that takes cycles over, or tells of a byte that was sent in the window
abbrev pub matters : ℕ × ℕ → Row → Bool
matters window r = (takes_over r.kind || (is_sent r.kind && nat_le window.0 r.cycle)) && nat_lt r.cycle window.1

-- a row that exists in the window of a trace alone
abbrev pub is_traced : Kind → Bool
is_traced (Instr pc word next) = true
is_traced (Enter vector back) = true
is_traced _ = false

-- such a row lies below the window's end
abbrev pub IsBelow : ℕ → Row → Type 0
IsBelow end r = is_traced r.kind ≡ true → r.cycle < end
