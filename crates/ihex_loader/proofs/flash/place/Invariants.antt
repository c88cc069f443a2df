use Rattle.std.proofs.Common.{◌≡◌, ℕ, length, take, get_or}
use Rattle.ihex_loader.specs.Image.{placed, last_put}
use Rattle.ihex_loader.proofs.flash.place.Given as goal

-- the list with the bytes so far
abbrev pub invariant-loop-i : goal.invariant-loop-i
invariant-loop-i l = record {
  len : length l.list.items ≡ length l.fn.list.items;
  each : (a : ℕ) → get_or l.list.items a 0 ≡ last_put (get_or l.fn.list.items a 0) a (placed l.at (take l.i l.bytes));
}
