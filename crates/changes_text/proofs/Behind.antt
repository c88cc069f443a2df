-- The lines that are still to come.
use Rattle.std.proofs.Common.{◌≡◌, ℕ, ◌+◌, ◌<◌, ◌≤◌, List, [], ◌∷◌, ◌++◌, length, get_or, drop, ap, add-one}
use Rattle.std.proofs.Math.Seq.{drop-cons}
use Rattle.std.proofs.Math.ListN.{drop_of_length-le}
use Rattle.node_places.specs.declared.Change.{Change}
use Rattle.changes_text.specs.Line.{change_line, changes_text}

-- the next line, and those behind it
pub changes_text-drop : (changes : List Change) (i : ℕ) (d : Change) → i < length changes → changes_text (drop i changes) ≡ change_line (get_or changes i d) ++ changes_text (drop (i + 1) changes)
unfolding changes_text
changes_text-drop changes i d h =
    let e : drop i changes ≡ get_or changes i d ∷ drop (i + 1) changes = rw add-one (drop-cons changes i d h) in
    ap changes_text e

-- none behind the last
pub changes_text-drop_all : (changes : List Change) (i : ℕ) → length changes ≤ i → changes_text (drop i changes) ≡ []
unfolding changes_text
changes_text-drop_all changes i h = ap changes_text (drop_of_length-le changes h)
