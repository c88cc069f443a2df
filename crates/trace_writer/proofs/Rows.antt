-- The lines that are still to come.
use Rattle.std.proofs.Common.{◌≡◌, ℕ, ◌+◌, ◌<◌, ◌≤◌, List, [], ◌∷◌, ◌++◌, length, get_or, drop, ap, add-one}
use Rattle.std.proofs.Math.Seq.{drop-cons}
use Rattle.std.proofs.Math.ListN.{drop_of_length-le}
use Rattle.node_core.specs.declared.row.Row.{Row}
use Rattle.trace_writer.specs.Line.{row_line, rows_text}

-- the next line, and those behind it
pub rows_text-drop : (rows : List Row) (i : ℕ) (d : Row) → i < length rows → rows_text (drop i rows) ≡ row_line (get_or rows i d) ++ rows_text (drop (i + 1) rows)
unfolding rows_text
rows_text-drop rows i d h =
    let e : drop i rows ≡ get_or rows i d ∷ drop (i + 1) rows = rw add-one (drop-cons rows i d h) in
    ap rows_text e

-- none behind the last
pub rows_text-drop_all : (rows : List Row) (i : ℕ) → length rows ≤ i → rows_text (drop i rows) ≡ []
unfolding rows_text
rows_text-drop_all rows i h = ap rows_text (drop_of_length-le rows h)
