-- The text of changes. Each is one line: the cycle and the node's number in decimal, what is seen, and where, parted by
-- single spaces. Addresses have four hexadecimal digits, bytes two.
use Rattle.std.specs.Prelude.{ℕ, List, ◌++◌, codes, decimal}
use Rattle.std.specs.List.{flat_map}
use Rattle.sim_io.specs.Digits.{hex2, hex4}
use Rattle.node_places.specs.declared.Change.{Change}
use Rattle.node_places.specs.declared.Seen.{Seen}
use Rattle.node_places.specs.declared.Seen.TheVariants.{Byte, At}

-- what stands behind the cycle and the node
unfoldable pub seen_text : Seen → List ℕ
seen_text (Byte address byte) = codes "byte " ++ hex4 address ++ codes " " ++ hex2 byte
seen_text (At address) = codes "at " ++ hex4 address

-- the line of a change
unfoldable pub change_line : Change → List ℕ
change_line change = decimal change.cycle ++ codes " " ++ decimal change.node ++ codes " " ++ seen_text change.seen ++ codes "\n"

-- the lines of changes
unfoldable pub changes_text : List Change → List ℕ
changes_text changes = flat_map change_line changes
