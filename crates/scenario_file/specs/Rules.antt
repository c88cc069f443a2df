-- The rules of a scenario's tables, one kind of table after another: which keys it may have, which it must have, of
-- which kind a value is, and which numbers and texts are in range. They depend on the version of the text. Own to this
-- simulator.
use Rattle.std.specs.Prelude.{ℕ, ℤ, ◌-◌, ◌/◌, ◌%◌, ◌==◌, ◌&&◌, ◌||◌, nat_lt, nat_le, length, Bool, true, false, not, List, [], ◌∷◌, Option, Some, None, codes, if◌then◌else◌}
use Rattle.air_base.specs.Bounds.{LAST_CYCLE}
use Rattle.air_base.specs.declared.bounds.TheConstants.{LAST_SHORT_CYCLE, LONGEST_BYTE, LONGEST_LATENCY, SHORTEST_BYTE}
use Rattle.serial_ports.specs.declared.stretch.TheConstants.{LONGEST_EVERY, MOST_ARRIVALS}
use Rattle.world_core.specs.declared.spans.TheConstants.{MOST_SPANS}
use Rattle.std.specs.List.{list_all, list_any}
use Rattle.std.specs.Option.{option_map_or}
use Rattle.std.specs.Char.{is_ascii_hexdigit}
use Rattle.toml.specs.Data.{Data, string, integer, Members, get_member}
use Rattle.scenario_file.specs.Document.{natural, same_text, elements, has_key, at_key, on_array, is_whole, is_text, number_at, text_at, pair_of}
use Rattle.scenario_file.specs.declared.asked.Asked.{Asked}
use Rattle.scenario_file.specs.declared.asked.Asked.TheVariants.{Whole, Text, Two, Twos, Between, Node, Name, Hex, Window, Spans}
use Rattle.scenario_file.specs.declared.keys.Keys.{Keys}
use Rattle.scenario_file.specs.declared.keys.Keys.TheVariants.{Top, OfNode, OfLink, OfInput}
use Rattle.scenario_file.specs.declared.keys.Version.{Version}
use Rattle.scenario_file.specs.declared.keys.Version.TheVariants.{First, Second, Third}
use Rattle.scenario_file.specs.declared.ranges.TheConstants.{WIDEST_WINDOW}

-- ---- the version: the whole numbers 2 and 3 name theirs, and all else has the rules of version 1
abbrev pub version_numbered : ℕ → Version
version_numbered n = if n == 3 then Third else if n == 2 then Second else First

abbrev pub version_from : ℤ → Version
version_from z = option_map_or version_numbered (natural z) First

abbrev pub version_in : Option Data → Version
version_in (Some (integer z)) = version_from z
version_in _ = First

abbrev pub version_of : Members → Version
version_of ms = version_in (get_member (codes "version") ms)

-- from version 3 on a run may be long
abbrev pub most_cycles : Version → ℕ
most_cycles First = LAST_SHORT_CYCLE
most_cycles Second = LAST_SHORT_CYCLE
most_cycles Third = LAST_CYCLE

-- ---- the keys that a table may have
abbrev pub is_one_of : List (List ℕ) → List ℕ → Bool
is_one_of names key = list_any (λ name. same_text name key) names

-- what the run has, what the air has, and the arrays of tables
unfoldable pub is_top_key : List ℕ → Bool
is_top_key key =
    is_one_of (codes "version" ∷ codes "cycles" ∷ codes "window" ∷ codes "latency" ∷ codes "byte_time" ∷ codes "node" ∷ codes "link" ∷ codes "input" ∷ []) key

-- from version 2 on a link may have a latency of its own, and from version 3 on it may be open in spans alone
unfoldable pub is_link_key : Version → List ℕ → Bool
is_link_key First key = is_one_of (codes "from" ∷ codes "to" ∷ []) key
is_link_key Second key = is_one_of (codes "from" ∷ codes "to" ∷ codes "latency" ∷ []) key
is_link_key Third key = is_one_of (codes "from" ∷ codes "to" ∷ codes "latency" ∷ codes "open" ∷ []) key

unfoldable pub is_input_key : List ℕ → Bool
is_input_key key = is_one_of (codes "node" ∷ codes "at" ∷ codes "hex" ∷ codes "every" ∷ []) key

abbrev pub is_known : Version → Keys → List ℕ → Bool
is_known version Top key = is_top_key key
is_known version OfNode key = same_text key (codes "image")
is_known version OfLink key = is_link_key version key
is_known version OfInput key = is_input_key key

-- ---- the keys that it must have
abbrev pub lacks_key : Keys → Members → Bool
lacks_key Top ms = not (has_key (codes "cycles") ms)
lacks_key OfNode ms = not (has_key (codes "image") ms)
lacks_key OfLink ms = not (has_key (codes "from") ms) || not (has_key (codes "to") ms)
lacks_key OfInput ms = not (has_key (codes "node") ms) || not (has_key (codes "at") ms) || not (has_key (codes "hex") ms)

-- ---- the kinds of its values
abbrev pub are_two : List Data → Bool
are_two (a ∷ b ∷ []) = is_whole a && is_whole b
are_two _ = false

-- an array of two whole numbers
abbrev pub is_two : Data → Bool
is_two d = on_array are_two d

unfoldable pub all_two : List Data → Bool
all_two ds = list_all is_two ds

abbrev pub has_kinds : Keys → Members → Bool
has_kinds Top ms = at_key is_whole (codes "version") ms && at_key is_whole (codes "cycles") ms && at_key is_whole (codes "latency") ms && at_key is_whole (codes "byte_time") ms && at_key is_two (codes "window") ms
has_kinds OfNode ms = at_key is_text (codes "image") ms
has_kinds OfLink ms = at_key is_whole (codes "from") ms && at_key is_whole (codes "to") ms && at_key is_whole (codes "latency") ms && at_key (on_array all_two) (codes "open") ms
has_kinds OfInput ms = at_key is_whole (codes "node") ms && at_key is_whole (codes "at") ms && at_key is_whole (codes "every") ms && at_key is_text (codes "hex") ms

-- ---- the ranges of its numbers, and the sizes of its texts; what is of another kind passes here
abbrev pub is_within : ℕ → ℕ → ℤ → Bool
is_within least most z = option_map_or (λ n. nat_le least n && nat_le n most) (natural z) false

abbrev pub fits : ℕ → ℕ → Data → Bool
fits least most (integer z) = is_within least most z
fits least most _ = true

-- a file's name: 1 to 255 bytes
abbrev pub is_name : Data → Bool
is_name (string s) = nat_le 1 (length s) && nat_le (length s) 255
is_name _ = true

-- an even number of hexadecimal digits
abbrev pub is_hex : Data → Bool
is_hex (string s) = list_all is_ascii_hexdigit s && (length s % 2 == 0)
is_hex _ = true

-- a window of a run of so many cycles: from a number to one not below it, both at most the cycles, and 20,000 cycles
-- wide at most
abbrev pub is_window_pair : ℕ → Option (ℕ × ℕ) → Bool
is_window_pair cycles (Some p) = nat_le p.0 p.1 && nat_le p.1 cycles && nat_le (p.1 - p.0) WIDEST_WINDOW
is_window_pair cycles None = false

abbrev pub is_window : ℕ → Data → Bool
is_window cycles d = is_window_pair cycles (pair_of d)

unfoldable pub has_window : Members → Bool
has_window ms = at_key (is_window (number_at (codes "cycles") 0 ms)) (codes "window") ms

-- a span that does not begin below cycle `last`, is not empty and ends by cycle 2^40
abbrev pub is_span_behind : ℕ → Option (ℕ × ℕ) → Bool
is_span_behind last (Some p) = nat_le last p.0 && nat_lt p.0 p.1 && nat_le p.1 LAST_CYCLE
is_span_behind last None = false

abbrev pub end_of : Option (ℕ × ℕ) → ℕ
end_of (Some p) = p.1
end_of None = 0

-- spans each of which does not begin below the end of the one before
unfoldable pub are_spans_behind : ℕ → List Data → Bool
are_spans_behind last [] = true
are_spans_behind last (d ∷ ds) = is_span_behind last (pair_of d) && are_spans_behind (end_of (pair_of d)) ds

-- at least one span
abbrev pub are_spans : List Data → Bool
are_spans ds = nat_lt 0 (length ds) && are_spans_behind 0 ds

-- the number of a node, where there are so many
abbrev pub is_node : ℕ → Data → Bool
is_node count d = nat_lt 0 count && fits 0 (count - 1) d

-- ---- what is asked of the value at a key
abbrev pub passes : Asked → Data → Bool
passes Whole = is_whole
passes Text = is_text
passes Two = is_two
passes Twos = on_array all_two
passes (Between least most) = fits least most
passes (Node count) = is_node count
passes Name = is_name
passes Hex = is_hex
passes (Window cycles) = is_window cycles
passes Spans = on_array are_spans

abbrev pub has_top_ranges : Version → Members → Bool
has_top_ranges version ms = at_key (fits 1 3) (codes "version") ms && at_key (fits 1 (most_cycles version)) (codes "cycles") ms && at_key (fits 1 LONGEST_LATENCY) (codes "latency") ms
    && at_key (fits SHORTEST_BYTE LONGEST_BYTE) (codes "byte_time") ms && has_window ms

-- in a text of this version and of so many nodes
abbrev pub has_ranges : Version → ℕ → Keys → Members → Bool
has_ranges version count Top ms = has_top_ranges version ms
has_ranges version count OfNode ms = at_key is_name (codes "image") ms
has_ranges version count OfLink ms = at_key (is_node count) (codes "from") ms && at_key (is_node count) (codes "to") ms && at_key (fits 1 LONGEST_LATENCY) (codes "latency") ms && at_key (on_array are_spans) (codes "open") ms
has_ranges version count OfInput ms = at_key (is_node count) (codes "node") ms && at_key (fits 0 LAST_CYCLE) (codes "at") ms && at_key (fits 1 LONGEST_EVERY) (codes "every") ms && at_key is_hex (codes "hex") ms

-- ---- what is bounded over all tables of a kind together: the spans of links, and the bytes of scripts
abbrev pub amount : Keys → Members → ℕ
amount Top ms = 0
amount OfNode ms = 0
amount OfLink ms = length (elements (codes "open") ms)
amount OfInput ms = length (text_at (codes "hex") ms) / 2

abbrev pub most_amount : Keys → ℕ
most_amount Top = 0
most_amount OfNode = 0
most_amount OfLink = MOST_SPANS
most_amount OfInput = MOST_ARRIVALS
