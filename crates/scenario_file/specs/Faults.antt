-- The ten faults of a scenario's text. Each is a test of the whole document, and the lowest that applies is the answer:
-- a test may answer anything where a lower fault applies.
use Rattle.std.specs.Prelude.{ℕ, zero, suc, ◌==◌, ◌&&◌, ◌||◌, nat_lt, nat_le, sum, length, Bool, false, not, List, [], ◌∷◌, ◌++◌, map, Option, Some, None, codes, if◌then◌else◌}
use Rattle.std.specs.Str.{is_utf8}
use Rattle.std.specs.List.{list_any, list_all, count_by}
use Rattle.toml.specs.Data.{Data, Members}
use Rattle.toml.specs.Parse.{parse_document}
use Rattle.air_base.specs.declared.bounds.TheConstants.{MOST_NODES}
use Rattle.world_core.specs.declared.link_table.Link.{Link}
use Rattle.scenario_file.specs.Document.{keys_in, elements, on_table, on_array, at_key, members_of, number_at}
use Rattle.scenario_file.specs.Rules.{version_of, is_known, lacks_key, has_kinds, has_ranges, amount, most_amount}
use Rattle.scenario_file.specs.declared.keys.Keys.{Keys}
use Rattle.scenario_file.specs.declared.keys.Keys.TheVariants.{Top, OfNode, OfLink, OfInput}
use Rattle.scenario_file.specs.declared.keys.Version.{Version}
use Rattle.scenario_file.specs.declared.fault.ScenarioFault.{ScenarioFault}
use Rattle.scenario_file.specs.declared.fault.ScenarioFault.TheVariants.{NotToml, UnknownKey, Missing, WrongKind, OutOfRange, NoNodes, TooManyNodes, SelfLink, TwiceLinked, TwiceScripted, NoMemory}

-- ---- 1: the bytes are no TOML document in UTF-8
unfoldable pub document_of : List ℕ → Option Members
document_of bytes = if is_utf8 bytes then parse_document bytes else None

-- the elements of the three arrays
abbrev pub nodes : Members → List Data
nodes ms = elements (codes "node") ms

abbrev pub links : Members → List Data
links ms = elements (codes "link") ms

abbrev pub inputs : Members → List Data
inputs ms = elements (codes "input") ms

-- ---- 2: a key that its table does not have, at the top or in a table of an array
unfoldable pub has_unknown_key : Version → Keys → Members → Bool
has_unknown_key version keys ms = list_any (λ key. not (is_known version keys key)) (keys_in ms)

unfoldable pub any_unknown_key : Version → Keys → List Data → Bool
any_unknown_key version keys ds = list_any (on_table (has_unknown_key version keys)) ds

unfoldable pub unknown_key : Version → Members → Bool
unknown_key version ms = has_unknown_key version Top ms || any_unknown_key version OfNode (nodes ms) || any_unknown_key version OfLink (links ms) || any_unknown_key version OfInput (inputs ms)

-- ---- 3: a table without a key that it must have
unfoldable pub any_lacks_key : Keys → List Data → Bool
any_lacks_key keys ds = list_any (on_table (lacks_key keys)) ds

unfoldable pub missing : Members → Bool
missing ms = lacks_key Top ms || any_lacks_key OfNode (nodes ms) || any_lacks_key OfLink (links ms) || any_lacks_key OfInput (inputs ms)

-- ---- 4: a value of another kind than its key asks; an array of tables is asked by the keys `node`, `link` and `input`
unfoldable pub all_of_kind : Keys → List Data → Bool
all_of_kind keys ds = list_all (on_table (has_kinds keys)) ds

abbrev pub are_rows : Keys → Data → Bool
are_rows keys d = on_array (all_of_kind keys) d

unfoldable pub right_kinds : Members → Bool
right_kinds ms = has_kinds Top ms && at_key (are_rows OfNode) (codes "node") ms && at_key (are_rows OfLink) (codes "link") ms && at_key (are_rows OfInput) (codes "input") ms

-- ---- 5: a number out of its range, a text of another size, or too much in all
unfoldable pub all_in_range : Version → ℕ → Keys → List Data → Bool
all_in_range version count keys ds = list_all (on_table (has_ranges version count keys)) ds

abbrev pub amount_of : Keys → Data → ℕ
amount_of keys d = amount keys (members_of d)

unfoldable pub is_few : Keys → List Data → Bool
is_few keys ds = nat_le (sum (map (amount_of keys) ds)) (most_amount keys)

unfoldable pub in_range : Version → Members → Bool
in_range version ms = has_ranges version (length (nodes ms)) Top ms && all_in_range version (length (nodes ms)) OfNode (nodes ms) && all_in_range version (length (nodes ms)) OfLink (links ms)
    && all_in_range version (length (nodes ms)) OfInput (inputs ms) && is_few OfLink (links ms) && is_few OfInput (inputs ms)

-- ---- 8 and 9: a link to itself, and two equal links, whatever their latencies and spans
abbrev pub link_in : Members → Link
link_in ms = record { from = number_at (codes "from") 0 ms; to = number_at (codes "to") 0 ms }

abbrev pub link_of : Data → Link
link_of d = link_in (members_of d)

abbrev pub goes_to_itself : Data → Bool
goes_to_itself d = (link_of d).from == (link_of d).to

unfoldable pub any_self_link : List Data → Bool
any_self_link ds = list_any goes_to_itself ds

abbrev pub same_link : Link → Link → Bool
same_link a b = (a.from == b.from) && (a.to == b.to)

unfoldable pub two_equal : List Link → Bool
two_equal [] = false
two_equal (x ∷ xs) = list_any (same_link x) xs || two_equal xs

-- ---- 10: a node with two inputs
abbrev pub node_of : Data → ℕ
node_of d = number_at (codes "node") 0 (members_of d)

-- of the nodes below n, one has more than one of these inputs
unfoldable pub any_twice : ℕ → List ℕ → Bool
any_twice zero ns = false
any_twice (suc n) ns = any_twice n ns || nat_lt 1 (count_by (λ m. m == n) ns)

-- ---- the order of the faults
-- the fault of the first test that holds
abbrev pub first_of : List (Bool × ScenarioFault) → Option ScenarioFault
first_of [] = None
first_of (t ∷ ts) = if t.0 then Some t.1 else first_of ts

-- the faults 2 to 8
unfoldable pub early_tests : Members → List (Bool × ScenarioFault)
early_tests ms =
    (unknown_key (version_of ms) ms, UnknownKey)
    ∷ (missing ms, Missing)
    ∷ (not (right_kinds ms), WrongKind)
    ∷ (not (in_range (version_of ms) ms), OutOfRange)
    ∷ (length (nodes ms) == 0, NoNodes)
    ∷ (nat_lt MOST_NODES (length (nodes ms)), TooManyNodes)
    ∷ (any_self_link (links ms), SelfLink)
    ∷ []

-- and 9 and 10
unfoldable pub late_tests : Members → List (Bool × ScenarioFault)
late_tests ms =
    (two_equal (map link_of (links ms)), TwiceLinked)
    ∷ (any_twice (length (nodes ms)) (map node_of (inputs ms)), TwiceScripted)
    ∷ []

-- the lowest fault that applies to a document, if one does
unfoldable pub document_fault : Members → Option ScenarioFault
document_fault ms = first_of (early_tests ms ++ late_tests ms)

-- what a fault is called
abbrev pub fault_name : ScenarioFault → List ℕ
fault_name NotToml = codes "NotToml"
fault_name UnknownKey = codes "UnknownKey"
fault_name Missing = codes "Missing"
fault_name WrongKind = codes "WrongKind"
fault_name OutOfRange = codes "OutOfRange"
fault_name NoNodes = codes "NoNodes"
fault_name TooManyNodes = codes "TooManyNodes"
fault_name SelfLink = codes "SelfLink"
fault_name TwiceLinked = codes "TwiceLinked"
fault_name TwiceScripted = codes "TwiceScripted"
fault_name NoMemory = codes "NoMemory"
