-- What a passed test of a row says of the numbers that it holds.
use Rattle.std.proofs.Common.{◌≡◌, ℕ, ◌-◌, ◌<◌, ◌≤◌, ◌&&◌, nat_le, nat_lt, Bool, true, false, pos, negsuc, Option, Some, None, codes, refl, arith}
use Rattle.std.proofs.lemmas.Bool.{and_parts, false≢true}
use Rattle.std.proofs.lemmas.Bool.Decides.{nat_tests}
use Rattle.std.specs.Option.{option_map_or}
use Rattle.toml.specs.Data.{Data, integer, table, get_member}
use Rattle.scenario_file.specs.Document.{on_table, on_array, at_key, number_of}
use Rattle.scenario_file.specs.Rules.{fits, is_node, are_spans, has_ranges}
use Rattle.scenario_file.specs.Faults.{link_of}
use Rattle.scenario_file.specs.declared.keys.Keys.TheVariants.{OfLink}
use Rattle.scenario_file.specs.declared.keys.Version.{Version}

-- the parts of a chain of tests
pub and4 : (a b c d : Bool) → (a && b && c && d) ≡ true → (a ≡ true) × (b ≡ true) × (c ≡ true) × (d ≡ true)
and4 true true true true h = (refl, refl, refl, refl)
and4 true true true false h = absurd cc
and4 true true false d h = absurd cc
and4 true false c d h = absurd cc
and4 false b c d h = absurd cc

within : (least most n : ℕ) → (nat_le least n && nat_le n most) ≡ true → (least ≤ n) × (n ≤ most)
within least most n h = let p = and_parts (nat_le least n) (nat_le n most) h in (grind (arith, nat_tests, p.0), grind (arith, nat_tests, p.1))

-- a number in its range, or its default
pub number_bounds : (least most default : ℕ) (o : Option Data) → least ≤ default → default ≤ most → option_map_or (fits least most) o true ≡ true → (least ≤ number_of o default) × (number_of o default ≤ most)
number_bounds least most default None low high h = (low, high)
number_bounds least most default (Some (integer (pos n))) low high h = within least most n h
number_bounds least most default (Some (integer (negsuc n))) low high h = absurd cc
number_bounds least most default (Some _) low high h = (low, high)

node_within : (count n : ℕ) → (nat_le 0 n && nat_le n (count - 1)) ≡ true → 0 < count → n < count
node_within count n h some = let p = within 0 (count - 1) n h in omega (arith, p.1)

-- the number of a node that there is
pub node_bound : (count : ℕ) (o : Option Data) → 0 < count → option_map_or (is_node count) o true ≡ true → number_of o 0 < count
node_bound count None some h = some
node_bound count (Some (integer (pos n))) some h = node_within count n (and_parts (nat_lt 0 count) (nat_le 0 n && nat_le n (count - 1)) h).1 some
node_bound count (Some (integer (negsuc n))) some h = absurd (false≢true (and_parts (nat_lt 0 count) false h).1)
node_bound count (Some _) some h = some

-- a node's number, or 0, fits in a byte where there are few nodes
node_small : (count : ℕ) (o : Option Data) → count ≤ 64 → option_map_or (is_node count) o true ≡ true → number_of o 0 ≤ 255
node_small count None few h = omega arith
node_small count (Some (integer (pos n))) few h =
    let p = within 0 (count - 1) n (and_parts (nat_lt 0 count) (nat_le 0 n && nat_le n (count - 1)) h).1 in
    omega (arith, p.1, few)
node_small count (Some (integer (negsuc n))) few h = omega arith
node_small count (Some _) few h = omega arith

pub link_small : (version : Version) (count : ℕ) (d : Data) → count ≤ 64 → on_table (has_ranges version count OfLink) d ≡ true → ((link_of d).from ≤ 255) × ((link_of d).to ≤ 255)
link_small version count (table ms) few h =
    let p = and4 (at_key (is_node count) (codes "from") ms) (at_key (is_node count) (codes "to") ms) (at_key (fits 1 65535) (codes "latency") ms) (at_key (on_array are_spans) (codes "open") ms) h in
    (node_small count (get_member (codes "from") ms) few p.0, node_small count (get_member (codes "to") ms) few p.1)
link_small version count _ few h = absurd cc
