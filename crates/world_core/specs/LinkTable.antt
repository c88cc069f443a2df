-- The links of a topology as a table of places: entry MOST_NODES * to + from is one more than the place of the link from node
-- `from` to node `to`.
use Rattle.std.specs.Prelude.{◌≡◌, ℕ, ◌+◌, ◌*◌, ◌<◌, ◌≤◌, ◌&&◌, ◌==◌, nat_lt, if◌then◌else◌, List, [], ◌∷◌, length, slice_index}
use Rattle.std.specs.List.{list_any}
use Rattle.air_base.specs.declared.bounds.TheConstants.{MOST_NODES}
use Rattle.world_core.specs.declared.link_table.Link.{Link}
use Rattle.world_core.specs.Topology.{place_in}

abbrev pub entry_at : List ℕ → ℕ → ℕ → ℕ
entry_at rows from to = slice_index rows (MOST_NODES * to + from)

-- one more than the place of the link, and 0 where there is none
abbrev pub entry_in : List Link → ℕ → ℕ → ℕ
entry_in links from to = if list_any (λ l. (l.from == from) && (l.to == to)) links then place_in links from to + 1 else 0

-- how many entries are not 0
abbrev pub filled : List ℕ → ℕ
filled [] = 0
filled (x ∷ xs) = (if nat_lt 0 x then 1 else 0) + filled xs

-- the table of these links, of at most so many nodes
pub record IsTableOf (links : List Link) (rows : List ℕ) : Type 0 where
  pub entries : (from to : ℕ) → from < MOST_NODES → to < MOST_NODES → entry_at rows from to ≡ entry_in links from to
  -- each link has filled an entry of its own
  pub full : length links ≤ filled rows
