-- For each node the nodes that it hears, as a table of lists. Own to this simulator.
use Rattle.std.specs.Prelude.{◌≡◌, ℕ, ◌<◌, ◌≤◌, nat_lt, if◌then◌else◌, List, [], ◌∷◌, take, slice_index_or}
use Rattle.world_core.specs.declared.neighbours.NodeList.{NodeList}
use Rattle.air_base.specs.declared.bounds.TheConstants.{MOST_NODES}
use Rattle.air_base.specs.Each.{each_below}
use Rattle.world_core.specs.LinkTable.{entry_at}

abbrev pub no_nodes : NodeList
no_nodes = record { numbers = []; count = 0 }

-- the numbers that a list holds
abbrev pub listed : NodeList → List ℕ
listed l = take l.count l.numbers

abbrev pub row_at : List NodeList → ℕ → NodeList
row_at rows j = slice_index_or rows j no_nodes

-- the nodes below n whose link to node j has an entry in the table of places
abbrev pub entered : List ℕ → ℕ → ℕ → List ℕ
entered places j n = each_below n (λ k. if nat_lt 0 (entry_at places k j) then k ∷ [] else [])

-- the lists of the nodes below m say what the table of places says of n nodes
pub record AreEntered (places : List ℕ) (n m : ℕ) (rows : List NodeList) : Type 0 where
  pub lists : (j : ℕ) → j < m → listed (row_at rows j) ≡ entered places j n
  pub counts : (j : ℕ) → j < m → (row_at rows j).count ≤ MOST_NODES
