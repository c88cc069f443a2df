-- The table of the nodes that each node hears: one list more, and what a list says.
use Rattle.std.proofs.Common.{◌≡◌, ◌≢◌, inr, ℕ, zero, suc, ◌+◌, ◌<◌, ◌≤◌, Bool, true, false, cond, List, [], ◌∷◌, ◌++◌, length, set, refl, sym, subst, ◌∙◌, ap, arith}
use Rattle.std.specs.Prelude.{nat_lt}
use Rattle.std.specs.List.{list_any}
use Rattle.std.proofs.lemmas.List.{get_or-set_same, get_or-set_other}
use Rattle.std.proofs.lemmas.Bool.Decides.{nat_tests}
use native.Mathlib.Decide.{ℕ_discrete}
use Rattle.world_core.specs.declared.link_table.Link.{Link}
use Rattle.world_core.specs.declared.neighbours.NodeList.{NodeList}
use Rattle.air_base.specs.Each.{each_below}
use Rattle.world_core.specs.Topology.{Topology, IsTopology, is_linked, neighbours}
use Rattle.world_core.specs.LinkTable.{entry_at, IsTableOf}
use Rattle.world_core.specs.NeighbourTable.{no_nodes, listed, row_at, entered, AreEntered}
use Rattle.world_core.proofs.Latencies.{joins}
use Rattle.world_core.proofs.Links.{not_linked}

-- ---- one list more
row_case : (P : NodeList → ℕ → Type 0) (rows : List NodeList) (x : NodeList) (m j : ℕ) → m < length rows → Dec (j ≡ m) → P x m → (j ≢ m → P (row_at rows j) j) → P (row_at (set rows m x) j) j
row_case P rows x m j lt (yes e) here there = subst (λ (k : ℕ). P (row_at (set rows m x) k) k) (sym e) (subst (λ (y : NodeList). P y m) (sym (get_or-set_same rows m x no_nodes lt)) here)
row_case P rows x m j lt (no d) here there = subst (λ (y : NodeList). P y j) (sym (get_or-set_other rows m j x no_nodes (λ e. d e))) (there d)

pub entered_more : (places : List ℕ) (n m : ℕ) (rows : List NodeList) (x : NodeList) → m < length rows → AreEntered places n m rows → listed x ≡ entered places m n → x.count ≤ 64 → AreEntered places n (m + 1) (set rows m x)
entered_more places n m rows x lt old list count = record {
  lists = λ j h. row_case (λ (y : NodeList) (k : ℕ). listed y ≡ entered places k n) rows x m j lt (ℕ_discrete j m) list (λ d. old.lists j (omega arith));
  counts = λ j h. row_case (λ (y : NodeList) (k : ℕ). y.count ≤ 64) rows x m j lt (ℕ_discrete j m) count (λ d. old.counts j (omega arith));
}

-- ---- what a list says of the links
entry_case : (b : Bool) (p : ℕ) → nat_lt 0 (cond b (p + 1) 0) ≡ b
entry_case true p = grind (arith, nat_tests)
entry_case false p = refl

one_step : {X : Type 0} (xs ys : List X) (a b : Bool) (x : X) → xs ≡ ys → a ≡ b → xs ++ cond a (x ∷ []) [] ≡ ys ++ cond b (x ∷ []) []
one_step xs ys a b x e f = (λ i. e i ++ cond (f i) (x ∷ []) [])

entered_links : (links : List Link) (places : List ℕ) (j n : ℕ) → n ≤ 64 → j < 64 → IsTableOf links places
    → entered places j n ≡ each_below n (λ k. cond (list_any (joins k j) links) (k ∷ []) [])
entered_links links places j zero h g table = refl
entered_links links places j (suc n) h g table =
    one_step (entered places j n) (each_below n (λ k. cond (list_any (joins k j) links) (k ∷ []) [])) (nat_lt 0 (entry_at places n j)) (list_any (joins n j) links) n
    (entered_links links places j n (omega arith) g table)
    (ap (nat_lt 0) (table.entries n j (omega arith) g) ∙ entry_case (list_any (joins n j) links) _)

pub hears_listed : (t : Topology) (places : List ℕ) (rows : List NodeList) (j : ℕ) → t.nodes ≤ 64 → j < 64 → IsTableOf t.links places → AreEntered places t.nodes 64 rows → listed (row_at rows j) ≡ neighbours t j
hears_listed t places rows j h g table all = all.lists j g ∙ entered_links t.links places j t.nodes h g table

-- a node that there is not hears nobody
out_case : (xs : List ℕ) (b : Bool) (k : ℕ) → xs ≡ [] → b ≡ false → xs ++ cond b (k ∷ []) [] ≡ []
out_case xs b k e f = λ i. e i ++ cond (f i) (k ∷ []) []

none_listed : (t : Topology) (j n : ℕ) → IsTopology t → t.nodes ≤ j → each_below n (λ k. cond (is_linked t k j) (k ∷ []) []) ≡ []
none_listed t j zero law h = refl
none_listed t j (suc n) law h = out_case (each_below n (λ k. cond (is_linked t k j) (k ∷ []) [])) (is_linked t n j) n (none_listed t j n law h) (sym (not_linked t n j law (inr h)))

pub hears_nobody : (t : Topology) (j : ℕ) → IsTopology t → t.nodes ≤ j → [] ≡ neighbours t j
hears_nobody t j law h = sym (none_listed t j t.nodes law h)
