-- Whose seat a view is.
use Rattle.std.proofs.Common.{◌≡◌, ℕ, zero, suc, ◌<◌, true, false, get_or, set, refl, sym, subst, ◌∙◌, ap, arith}
use Rattle.std.proofs.lemmas.Bool.{false≢true}
use mathlib.Core.Option.{some, some-injective}
use lib.ListN.{get_elem?}
use Rattle.atomic_table.specs.Table.{State, Me, keeps, Allows}
use Rattle.world_core.specs.declared.world.WorldFacts.{WorldFacts}
use Rattle.neighbour_sync.specs.declared.rule.View.{View}
use Rattle.neighbour_sync.specs.Rule.{KeepsRule}
use Rattle.neighbour_sync.proofs.Words.{has_place}

abbrev pub Table : Type 0
Table = State (Unit {0}) View

abbrev pub Seat : Type 0
Seat = Me (Unit {0}) View

-- a seat of a node is one of a node of the world
pub seat_inside : (w : WorldFacts) (s : Table) (k : ℕ) (v : View) → KeepsRule w s → get_elem? s.views (suc k) ≡ some v → k < w.topo.nodes
seat_inside w s k v h e = let p = has_place s.views (suc k) v e in let n = h.seats in let m = h.is_air.made in omega arith

-- a seat with the air's view is the first
pub is_first : (w : WorldFacts) (s : Table) (id : ℕ) (v : View) (h : KeepsRule w s) → get_elem? s.views id ≡ some v → v.is_air ≡ true → (id ≡ 0) × (h.air ≡ v)
is_first w s zero v h e t = (refl, some-injective h.air v (sym h.first ∙ e))
is_first w s (suc k) v h e t = absurd (false≢true (sym (h.nodes k v e).is_node ∙ t))

-- a seat with a node's view stands behind it
pub node_place : (w : WorldFacts) (s : Table) (id : ℕ) (v : View) (h : KeepsRule w s) → get_elem? s.views id ≡ some v → v.is_air ≡ false → id ≡ suc v.number
node_place w s zero v h e t = absurd (false≢true (sym t ∙ ap (λ (u : View). u.is_air) (sym (some-injective h.air v (sym h.first ∙ e))) ∙ h.is_air.is_air))
node_place w s (suc k) v h e t = ap suc (sym (h.nodes k v e).number)

abbrev pub written : Table → ℕ → ℕ → ℕ → View → Table
written s i c id v = record { words = set s.words i c; homes = s.homes; views = set s.views id v }

-- what a step owes of its seat's view: a new one that keeps the rule, and what it tells
abbrev pub Moves : WorldFacts → Table → ℕ → Seat → ℕ → (ℕ → ℕ) → (ℕ → Seat → Type 0) → Type 0
Moves w s id me i f then = (v : View) × KeepsRule w (written s i (f (get_or s.words i 0)) id v) × then (get_or s.words i 0) (v, me.1)

-- a step of the air's seat
pub air_allowed : (w : WorldFacts) (slots id i : ℕ) (f : ℕ → ℕ) (me : Seat) (then : ℕ → Seat → Type 0) → me.0.is_air ≡ true
    → ((s : Table) (h : KeepsRule w s) → h.air ≡ me.0 → Moves w s 0 me i f then) → Allows (KeepsRule w) slots id me i f then
air_allowed w slots id i f me then t step s h homes at fits =
    let p = is_first w s id me.0 h at t in
    let m = step s h p.1 in
    (m.0, keeps, tt, subst (λ (n : ℕ). KeepsRule w (written s i (f (get_or s.words i 0)) n m.0)) (sym p.0) m.1, m.2)

-- a step of a node's seat
pub node_allowed : (w : WorldFacts) (slots id i : ℕ) (f : ℕ → ℕ) (me : Seat) (then : ℕ → Seat → Type 0) → me.0.is_air ≡ false
    → ((s : Table) (h : KeepsRule w s) → get_elem? s.views (suc me.0.number) ≡ some me.0 → Moves w s (suc me.0.number) me i f then) → Allows (KeepsRule w) slots id me i f then
node_allowed w slots id i f me then t step s h homes at fits =
    let p = node_place w s id me.0 h at t in
    let m = step s h (subst (λ (n : ℕ). get_elem? s.views n ≡ some me.0) p at) in
    (m.0, keeps, tt, subst (λ (n : ℕ). KeepsRule w (written s i (f (get_or s.words i 0)) n m.0)) (sym p) m.1, m.2)
