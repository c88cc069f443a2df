-- The tallies of all nodes, a row and a node at a time.
use Rattle.std.proofs.Common.{◌≡◌, ℕ, ◌+◌, ◌<◌, ◌≤◌, ◌&&◌, Bool, false, cond, List, [], ◌∷◌, ◌++◌, length, get_or, refl, sym, ap, ◌∙◌, arith, inl, inr, ◌⊎◌}
use Rattle.std.proofs.Math.Dec.{eqb}
use Rattle.std.proofs.Math.ListN.{set}
use Rattle.std.proofs.lemmas.Bool.{cases_eq, ne_eqb}
use Rattle.std.proofs.lemmas.List.{ext_get_or, get_or-set_same, get_or-set_other, length-set}
use Rattle.std.proofs.lemmas.List.FromFn.{length-map-range_with_len, get_or-map-range_with_len, map-range_with_len_more}
use Rattle.node_core.specs.declared.row.Row.{Row}
use Rattle.node_monitors.specs.Matters.{matters}
use Rattle.node_monitors.specs.Tally.{TallyOf, tallied, tallied_all, tallied_kind, untallied}
use Rattle.node_monitors.proofs.Tallies.{all-append, all-kept}
use Rattle.run_reports.specs.Tallies.{tallies, tally_of}

pub tallies-none : (window : ℕ × ℕ) (rows : List Row) → tallies 0 window rows ≡ []
unfolding tallies
tallies-none window rows = refl

pub tallies-more : (n : ℕ) (window : ℕ × ℕ) (rows : List Row) → tallies (n + 1) window rows ≡ tallies n window rows ++ tally_of window rows n ∷ []
unfolding tallies
tallies-more n window rows = map-range_with_len_more (tally_of window rows) 0 n n (omega arith)

-- one more that took no row
pub tallies-grow : (n : ℕ) (window : ℕ × ℕ) (all more : List TallyOf) (t : TallyOf) → all ≡ tallies n window [] → t ≡ untallied n window → more ≡ all ++ t ∷ [] → more ≡ tallies (n + 1) window []
unfolding tallied_all
tallies-grow n window all more t is new e = e ∙ (λ i. is i ++ new i ∷ []) ∙ sym (tallies-more n window [])

pub tallies-length : (n : ℕ) (window : ℕ × ℕ) (rows : List Row) → length (tallies n window rows) ≡ n
unfolding tallies
tallies-length n window rows = length-map-range_with_len (tally_of window rows) 0 n

pub tallies-at : (n : ℕ) (window : ℕ × ℕ) (rows : List Row) (k : ℕ) (d : TallyOf) → k < n → get_or (tallies n window rows) k d ≡ tally_of window rows k
unfolding tallies
tallies-at n window rows k d lt = get_or-map-range_with_len (tally_of window rows) 0 n k k d lt (omega arith)

module _ (n : ℕ) (window : ℕ × ℕ) (before : List Row) (r : Row) where
  abbrev was : ℕ → TallyOf
  was = tally_of window before

  abbrev now : ℕ → TallyOf
  now = tally_of window (before ++ r ∷ [])

  step : (k : ℕ) → now k ≡ tallied r (was k)
  unfolding tallied_all
  step k = all-append before (r ∷ []) (untallied k window)

  -- a row of another node changes nothing
  other : (k : ℕ) → (k ≡ r.node → ⊥) → now k ≡ was k
  other k ne =
      let name : (was k).node ≡ k = (all-kept before (untallied k window)).0 in
      let none : eqb r.node (was k).node ≡ false = ap (eqb r.node) name ∙ ne_eqb r.node k (λ e. ne (sym e)) in
      step k ∙ ap (λ (b : Bool). cond (b && matters (was k).window r) (tallied_kind r r.kind (was k)) (was k)) none

  -- all other tallies stay as they are
  pub row-taken : (all : List TallyOf) (d u : TallyOf) → all ≡ tallies n window before → r.node < length all → u ≡ tallied r (get_or all r.node d) → set all r.node u ≡ tallies n window (before ++ r ∷ [])
  row-taken all d u is lt e =
      let long : length all ≡ n = ap length is ∙ tallies-length n window before in
      let here : u ≡ now r.node =
      e ∙ ap (tallied r) (ap (λ (l : List TallyOf). get_or l r.node d) is ∙ tallies-at n window before r.node d (omega arith)) ∙ sym (step r.node) in
      ext_get_or d (set all r.node u) (tallies n window (before ++ r ∷ [])) (length-set all r.node u ∙ long ∙ sym (tallies-length n window (before ++ r ∷ [])))
      (λ i in'. let small : i < n = omega (arith, length-set all r.node u) in entry i small long here (cases_eq i r.node))
    where
      entry : (i : ℕ) → i < n → length all ≡ n → u ≡ now r.node → (i ≡ r.node) ⊎ (i ≡ r.node → ⊥) → get_or (set all r.node u) i d ≡ get_or (tallies n window (before ++ r ∷ [])) i d
      entry i small long here (inl q) =
          ap (λ (j : ℕ). get_or (set all r.node u) j d) q ∙ get_or-set_same all r.node u d lt ∙ here ∙ sym (ap now q) ∙ sym (tallies-at n window (before ++ r ∷ []) i d small)
      entry i small long here (inr ne) =
          get_or-set_other all r.node i u d ne ∙ ap (λ (l : List TallyOf). get_or l i d) is ∙ tallies-at n window before i d small
          ∙ sym (other i ne) ∙ sym (tallies-at n window (before ++ r ∷ []) i d small)

  -- no tally has the row's number
  pub row-passed : (all : List TallyOf) → all ≡ tallies n window before → length all ≤ r.node → all ≡ tallies n window (before ++ r ∷ [])
  row-passed all is past =
      let long : length all ≡ n = ap length is ∙ tallies-length n window before in
      is ∙ ext_get_or (untallied 0 window) (tallies n window before) (tallies n window (before ++ r ∷ [])) (tallies-length n window before ∙ sym (tallies-length n window (before ++ r ∷ [])))
      (λ i in'. let small : i < n = omega (arith, tallies-length n window before) in
      tallies-at n window before i (untallied 0 window) small ∙ sym (other i (λ q. absurd (omega arith))) ∙ sym (tallies-at n window (before ++ r ∷ []) i (untallied 0 window) small))

-- the tally at a place of the list
pub turn-tally : (n : ℕ) (window : ℕ × ℕ) (rows : List Row) (all : List TallyOf) (k : ℕ) (t : TallyOf) → all ≡ tallies n window rows → (k < length all) × (t ≡ get_or all k t) → t ≡ tally_of window rows k
turn-tally n window rows all k t is turn =
    let long : length all ≡ n = ap length is ∙ tallies-length n window rows in
    let lt = turn.0 in
    turn.1 ∙ ap (λ (l : List TallyOf). get_or l k t) is ∙ tallies-at n window rows k t (omega arith)
