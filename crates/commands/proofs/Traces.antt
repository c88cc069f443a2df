-- The trace of a run, epoch by epoch.
use Rattle.std.proofs.Common.{◌≡◌, ◌≢◌, ℕ, zero, suc, ◌+◌, ◌-◌, ◌<◌, ◌≤◌, Bool, false, cond, ◌==◌, List, [], ◌++◌, Option, Some, None, refl, sym, subst, ap, ◌∙◌, arith, append-nil, append_assoc}
use Rattle.std.proofs.lemmas.Grind.{flat_map-append}
use Rattle.std.proofs.lemmas.Bool.Decides.{nat_tests}
use native.Mathlib.Decide.{ℕ_discrete}
use Rattle.sim_io.specs.Outside.{extended, TookFront}
use Rattle.sim_io.proofs.Taken.{extended-extended}
use Rattle.node_core.specs.declared.row.Row.{Row}
use Rattle.trace_writer.specs.Line.{row_line, rows_text}
use Rattle.node_core.specs.State.{NodeState}
use Rattle.air_base.specs.NodeKind.{ticked_rows}
use Rattle.air_base.specs.Each.{each_below}
use Rattle.world_core.specs.Order.{Fleet, world_after, world_at, hears, end_rows, run_rows}
use Rattle.node_runner.specs.Scenario.{ScenarioOf, IsScenario, fleet_of}
use Rattle.fleet_flight.specs.Rows.{rows_upto}
use Rattle.fleet_flight.proofs.Epoch.{first_rows}
use Rattle.run_reports.proofs.Runs.{rows_whole}

-- a list begins with another one
pub record Begins (front whole : List Row) : Type 0 where
  pub rest : List Row
  pub parts : whole ≡ front ++ rest

-- the rows of the cycle after n
made : Fleet NodeState Row → ℕ → List Row
made f n = each_below f.topo.nodes (λ k. ticked_rows f.kind (f.start + n) ((world_after f n).state k) (hears f (f.start + n) (world_after f n) k))

rows_next : (f : Fleet NodeState Row) (n : ℕ) → (world_after f (suc n)).rows ≡ (world_after f n).rows ++ made f n
unfolding world_after made
rows_next f n = refl

-- what happened so far is not altered by what comes
rows_later : (f : Fleet NodeState Row) (n m : ℕ) → Begins (world_after f n).rows (world_after f (m + n)).rows
rows_later f n zero =
    let e : 0 + n ≡ n = omega arith in
    record { rest = []; parts = ap (λ k. (world_after f k).rows) e ∙ sym (append-nil (world_after f n).rows) }
rows_later f n (suc m) =
    let h = rows_later f n m in
    let e : suc m + n ≡ suc (m + n) = omega arith in
    record {
      rest = h.rest ++ made f (m + n);
      parts = ap (λ k. (world_after f k).rows) e ∙ rows_next f (m + n) ∙ ap (λ l. l ++ made f (m + n)) h.parts
          ∙ append_assoc (world_after f n).rows h.rest (made f (m + n));
    }

differ : (a b : ℕ) → a ≢ b → (a == b) ≡ false
differ a b e = grind (arith, nat_tests)

-- below the limit no last rows are there
pub rows_early : (f : Fleet NodeState Row) (c : ℕ) → c ≢ f.topo.limit → rows_upto f c ≡ (world_at f c).rows
rows_early f c d = ap (λ (b : Bool). (world_at f c).rows ++ cond b (end_rows f) []) (differ c f.topo.limit d) ∙ append-nil (world_at f c).rows

-- where a run begins below the limit there are none
pub rows_none : (f : Fleet NodeState Row) → f.start < f.topo.limit → rows_upto f f.start ≡ []
unfolding world_after
rows_none f h =
    let e : f.start - f.start ≡ 0 = omega arith in
    rows_early f f.start (λ g. absurd (omega arith)) ∙ ap (λ n. (world_after f n).rows) e

module _ (f : Fleet NodeState Row) (c end : ℕ) (low : f.start ≤ c) (high : c ≤ end) (last : end ≤ f.topo.limit) where
  begins_case : Dec (c ≡ end) → Begins (rows_upto f c) (rows_upto f end)
  begins_case (yes e) = record { rest = []; parts = ap (rows_upto f) (sym e) ∙ sym (append-nil (rows_upto f c)) }
  begins_case (no d) =
      let later = rows_later f (c - f.start) (end - c) in
      let n : end - c + (c - f.start) ≡ end - f.start = omega arith in
      let parts : (world_at f end).rows ≡ (world_at f c).rows ++ later.rest = ap (λ k. (world_after f k).rows) (sym n) ∙ later.parts in
      let more : List Row = cond (end == f.topo.limit) (end_rows f) [] in
      record {
        rest = later.rest ++ more;
        parts = ap (λ l. l ++ more) parts ∙ append_assoc (world_at f c).rows later.rest more
            ∙ ap (λ l. l ++ (later.rest ++ more)) (sym (rows_early f c (λ e. d (omega arith))));
      }

  -- the rows up to a cycle are the front of those up to a later one
  begins : Begins (rows_upto f c) (rows_upto f end)
  begins = begins_case (ℕ_discrete c end)

text_parts : (a b : List Row) → rows_text (a ++ b) ≡ rows_text a ++ rows_text b
unfolding rows_text
text_parts a b = flat_map-append row_line a b

nothing_taken : (o : Option (List ℕ)) → o ≡ extended o []
nothing_taken None = refl
nothing_taken (Some old) = ap Some (sym (append-nil old))

text_none : rows_text [] ≡ []
unfolding rows_text
text_none = refl

-- before the first epoch a sink took no row
pub taken_none : (o : Option (List ℕ)) (rows : List Row) → rows ≡ [] → o ≡ extended o (rows_text rows)
taken_none o rows e = nothing_taken o ∙ ap (extended o) (sym (ap rows_text e ∙ text_none))

pub taken_first : (o : Option (List ℕ)) (sc : ScenarioOf) (c : ℕ) → IsScenario sc → c ≡ 0 → o ≡ extended o (rows_text (rows_upto (fleet_of sc) c))
taken_first o sc c ok e = taken_none o (rows_upto (fleet_of sc) c) (ap (rows_upto (fleet_of sc)) e ∙ first_rows (fleet_of sc) (let x = ok.topo.ranges.limit_from in omega arith))

-- a sink took the text of these rows, and now that of the next ones
pub taken_next : (o p q : Option (List ℕ)) (before rows after : List Row) → p ≡ extended o (rows_text before) → after ≡ before ++ rows → q ≡ extended p (rows_text rows)
    → q ≡ extended o (rows_text after)
taken_next o p q before rows after e f h =
    h ∙ ap (λ x. extended x (rows_text rows)) e ∙ extended-extended o (rows_text before) (rows_text rows)
    ∙ ap (extended o) (sym (text_parts before rows) ∙ ap rows_text (sym f))

module _ (f : Fleet NodeState Row) (c end : ℕ) (low : f.start ≤ c) (high : c ≤ end) (last : end ≤ f.topo.limit) where
  -- a sink that took the text of some rows of a run took a front of that of more rows
  pub front_upto : (o p : Option (List ℕ)) → p ≡ extended o (rows_text (rows_upto f c)) → TookFront o (rows_text (rows_upto f end)) p
  front_upto o p e =
      let b = begins f c end low high last in
      record {
        front = rows_text (rows_upto f c);
        rest = rows_text b.rest;
        parts = ap rows_text b.parts ∙ text_parts (rows_upto f c) b.rest;
        taken = e;
      }

  -- and so where a write failed in the midst of the next ones
  pub failed_upto : (o p q : Option (List ℕ)) (before rows : List Row)
      → p ≡ extended o (rows_text before) → rows_upto f c ≡ before ++ rows → TookFront p (rows_text rows) q → TookFront o (rows_text (rows_upto f end)) q
  failed_upto o p q before rows e is t =
      let b = begins f c end low high last in
      let text = rows_text before in
      record {
        front = text ++ t.front;
        rest = t.rest ++ rows_text b.rest;
        parts = ap rows_text b.parts ∙ text_parts (rows_upto f c) b.rest
            ∙ ap (λ x. x ++ rows_text b.rest) (ap rows_text is ∙ text_parts before rows ∙ ap (λ x. text ++ x) t.parts)
            ∙ ap (λ x. x ++ rows_text b.rest) (sym (append_assoc text t.front t.rest))
            ∙ append_assoc (text ++ t.front) t.rest (rows_text b.rest);
        taken = t.taken ∙ ap (λ x. extended x t.front) e ∙ extended-extended o text t.front;
      }

-- ---- the whole run

module _ (f : Fleet NodeState Row) (c : ℕ) (low : f.start ≤ c) (high : c ≤ f.topo.limit) where
  whole : (o p : Option (List ℕ)) → TookFront o (rows_text (rows_upto f f.topo.limit)) p → TookFront o (rows_text (run_rows f)) p
  whole o p t = subst (λ (l : List Row). TookFront o (rows_text l) p) (rows_whole f f.topo.limit refl) t

  pub front_taken : (o p : Option (List ℕ)) → p ≡ extended o (rows_text (rows_upto f c)) → TookFront o (rows_text (run_rows f)) p
  front_taken o p e = whole o p (front_upto f c f.topo.limit low high (omega arith) o p e)

  pub front_failed : (o p q : Option (List ℕ)) (before rows : List Row)
      → p ≡ extended o (rows_text before) → rows_upto f c ≡ before ++ rows → TookFront p (rows_text rows) q → TookFront o (rows_text (run_rows f)) q
  front_failed o p q before rows e is t = whole o q (failed_upto f c f.topo.limit low high (omega arith) o p q before rows e is t)
