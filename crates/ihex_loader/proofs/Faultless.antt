-- No line of a file is faulty exactly where each is sound.
use Rattle.std.proofs.Common.{◌≡◌, ℕ, zero, suc, ◌+◌, ◌<◌, ◌≤◌, ◌&&◌, ◌||◌, Bool, true, false, Option, Some, None, List, [], ◌∷◌, ◌++◌, length, take, slice_get, take-suc, eqb, ltb, cond, append_assoc, append-nil, refl, sym, ap, ◌∙◌, subst, inl, inr, arith}
use Rattle.std.specs.List.{list_any}
use Rattle.std.proofs.lemmas.Bool.{cases_lt}
use Rattle.std.proofs.lemmas.Bool.Decides.{nat_tests}
use Rattle.std.proofs.lemmas.List.Folds.{list_any-append}
use Rattle.ihex_loader.specs.declared.fault.LineFault.{LineFault}
use Rattle.ihex_loader.specs.declared.fault.LineFault.TheVariants.{Crossing, PastFlash, AfterEnd}
use Rattle.ihex_loader.specs.declared.fault.HexFault.{HexFault}
use Rattle.ihex_loader.specs.declared.fault.HexFault.TheVariants.{NoEnd}
use Rattle.ihex_loader.specs.Line.{Line, Blank, Faulty, Record}
use Rattle.ihex_loader.specs.Image.{base_after, is_end, fault_behind, fault_or, first_fault}
use Rattle.ihex_loader.specs.Accepted.{EndsBefore, IsSound}
use Rattle.ihex_loader.proofs.Bases.{line_at, there, same_line, base_unique, base_is_last}

-- the test for an end record, and what it means
end_is : (line : Line) → is_end line ≡ true → (offset : ℕ) × (bytes : List ℕ) × (line ≡ Record 1 offset bytes)
end_is Blank e = absurd (cc)
end_is (Faulty f) e = absurd (cc)
end_is (Record k offset bytes) e = (offset, bytes, ap (λ n. Record n offset bytes) (one k e))
  where
    one : (k : ℕ) → eqb k 1 ≡ true → k ≡ 1
    one k e = grind (arith, nat_tests)

ends_more : (lines : List Line) (n : ℕ) → suc n ≤ length lines → list_any is_end (take (suc n) lines) ≡ (list_any is_end (take n lines) || is_end (line_at lines n))
ends_more lines n h =
    ap (list_any is_end) (take-suc lines n Blank (omega arith)) ∙ (list_any-append is_end (take n lines) (line_at lines n ∷ []) ∙ ap (λ b. list_any is_end (take n lines) || b) (or_false (is_end (line_at lines n))))
  where
    or_false : (b : Bool) → (b || false) ≡ b
    or_false true = refl
    or_false false = refl

pub ends_from : (lines : List Line) (n : ℕ) → n ≤ length lines → list_any is_end (take n lines) ≡ true → EndsBefore lines n
ends_from lines zero h e = absurd (cc)
ends_from lines (suc n) h e = pick (list_any is_end (take n lines)) refl (λ is. ends_from lines n (omega arith) is)
  where
    later : EndsBefore lines n → EndsBefore lines (suc n)
    later p = record { m = p.m; offset = p.offset; bytes = p.bytes; before = let lt = p.before in omega arith; line_is = p.line_is }

    pick : (b : Bool) → list_any is_end (take n lines) ≡ b → (list_any is_end (take n lines) ≡ true → EndsBefore lines n) → EndsBefore lines (suc n)
    pick true is earlier = later (earlier is)
    pick false is earlier =
        let here : is_end (line_at lines n) ≡ true = sym (ends_more lines n h ∙ ap (λ b. b || is_end (line_at lines n)) is) ∙ e in
        let r = end_is (line_at lines n) here in
        record { m = n; offset = r.0; bytes = r.1; before = omega arith; line_is = there lines n (omega arith) ∙ ap Some r.2 }

pub ends_to : (lines : List Line) (n : ℕ) → n ≤ length lines → EndsBefore lines n → list_any is_end (take n lines) ≡ true
ends_to lines zero h p = let lt = p.before in absurd (omega arith)
ends_to lines (suc n) h p = ends_more lines n h ∙ elim (cases_lt p.m n) [
  | inl early ↦
      ap (λ b. b || is_end (line_at lines n)) (ends_to lines n (omega arith) (record { m = p.m; offset = p.offset; bytes = p.bytes; before = early; line_is = p.line_is }))
  | inr late ↦
      let lt = p.before in
      let at : p.m ≡ n = omega arith in
      let here : slice_get lines n ≡ Some (Record 1 p.offset p.bytes) = subst (λ i. slice_get lines i ≡ Some (Record 1 p.offset p.bytes)) at p.line_is in
      let line : line_at lines n ≡ Record 1 p.offset p.bytes = same_line lines n _ _ (there lines n (omega arith)) here in
      ap (λ l. list_any is_end (take n lines) || is_end l) line ∙ or_true (list_any is_end (take n lines))
]
  where
    or_true : (b : Bool) → (b || true) ≡ true
    or_true true = refl
    or_true false = refl

pub no_ends : (lines : List Line) (n : ℕ) → n ≤ length lines → (EndsBefore lines n → ⊥) → list_any is_end (take n lines) ≡ false
no_ends lines n h none = pick (list_any is_end (take n lines)) refl
  where
    pick : (b : Bool) → list_any is_end (take n lines) ≡ b → list_any is_end (take n lines) ≡ false
    pick true is = absurd (none (ends_from lines n h is))
    pick false is = is

-- the tests of a record, and what they mean
abbrev record_fault : Bool → ℕ → ℕ → ℕ → ℕ → Option LineFault
record_fault e k len off at =
    cond e (Some AfterEnd) (cond ((eqb k 0 && ltb 0 len) && ltb 65536 (off + len)) (Some Crossing) (cond ((eqb k 0 && ltb 0 len) && ltb 131072 (at + off + len)) (Some PastFlash) None))

fault_open : (e : Bool) (k len off at : ℕ) → record_fault e k len off at ≡ None → e ≡ false
fault_open true k len off at h = absurd (cc)
fault_open false k len off at h = refl

fault_segment : (e : Bool) (k len off at : ℕ) → record_fault e k len off at ≡ None → k ≡ 0 → 0 < len → off + len ≤ 65536
fault_segment e k len off at h z some = grind (arith, nat_tests)

fault_flash : (e : Bool) (k len off at : ℕ) → record_fault e k len off at ≡ None → k ≡ 0 → 0 < len → at + off + len ≤ 131072
fault_flash e k len off at h z some = grind (arith, nat_tests)

fault_none : (e : Bool) (k len off at : ℕ) → e ≡ false → (k ≡ 0 → 0 < len → off + len ≤ 65536) → (k ≡ 0 → 0 < len → at + off + len ≤ 131072) → record_fault e k len off at ≡ None
fault_none e k len off at h segment flash = grind (arith, nat_tests)

pub sound_from : (lines : List Line) (n : ℕ) (line : Line) → n ≤ length lines → fault_behind (take n lines) line ≡ None → IsSound lines n line
sound_from lines n Blank h e = tt
sound_from lines n (Faulty f) h e = both (list_any is_end (take n lines)) e
  where
    both : (b : Bool) → cond b (Some AfterEnd) (Some f) ≡ None → ⊥
    both true e = cc
    both false e = cc
sound_from lines n (Record k offset bytes) h e =
    let b = list_any is_end (take n lines) in
    let at = base_after (take n lines) in (
      λ p. open_end b (ends_to lines n h p) (fault_open b k (length bytes) offset at e),
      λ z some. record {
        segment = fault_segment b k (length bytes) offset at e z some;
        flash = λ base is. subst (λ x. x + offset + length bytes ≤ 131072) (base_unique lines n at base (base_is_last lines n h) is) (fault_flash b k (length bytes) offset at e z some);
      },
    )
  where
    open_end : (b : Bool) → b ≡ true → b ≡ false → ⊥
    open_end b t f = cc

pub sound_to : (lines : List Line) (n : ℕ) (line : Line) → n ≤ length lines → IsSound lines n line → fault_behind (take n lines) line ≡ None
sound_to lines n Blank h s = refl
sound_to lines n (Faulty f) h s = absurd s
sound_to lines n (Record k offset bytes) h s =
    fault_none (list_any is_end (take n lines)) k (length bytes) offset (base_after (take n lines)) (no_ends lines n h s.0)
    (λ z some. (s.1 z some).segment)
    (λ z some. (s.1 z some).flash (base_after (take n lines)) (base_is_last lines n h))

fault_or_none : (f : Option LineFault) (number : ℕ) (later : Option HexFault) → fault_or f number later ≡ None → (f ≡ None) × (later ≡ None)
fault_or_none (Some f) number later e = absurd (cc)
fault_or_none None number later e = (refl, e)

-- each line of the rest has no fault behind those before it
abbrev pub Faultless : List Line → List Line → Type 0
Faultless before rest = (n : ℕ) (line : Line) → slice_get rest n ≡ Some line → fault_behind (before ++ take n rest) line ≡ None

pub faultless_from : (before rest : List Line) → first_fault before rest ≡ None → Faultless before rest
unfolding first_fault
faultless_from before [] e n line is = absurd (cc)
faultless_from before (x ∷ xs) e zero line is =
    let x_is : x ≡ line = cc in
    ap (λ b. fault_behind b line) (append-nil before) ∙ (ap (fault_behind before) (sym x_is) ∙ (fault_or_none _ _ _ e).0)
faultless_from before (x ∷ xs) e (suc n) line is =
    ap (λ b. fault_behind b line) (sym (append_assoc before (x ∷ []) (take n xs))) ∙ faultless_from (before ++ x ∷ []) xs (fault_or_none _ _ _ e).1 n line is

pub ended_from : (before rest : List Line) → first_fault before rest ≡ None → list_any is_end (before ++ rest) ≡ true
unfolding first_fault
ended_from before [] e = ap (list_any is_end) (append-nil before) ∙ ended (list_any is_end before) e
  where
    ended : (b : Bool) → cond b None (Some NoEnd) ≡ None → b ≡ true
    ended true e = refl
    ended false e = absurd (cc)
ended_from before (x ∷ xs) e = ap (list_any is_end) (sym (append_assoc before (x ∷ []) xs)) ∙ ended_from (before ++ x ∷ []) xs (fault_or_none _ _ _ e).1

pub no_fault_to : (before rest : List Line) → Faultless before rest → list_any is_end (before ++ rest) ≡ true → first_fault before rest ≡ None
unfolding first_fault
no_fault_to before [] none e = ap (λ b. cond b None (Some NoEnd)) (sym (ap (list_any is_end) (append-nil before)) ∙ e)
no_fault_to before (x ∷ xs) none e =
    let here : fault_behind before x ≡ None = sym (ap (λ b. fault_behind b x) (append-nil before)) ∙ none 0 x refl in
    ap (λ f. fault_or f (length before + 1) (first_fault (before ++ x ∷ []) xs)) here
    ∙ no_fault_to (before ++ x ∷ []) xs (λ n line is. ap (λ b. fault_behind b line) (append_assoc before (x ∷ []) (take n xs)) ∙ none (suc n) line is)
    (ap (list_any is_end) (append_assoc before (x ∷ []) xs) ∙ e)
