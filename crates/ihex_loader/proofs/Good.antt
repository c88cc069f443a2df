-- A line without a fault, and what the loader has after it.
use Rattle.std.proofs.Common.{◌≡◌, ◌≢◌, ℕ, ◌+◌, ◌<◌, ◌≤◌, max, ◌||◌, ◌&&◌, cond, eqb, ltb, Bool, true, false, List, [], ◌∷◌, ◌++◌, length, get_or, Some, None, refl, sym, ap, ◌∙◌, subst, arith}
use Rattle.std.specs.List.{list_any}
use Rattle.std.proofs.lemmas.Bool.Decides.{nat_tests}
use Rattle.ihex_loader.specs.declared.fault.LineFault.TheVariants.{Crossing, PastFlash, AfterEnd}
use Rattle.ihex_loader.specs.Line.{Line, Blank, Record}
use Rattle.ihex_loader.specs.Image.{fault_behind, base_after, last_or, is_end, bases, last_put, used_of, placed}
use Rattle.ihex_loader.specs.Pass.{Stands}
use Rattle.ihex_loader.proofs.Puts.{used_of-placed}
use Rattle.ihex_loader.proofs.Lines.{Stands-more}

no_fault : (e : Bool) (len off at : ℕ) → e ≡ false → off + len ≤ 65536 → at + off + len ≤ 131072
    → cond e (Some AfterEnd) (cond (ltb 0 len && ltb 65536 (off + len)) (Some Crossing) (cond (ltb 0 len && ltb 131072 (at + off + len)) (Some PastFlash) None)) ≡ None
no_fault e len off at h cross past = grind (arith, nat_tests)

used_of-some : (at : ℕ) (bs : List ℕ) → 0 < length bs → used_of (placed at bs) ≡ at + length bs
used_of-some at [] h = absurd (omega arith)
used_of-some at (b ∷ bs) h = used_of-placed at b bs

pub data_good : (before : List Line) (f g : List ℕ) (u v b off : ℕ) (bytes : List ℕ) (e o : Bool)
    → Stands before f u b e → e ≡ false → o ≡ e → off + length bytes ≤ 65536 → b + off + length bytes ≤ 131072 → 0 < length bytes
    → length g ≡ 131072
    → ((a : ℕ) → get_or g a 0 ≡ last_put (get_or f a 0) a (placed (b + off) bytes))
    → v ≡ max u (b + off + length bytes)
    → (fault_behind before (Record 0 off bytes) ≡ None) × Stands (before ++ Record 0 off bytes ∷ []) g v b o
data_good before f g u v b off bytes e o s open_still same cross past some len each top = (
  no_fault (list_any is_end before) (length bytes) off (base_after before) (sym s.ended_is ∙ open_still) cross (subst (λ n. n + off + length bytes ≤ 131072) s.base_is past),
  Stands-more before (Record 0 off bytes) f g u v b b e o s len
      (λ a lt. each a ∙ ap (λ n. last_put (get_or f a 0) a (placed (n + off) bytes)) s.base_is)
      (top ∙ (ap (max u) (sym (used_of-some (b + off) bytes some)) ∙ ap (λ n. max u (used_of (placed (n + off) bytes))) s.base_is))
      refl
      (same ∙ or_no e),
)
  where
    or_no : (x : Bool) → x ≡ (x || false)
    or_no true = refl
    or_no false = refl

no_puts : (k n : ℕ) (bs : List ℕ) → (k ≡ 0 → length bs ≡ 0) → cond (eqb k 0) (placed n bs) [] ≡ []
no_puts k n [] h = elim (eqb k 0) as (λ t. cond t (placed n []) [] ≡ []) [ true ↦ refl | false ↦ refl ]
no_puts k n (b ∷ bs) h =
    let ne : k ≢ 0 = λ e. absurd (omega (arith, h e)) in
    grind (arith, nat_tests)

-- a record that puts nothing
pub other_good : (before : List Line) (f : List ℕ) (u b c kind off : ℕ) (bytes : List ℕ) (e o : Bool)
    → Stands before f u b e → e ≡ false → (kind ≡ 0 → length bytes ≡ 0)
    → c ≡ last_or b (bases (Record kind off bytes)) → o ≡ eqb kind 1
    → (fault_behind before (Record kind off bytes) ≡ None) × Stands (before ++ Record kind off bytes ∷ []) f u c o
other_good before f u b c kind off bytes e o s open_still none base ended = (
  not_data (list_any is_end before) kind (length bytes) off (base_after before) (sym s.ended_is ∙ open_still) none,
  Stands-more before (Record kind off bytes) f f u u b c e o s s.gives.len
      (λ a lt. ap (last_put (get_or f a 0) a) (sym (no_puts kind (base_after before + off) bytes none)))
      (let z : max u 0 ≡ u = omega arith in sym z ∙ ap (λ ws. max u (used_of ws)) (sym (no_puts kind (base_after before + off) bytes none)))
      base
      (ended ∙ ap (λ x. x || eqb kind 1) (sym open_still)),
)
  where
    not_data : (x : Bool) (k len w at : ℕ) → x ≡ false → (k ≡ 0 → len ≡ 0)
        → cond x (Some AfterEnd) (cond ((eqb k 0 && ltb 0 len) && ltb 65536 (w + len)) (Some Crossing) (cond ((eqb k 0 && ltb 0 len) && ltb 131072 (at + w + len)) (Some PastFlash) None)) ≡ None
    not_data x k len w at h z = grind (arith, nat_tests)

pub blank_good : (before : List Line) (f : List ℕ) (u b : ℕ) (e : Bool)
    → Stands before f u b e → (fault_behind before Blank ≡ None) × Stands (before ++ Blank ∷ []) f u b e
blank_good before f u b e s = (
  refl,
  Stands-more before Blank f f u u b b e e s s.gives.len (λ a lt. refl) (omega arith) refl (or_no e),
)
  where
    or_no : (x : Bool) → x ≡ (x || false)
    or_no true = refl
    or_no false = refl

pub ≢-eqb-false : (m n : ℕ) → m ≢ n → eqb m n ≡ false
≢-eqb-false m n h = grind (arith, nat_tests)

pub no_base : (k b x y : ℕ) → k ≢ 2 → k ≢ 4 → b ≡ last_or b (cond (eqb k 2) (x ∷ []) (cond (eqb k 4) (y ∷ []) []))
no_base k b x y h g = rw (≢-eqb-false k 2 h, ≢-eqb-false k 4 g) refl
