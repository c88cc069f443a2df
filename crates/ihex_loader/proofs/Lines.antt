-- Lines one after another.
use Rattle.std.proofs.Common.{◌≡◌, ℕ, ◌<◌, Bool, true, false, List, [], ◌∷◌, ◌++◌, length, get_or, max, ◌||◌, refl, sym, ap, ◌∙◌, append_assoc}
use Rattle.std.specs.List.{list_any, flat_map}
use Rattle.std.proofs.lemmas.List.{append-nil}
use Rattle.std.proofs.lemmas.List.Folds.{list_any-append}
use Rattle.std.proofs.lemmas.Grind.{flat_map-append}
use Rattle.ihex_loader.proofs.Puts.{last_put-append, used_of-append}
use Rattle.ihex_loader.specs.Line.{Line}
use Rattle.ihex_loader.specs.Image.{puts, puts_behind, base_after, last_or, is_end, bases, last_put, used_of}
use Rattle.ihex_loader.specs.Pass.{Stands}

pub Stands_nothing : (flash : List ℕ) → length flash ≡ 131072 → ((a : ℕ) → a < 131072 → get_or flash a 0 ≡ 255) → Stands [] flash 0 0 false
unfolding puts base_after
Stands_nothing flash len each = record {
  gives = record { len = len; each = each; top = refl };
  base_is = refl;
  ended_is = refl;
}

pub puts-append : (before xs ys : List Line) → puts before (xs ++ ys) ≡ puts before xs ++ puts (before ++ xs) ys
unfolding puts
puts-append before [] ys = ap (λ b. puts b ys) (sym (append-nil before))
puts-append before (x ∷ xs) ys =
    ap (λ ws. puts_behind before x ++ ws) (puts-append (before ++ x ∷ []) xs ys ∙ ap (λ b. puts (before ++ x ∷ []) xs ++ puts b ys) (append_assoc before (x ∷ []) xs))
    ∙ sym (append_assoc (puts_behind before x) (puts (before ++ x ∷ []) xs) (puts (before ++ x ∷ xs) ys))

-- one more line
pub puts-more : (before : List Line) (line : Line) → puts [] (before ++ line ∷ []) ≡ puts [] before ++ puts_behind before line
unfolding puts
puts-more before line = puts-append [] before (line ∷ []) ∙ ap (λ ws. puts [] before ++ ws) (append-nil (puts_behind before line))

pub last_or-append : (d : ℕ) (xs ys : List ℕ) → last_or d (xs ++ ys) ≡ last_or (last_or d xs) ys
last_or-append d [] ys = refl
last_or-append d (x ∷ xs) ys = last_or-append x xs ys

pub base_after-more : (before : List Line) (line : Line) → base_after (before ++ line ∷ []) ≡ last_or (base_after before) (bases line)
unfolding base_after
base_after-more before line =
    ap (last_or 0) (flat_map-append bases before (line ∷ [])) ∙ last_or-append 0 (flat_map bases before) (flat_map bases (line ∷ [])) ∙ ap (last_or (base_after before)) (append-nil (bases line))

or_false : (b : Bool) → (b || false) ≡ b
or_false true = refl
or_false false = refl

pub Stands-more : (before : List Line) (line : Line) (f g : List ℕ) (u v b c : ℕ) (e o : Bool)
    → Stands before f u b e
    → length g ≡ 131072
    → ((a : ℕ) → a < 131072 → get_or g a 0 ≡ last_put (get_or f a 0) a (puts_behind before line))
    → v ≡ max u (used_of (puts_behind before line))
    → c ≡ last_or b (bases line)
    → o ≡ (e || is_end line)
    → Stands (before ++ line ∷ []) g v c o
Stands-more before line f g u v b c e o s len each top base_is ended_is = record {
  gives = record {
    len = len;
    each = λ a lt. each a lt ∙ (ap (λ d. last_put d a (puts_behind before line)) (s.gives.each a lt)
        ∙ (sym (last_put-append 255 a (puts [] before) (puts_behind before line)) ∙ ap (last_put 255 a) (sym (puts-more before line))));
    top = top ∙ (ap (λ n. max n (used_of (puts_behind before line))) s.gives.top
        ∙ (sym (used_of-append (puts [] before) (puts_behind before line)) ∙ ap used_of (sym (puts-more before line))));
  };
  base_is = base_is ∙ (ap (λ n. last_or n (bases line)) s.base_is ∙ sym (base_after-more before line));
  ended_is = ended_is ∙ (ap (λ x. x || is_end line) s.ended_is ∙ (ap (λ x. list_any is_end before || x) (sym (or_false (is_end line))) ∙ sym (list_any-append is_end before (line ∷ []))));
}
