-- A label is added where there is none of its name.
use Rattle.std.proofs.Common.{◌≡◌, ℕ, List, Bool, true, false, Option, Some, None, cond, if◌then◌else◌, refl, sym, ap, ◌∙◌}
use Rattle.std.specs.Str.{bytes_eq}
use Rattle.std.proofs.lemmas.Slice.Eq.{bytes_eq-Decides}
use Rattle.asm_words.specs.Labels.{kept}
use Rattle.asm_words.specs.declared.labels.Label.{Label}

added_if : (b : Bool) (old : List ℕ → Option Label) (name q : List ℕ) (x : Label) → bytes_eq name q ≡ b → old name ≡ None → cond b (Some x) (old q) ≡ (if b then kept (old q) x else old q)
added_if true old name q x e none =
    let same : name ≡ q = (bytes_eq-Decides name q).0 e in
    let gone : old q ≡ None = ap old (sym same) ∙ none in
    rw gone refl
added_if false old name q x e none = refl

pub added : (old : List ℕ → Option Label) (name q : List ℕ) (x : Label) → old name ≡ None → cond (bytes_eq name q) (Some x) (old q) ≡ (if bytes_eq name q then kept (old q) x else old q)
added old name q x none = added_if (bytes_eq name q) old name q x refl none

known_if : (b : Bool) (old : List ℕ → Option Label) (name q : List ℕ) (x y : Label) → bytes_eq name q ≡ b → old name ≡ Some y → old q ≡ (if b then kept (old q) x else old q)
known_if true old name q x y e some =
    let same : name ≡ q = (bytes_eq-Decides name q).0 e in
    let there : old q ≡ Some y = ap old (sym same) ∙ some in
    rw there refl
known_if false old name q x y e some = refl

pub known : (old : List ℕ → Option Label) (name q : List ℕ) (x y : Label) → old name ≡ Some y → old q ≡ (if bytes_eq name q then kept (old q) x else old q)
known old name q x y some = known_if (bytes_eq name q) old name q x y refl some
