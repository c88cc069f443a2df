-- One line of the pass that finds the labels.
use Rattle.std.proofs.Common.{◌≡◌, ℕ, ◌+◌, ◌<◌, if◌then◌else◌, Bool, true, false, List, ◌∷◌, Option, Some, None, length, drop, get_or, suc, refl, sym, ap, ◌∙◌, add-one}
use Rattle.std.specs.Str.{bytes_eq}
use Rattle.std.proofs.Math.Seq.{drop-cons}
use Rattle.asm_words.specs.Line.{Said, Label}
use Rattle.asm_words.specs.Labels.{kept}
use Rattle.asm_words.specs.declared.labels.Label as label
use Rattle.asm_text.specs.Source.{behind, label_in, labelled, or_else}

-- a label is kept where it was known, and else it is this one
kept_or : (b : Bool) (old : Option label.Label) (x : label.Label) (rest : Option label.Label)
    → or_else old (if b then Some x else rest) ≡ or_else (if b then kept old x else old) rest
kept_or true (Some y) x rest = refl
kept_or true None x rest = refl
kept_or false (Some y) x rest = refl
kept_or false None x rest = refl

pub label_step : (number at : ℕ) (name : List ℕ) (old new : List ℕ → Option label.Label) → ((q : List ℕ) → new q ≡ (if bytes_eq name q then kept (old q) (labelled number at) else old q))
    → (rest : List Said) (q : List ℕ) → or_else (old q) (label_in number at (Label name ∷ rest) q) ≡ or_else (new q) (label_in (number + 1) (behind at (Label name)) rest q)
label_step number at name old new h rest q =
    kept_or (bytes_eq name q) (old q) (labelled number at) (label_in (number + 1) (behind at (Label name)) rest q)
    ∙ ap (λ o. or_else o (label_in (number + 1) (behind at (Label name)) rest q)) (sym (h q))

pub ruleset label_steps = (label_step)

-- the lines from a place on are the one there and those behind it
pub from_place : {A : Type 0} (all : List A) (n : ℕ) (x : A) → n < length all → x ≡ get_or all n x → drop n all ≡ x ∷ drop (n + 1) all
from_place all n x lt e = rw add-one (drop-cons all n x lt ∙ ap (λ y. y ∷ drop (suc n) all) (sym e))
