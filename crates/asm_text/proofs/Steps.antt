-- One line of the pass that assembles.
use Rattle.std.proofs.Common.{◌≡◌, ℕ, ◌+◌, ◌==◌, List, [], ◌∷◌, Option, Ok, Err, length, drop, map, refl, sym, ap, ◌∙◌}
use Rattle.std.specs.Prelude.{IfOk, IfErr, Result}
use Rattle.std.specs.List.{slice_split}
use Rattle.std.proofs.Math.Path.{fun_ext}
use Rattle.std.proofs.Math.Seq.{drop-length}
use Rattle.asm_words.specs.Line.{Said, line_of}
use Rattle.asm_words.specs.declared.labels.Label as label
use Rattle.asm_text.specs.Source.{Progress, assembled, assembled_from, ended, label_in, lines_of, started, taken}
use Rattle.asm_text.specs.declared.fault.AsmFault.{AsmFault}

pub step_on : (labels : List ℕ → Option label.Label) (number : ℕ) (so more : Progress) (line : Said) (rest : List Said) → taken labels number so line ≡ Ok more
    → assembled_from labels number so (line ∷ rest) ≡ assembled_from labels (number + 1) more rest
unfolding assembled_from
step_on labels number so more line rest h =
    ap (λ r. elim r [ Err fault ↦ Err fault | Ok m ↦ assembled_from labels (number + 1) m rest ]) h

pub step_out : (labels : List ℕ → Option label.Label) (number : ℕ) (so : Progress) (fault : AsmFault) (line : Said) (rest : List Said) → taken labels number so line ≡ Err fault
    → assembled_from labels number so (line ∷ rest) ≡ Err fault
unfolding assembled_from
step_out labels number so fault line rest h =
    ap (λ r. elim r [ Err f ↦ Err f | Ok m ↦ assembled_from labels (number + 1) m rest ]) h

-- with no line left
pub step_end : (labels : List ℕ → Option label.Label) (number n : ℕ) (so : Progress) (all : List Said) → n ≡ length all → assembled_from labels number so (drop n all) ≡ ended so.far so.words
unfolding assembled_from
step_end labels number n so all e = ap (λ ls. assembled_from labels number so ls) (ap (λ k. drop k all) e ∙ drop-length all)

map_now : {X : Type 0} (now : X → List ℕ) (pieces : List X) → map line_of (map now pieces) ≡ map (λ p. line_of (now p)) pieces
map_now now [] = refl
map_now now (p ∷ ps) = ap (λ ls. line_of (now p) ∷ ls) (map_now now ps)

-- the program is that of the lines, by the labels that a map holds
pub whole : {X : Type 0} (now : X → List ℕ) (text : List ℕ) (pieces : List X) (look : List ℕ → Option label.Label) → map now pieces ≡ slice_split (λ b. b == 10) text
    → ((name : List ℕ) → look name ≡ label_in 0 0 (map (λ p. line_of (now p)) pieces) name)
    → assembled text ≡ assembled_from look 0 started (map (λ p. line_of (now p)) pieces)
unfolding assembled
whole now text pieces look split same =
    let lines : lines_of text ≡ map (λ p. line_of (now p)) pieces = ap (map line_of) (sym split) ∙ map_now now pieces in
    ap (λ ls. assembled_from (label_in 0 0 ls) 0 started ls) lines
    ∙ ap (λ (l : List ℕ → Option label.Label). assembled_from l 0 started (map (λ p. line_of (now p)) pieces)) (fun_ext (λ n. sym (same n)))

-- what holds of an answer's value, or of its fault, in other words
pub if_ok : {T E : Type 0} {P Q : T → Type 0} (r : Result T E) → ((x : T) → P x → Q x) → IfOk r P → IfOk r Q
if_ok (Ok x) f h = f x h
if_ok (Err e) f h = tt

pub if_err : {T E : Type 0} {P Q : E → Type 0} (r : Result T E) → ((e : E) → P e → Q e) → IfErr r P → IfErr r Q
if_err (Ok x) f h = tt
if_err (Err e) f h = f e h
