-- One pass over the lines finds the first fault.
use Rattle.std.proofs.Common.{◌≡◌, ℕ, suc, ◌+◌, ◌<◌, add-one, cond, Bool, List, [], ◌∷◌, ◌++◌, length, get_or, map, take, drop, Some, None, refl, sym, ap, ◌∙◌, subst, arith}
use Rattle.std.specs.List.{list_any}
use Rattle.std.proofs.lemmas.List.{take_more, length-take-le, get_or-map, length-map}
use Rattle.std.proofs.Math.Seq.{drop-cons, take-length, drop-length}
use Rattle.ihex_loader.specs.declared.fault.LineFault.{LineFault}
use Rattle.ihex_loader.specs.declared.fault.HexFault.TheVariants.{NoEnd}
use Rattle.ihex_loader.specs.Fault.{at_line}
use Rattle.std.specs.List.{range_with_len}
use Rattle.std.proofs.lemmas.List.FromFn.{fill_by_all, length-range_with_len, length-map-range_with_len, get_or-range_with_len}
use Rattle.ihex_loader.specs.Flash.{Image}
use Rattle.ihex_loader.specs.Pass.{Stands, Gives}
use Rattle.ihex_loader.specs.Line.{Line}
use Rattle.ihex_loader.specs.Image.{fault_behind, first_fault, fault_or, is_end, bytes_given, last_put, puts, image, lines_of}

front : (all : List Line) (n : ℕ) (line : Line) → n < length all → line ≡ get_or all n line → drop n all ≡ line ∷ drop (n + 1) all
front all n line lt e = rw add-one (drop-cons all n line lt ∙ ap (λ x. x ∷ drop (suc n) all) (sym e))

pub first_fault-turn : (all : List Line) (n : ℕ) (line : Line) → n < length all → line ≡ get_or all n line
    → first_fault (take n all) (drop n all) ≡ fault_or (fault_behind (take n all) line) (n + 1) (first_fault (take n all ++ line ∷ []) (drop (n + 1) all))
unfolding first_fault
first_fault-turn all n line lt e =
    ap (first_fault (take n all)) (front all n line lt e)
    ∙ ap (λ k. fault_or (fault_behind (take n all) line) (k + 1) (first_fault (take n all ++ line ∷ []) (drop (n + 1) all))) (length-take-le n all (omega arith))

pub take-turn : (all : List Line) (n : ℕ) (line : Line) → n < length all → line ≡ get_or all n line → take (n + 1) all ≡ take n all ++ line ∷ []
take-turn all n line lt e = take_more all n line lt ∙ ap (λ x. take n all ++ x ∷ []) (sym e)

pub first_fault-pass : (all : List Line) (n : ℕ) (line : Line) → n < length all → line ≡ get_or all n line
    → fault_behind (take n all) line ≡ None
    → first_fault (take n all) (drop n all) ≡ first_fault (take (n + 1) all) (drop (n + 1) all)
first_fault-pass all n line lt e none =
    first_fault-turn all n line lt e
    ∙ (ap (λ f. fault_or f (n + 1) (first_fault (take n all ++ line ∷ []) (drop (n + 1) all))) none
    ∙ ap (λ b. first_fault b (drop (n + 1) all)) (sym (take-turn all n line lt e)))

pub first_fault-found : (all : List Line) (n : ℕ) (line : Line) (f : LineFault) → n < length all → line ≡ get_or all n line
    → fault_behind (take n all) line ≡ Some f
    → first_fault (take n all) (drop n all) ≡ Some (at_line f (n + 1))
first_fault-found all n line f lt e some =
    first_fault-turn all n line lt e ∙ ap (λ g. fault_or g (n + 1) (first_fault (take n all ++ line ∷ []) (drop (n + 1) all))) some

pub first_fault-end : (all : List Line) (n : ℕ) → n ≡ length all
    → first_fault (take n all) (drop n all) ≡ cond (list_any is_end all) None (Some NoEnd)
unfolding first_fault
first_fault-end all n e =
    ap (λ k. first_fault (take k all) (drop k all)) e
    ∙ (ap (λ b. first_fault b (drop (length all) all)) (take-length all) ∙ ap (first_fault all) (drop-length all))

-- a piece of the text and the line that it is
pub line_turn : {A B : Type 0} (f : A → B) (pieces : List A) (n : ℕ) (x : A) → (n < length pieces) × (x ≡ get_or pieces n x)
    → (n < length (map f pieces)) × (f x ≡ get_or (map f pieces) n (f x))
line_turn f pieces n x t = (
  rw (length-map pieces f) t.0,
  ap f t.1 ∙ sym (get_or-map f pieces n x (f x) t.0),
)

-- after the last line
pub at_end : (all : List Line) (n : ℕ) (f : List ℕ) (u b : ℕ) (e : Bool) → n ≡ length all → Stands (take n all) f u b e → Stands all f u b e
at_end all n f u b e len s = subst (λ lines. Stands lines f u b e) (ap (λ k. take k all) len ∙ take-length all) s

pub fault_at_end : (all : List Line) (n : ℕ) (f : List ℕ) (u b : ℕ) (e x : Bool) → n ≡ length all → Stands (take n all) f u b e → e ≡ x
    → first_fault [] all ≡ first_fault (take n all) (drop n all) → first_fault [] all ≡ cond x None (Some NoEnd)
fault_at_end all n f u b e x len s is same =
    same ∙ (first_fault-end all n len ∙ ap (λ t. cond t None (Some NoEnd)) (sym (at_end all n f u b e len s).ended_is ∙ is))

flash_given : (lines : List Line) (n : ℕ) (flash : List ℕ) → length flash ≡ n → ((a : ℕ) → a < n → get_or flash a 0 ≡ last_put 255 a (puts [] lines)) → flash ≡ bytes_given n lines
unfolding bytes_given
flash_given lines n flash len each = fill_by_all (λ a. last_put 255 a (puts [] lines)) flash n 0 len each

-- a flash that the lines give is the flash of the image
pub image_given : (bytes flash : List ℕ) (used : ℕ) → Gives (lines_of bytes) flash used → let i : Image = record { bytes = flash; used = used } in i ≡ image bytes
unfolding image
image_given bytes flash used g =
    let e = flash_given (lines_of bytes) 131072 flash g.len g.each in
    ap (λ f. let i : Image = record { bytes = f; used = used } in i) e ∙ ap (λ u. let i : Image = record { bytes = bytes_given 131072 (lines_of bytes); used = u } in i) g.top

bytes_given-gives : (n : ℕ) (lines : List Line) → (length (bytes_given n lines) ≡ n) × ((a : ℕ) → a < n → get_or (bytes_given n lines) a 0 ≡ last_put 255 a (puts [] lines))
unfolding bytes_given
bytes_given-gives n lines = (
  length-map-range_with_len (λ a. last_put 255 a (puts [] lines)) 0 n,
  λ a lt.
      let zero_more : 0 + a ≡ a = omega arith in
      get_or-map (λ k. last_put 255 k (puts [] lines)) (range_with_len 0 n) a 0 0 (let e = length-range_with_len 0 n in omega arith)
      ∙ ap (λ k. last_put 255 k (puts [] lines)) (get_or-range_with_len 0 n a 0 lt ∙ zero_more),
)

-- and that flash is one that the lines give
pub gives_image : (bytes : List ℕ) → Gives (lines_of bytes) (image bytes).bytes (image bytes).used
unfolding image
gives_image bytes = let g = bytes_given-gives 131072 (lines_of bytes) in record { len = g.0; each = g.1; top = refl }
