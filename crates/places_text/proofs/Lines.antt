-- What the loop of the reader keeps: what is still read, put behind what was read before, is what the whole is.
use Rattle.std.proofs.Common.{◌≡◌, ◌≢◌, ℕ, ◌+◌, true, false, eqb, List, [], ◌∷◌, ◌++◌, length, Result, Ok, Err, refl, sym, ap, subst, ◌∙◌, append_assoc}
use Rattle.std.proofs.lemmas.List.{append-nil}
use Rattle.node_places.specs.declared.Place.{Place}
use Rattle.state_text.specs.Parts.{parts_of, pieces_of}
use Rattle.state_text.proofs.Pieces.{left_none, some_piece}
use Rattle.places_text.specs.Places.{◌>>=◌, next_place, places_from, rank, refused}
use Rattle.places_text.specs.Reading.{Fails}
use Rattle.places_text.specs.declared.fault.LineFault.TheVariants.{BadLine}
use Rattle.places_text.specs.declared.fault.PlacesFault.{PlacesFault}
use Rattle.places_text.specs.declared.fault.PlacesFault.TheVariants as fault

abbrev pub behind : List Place → Result (List Place) PlacesFault → Result (List Place) PlacesFault
behind front read = read >>= λ ps. Ok (front ++ ps)

-- a fault of what is still read is the fault of all
pub fails_on : (e : PlacesFault) (front : List Place) (now start : Result (List Place) PlacesFault) → Fails e now → behind front now ≡ start → Fails e start
fails_on (fault.AtLine line why) front now start f same = sym same ∙ ap (behind front) f
fails_on fault.Empty front now start f same = sym same ∙ ap (behind front) f
fails_on fault.NoMemory front now start f same = tt

fails_bind : {A B : Type 0} (e : PlacesFault) (r : Result A PlacesFault) (f : A → Result B PlacesFault) → Fails e r → Fails e (r >>= f)
fails_bind (fault.AtLine line why) r f h = ap (λ x. x >>= f) h
fails_bind fault.Empty r f h = ap (λ x. x >>= f) h
fails_bind fault.NoMemory r f h = tt

-- a fault that is no want of memory is that of the text
pub gave_fault : (e : PlacesFault) (read : Result (List Place) PlacesFault) → e ≢ fault.NoMemory → Fails e read → read ≡ Err e
gave_fault (fault.AtLine line why) read other h = h
gave_fault fault.Empty read other h = h
gave_fault fault.NoMemory read other h = absurd (other refl)

-- one more
regroup : (front : List Place) (p : Place) (read : Result (List Place) PlacesFault) → behind front (read >>= λ ps. Ok (p ∷ ps)) ≡ behind (front ++ p ∷ []) read
regroup front p (Ok ps) = ap Ok (sym (append_assoc front (p ∷ []) ps))
regroup front p (Err e) = refl

-- and no more
pub no_more : (front : List Place) (now start : Result (List Place) PlacesFault) → now ≡ Ok [] → behind front now ≡ start → start ≡ Ok front
no_more front now start is so_far = sym so_far ∙ (ap (behind front) is ∙ ap Ok (append-nil front))

-- what a line and the text behind it leave
abbrev and_more : ℕ → ℕ → List (List ℕ) → Place → Result (List Place) PlacesFault
and_more nodes line pieces p = (places_from nodes line (rank p + 1) pieces >>= λ ps. Ok (p ∷ ps))

first_line : (nodes line least : ℕ) (text words rest : List ℕ) → pieces_of text ≡ words ∷ pieces_of rest
    → places_from nodes line least (pieces_of text) ≡ (next_place nodes line least (parts_of words) >>= and_more nodes (line + 1) (pieces_of rest))
unfolding places_from
first_line nodes line least text words rest cut =
    let more = some_piece (λ b. eqb b 10) rest in
    let whole : pieces_of text ≡ words ∷ more.0 ∷ more.1 = cut ∙ ap (λ ps. words ∷ ps) more.2 in
    ap (places_from nodes line least) whole ∙ ap (λ ps. next_place nodes line least (parts_of words) >>= and_more nodes (line + 1) ps) (sym more.2)

pub one_line : (nodes line least next : ℕ) (text words rest : List ℕ) (front : List Place) (p : Place) (start : Result (List Place) PlacesFault) → pieces_of text ≡ words ∷ pieces_of rest
    → next_place nodes line least (parts_of words) ≡ Ok p → next ≡ rank p + 1 → behind front (places_from nodes line least (pieces_of text)) ≡ start
    → behind (front ++ p ∷ []) (places_from nodes (line + 1) next (pieces_of rest)) ≡ start
one_line nodes line least next text words rest front p start cut is behind_it so_far =
    let now : places_from nodes line least (pieces_of text) ≡ and_more nodes (line + 1) (pieces_of rest) p =
    first_line nodes line least text words rest cut ∙ ap (λ r. r >>= and_more nodes (line + 1) (pieces_of rest)) is in
    ap (λ n. behind (front ++ p ∷ []) (places_from nodes (line + 1) n (pieces_of rest))) behind_it
    ∙ (sym (regroup front p (places_from nodes (line + 1) (rank p + 1) (pieces_of rest))) ∙ (ap (behind front) (sym now) ∙ so_far))

pub line_fails : (e : PlacesFault) (nodes line least : ℕ) (text words rest : List ℕ) → pieces_of text ≡ words ∷ pieces_of rest → Fails e (next_place nodes line least (parts_of words))
    → Fails e (places_from nodes line least (pieces_of text))
line_fails e nodes line least text words rest cut h =
    subst (λ r. Fails e r) (sym (first_line nodes line least text words rest cut)) (fails_bind e (next_place nodes line least (parts_of words)) (and_more nodes (line + 1) (pieces_of rest)) h)

-- a text that does not end with LF
pub unended : (nodes line least : ℕ) (text : List ℕ) → eqb (length text) 0 ≡ false → pieces_of text ≡ text ∷ [] → places_from nodes line least (pieces_of text) ≡ refused line BadLine
unfolding places_from
unended nodes line least [] some cut = absurd cc
unended nodes line least (c ∷ cs) some cut = ap (places_from nodes line least) cut

pub ended : (nodes line least : ℕ) (text : List ℕ) → eqb (length text) 0 ≡ true → places_from nodes line least (pieces_of text) ≡ Ok []
unfolding places_from
ended nodes line least text none = ap (places_from nodes line least) (left_none text none)
