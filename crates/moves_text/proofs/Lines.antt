-- What the loops of the reader keep: what is still read, put behind what was read before, is what the whole is.
use Rattle.std.proofs.Common.{◌≡◌, ◌≢◌, ℕ, suc, ◌+◌, ◌<◌, ◌≤◌, true, false, eqb, List, [], ◌∷◌, ◌++◌, length, Option, Some, None, Result, Ok, Err, refl, sym, ap, subst, ◌∙◌, append_assoc, arith}
use Rattle.std.proofs.lemmas.List.{append-nil}
use Rattle.serial_ports.specs.Script.{StretchBytes}
use Rattle.state_text.specs.Parts.{parts_of, pieces_of}
use Rattle.state_text.proofs.Pieces.{left_none, some_piece}
use Rattle.moves_text.specs.Moves.{◌>>=◌, MoveOf, move_of, moves_from, refused, room_behind, stretch_in, stretches_in}
use Rattle.moves_text.specs.Reading.{Fails, next_stretch}
use Rattle.moves_text.specs.declared.fault.LineFault.TheVariants.{BadLine}
use Rattle.moves_text.specs.declared.fault.MovesFault.{MovesFault}
use Rattle.moves_text.specs.declared.fault.MovesFault.TheVariants as fault
use Rattle.moves_text.specs.declared.room.Room.{Room}

abbrev pub behind : {A : Type 0} → List A → Result (List A) MovesFault → Result (List A) MovesFault
behind front read = read >>= λ xs. Ok (front ++ xs)

-- a fault of what is still read is the fault of all
pub fails_on : {A : Type 0} (e : MovesFault) (front : List A) (now start : Result (List A) MovesFault) → Fails e now → behind front now ≡ start → Fails e start
fails_on (fault.AtLine line why) front now start f same = sym same ∙ ap (behind front) f
fails_on fault.Empty front now start f same = sym same ∙ ap (behind front) f
fails_on fault.NoMemory front now start f same = tt

pub fails_bind : {A B : Type 0} (e : MovesFault) (r : Result A MovesFault) (f : A → Result B MovesFault) → Fails e r → Fails e (r >>= f)
fails_bind (fault.AtLine line why) r f h = ap (λ x. x >>= f) h
fails_bind fault.Empty r f h = ap (λ x. x >>= f) h
fails_bind fault.NoMemory r f h = tt

-- a fault that is no want of memory is that of the text
pub gave_fault : {A : Type 0} (e : MovesFault) (read : Result A MovesFault) → e ≢ fault.NoMemory → Fails e read → read ≡ Err e
gave_fault (fault.AtLine line why) read other h = h
gave_fault fault.Empty read other h = h
gave_fault fault.NoMemory read other h = absurd (other refl)

-- one more
regroup : {A : Type 0} (front : List A) (x : A) (read : Result (List A) MovesFault) → behind front (read >>= λ xs. Ok (x ∷ xs)) ≡ behind (front ++ x ∷ []) read
regroup front x (Ok xs) = ap Ok (sym (append_assoc front (x ∷ []) xs))
regroup front x (Err e) = refl

one_more : {A : Type 0} (front : List A) (x : A) (now rest start : Result (List A) MovesFault) → now ≡ (rest >>= λ xs. Ok (x ∷ xs)) → behind front now ≡ start → behind (front ++ x ∷ []) rest ≡ start
one_more front x now rest start is so_far = sym (regroup front x rest) ∙ (ap (behind front) (sym is) ∙ so_far)

-- and no more
pub no_more : {A : Type 0} (front : List A) (now start : Result (List A) MovesFault) → now ≡ Ok [] → behind front now ≡ start → start ≡ Ok front
no_more front now start is so_far = sym so_far ∙ (ap (behind front) is ∙ ap Ok (append-nil front))

pub some_left : (xs : List ℕ) → eqb (length xs) 0 ≡ false → 1 ≤ length xs
some_left [] h = absurd cc
some_left (x ∷ xs) h = omega arith

-- ---- the stretches of a line

abbrev after : ℕ → Room → Option (StretchBytes × List (List ℕ)) → Result (List StretchBytes) MovesFault
after line room None = Ok []
after line room (Some x) = (stretches_in line (room_behind room x.0) x.1 >>= λ ss. Ok (x.0 ∷ ss))

taken : (line : ℕ) (room : Room) (words : List (List ℕ)) (read : Result StretchBytes MovesFault)
    → (read >>= λ s. stretches_in line (room_behind room s) words >>= λ ss. Ok (s ∷ ss)) ≡ ((read >>= λ s. Ok (Some (s, words))) >>= after line room)
taken line room words (Ok s) = refl
taken line room words (Err e) = refl

stretches_are : (line : ℕ) (room : Room) (words : List (List ℕ)) → stretches_in line room words ≡ (next_stretch line room words >>= after line room)
unfolding stretches_in next_stretch
stretches_are line room [] = refl
stretches_are line room (a ∷ []) = refl
stretches_are line room (a ∷ b ∷ []) = refl
stretches_are line room (a ∷ b ∷ c ∷ words) = taken line room words (stretch_in line room a b c)

pub stretch_fails : (e : MovesFault) (line : ℕ) (room : Room) (words : List (List ℕ)) → Fails e (next_stretch line room words) → Fails e (stretches_in line room words)
stretch_fails e line room words h = subst (λ r. Fails e r) (sym (stretches_are line room words)) (fails_bind e (next_stretch line room words) (after line room) h)

pub no_stretch : (line : ℕ) (room : Room) (words : List (List ℕ)) → next_stretch line room words ≡ Ok None → stretches_in line room words ≡ Ok []
no_stretch line room words h = stretches_are line room words ∙ ap (λ r. r >>= after line room) h

pub one_stretch : (line : ℕ) (room next : Room) (words more : List (List ℕ)) (front : List StretchBytes) (s : StretchBytes) (start : Result (List StretchBytes) MovesFault)
    → next_stretch line room words ≡ Ok (Some (s, more)) → next ≡ room_behind room s → behind front (stretches_in line room words) ≡ start → behind (front ++ s ∷ []) (stretches_in line next more) ≡ start
one_stretch line room next words more front s start h n so_far =
    let is : stretches_in line room words ≡ (stretches_in line next more >>= λ ss. Ok (s ∷ ss)) =
    stretches_are line room words ∙ (ap (λ r. r >>= after line room) h ∙ ap (λ r. stretches_in line r more >>= λ ss. Ok (s ∷ ss)) (sym n)) in
    one_more front s (stretches_in line room words) (stretches_in line next more) start is so_far

-- a stretch takes words
abbrev step : List (List ℕ) → StretchBytes → Result (Option (StretchBytes × List (List ℕ))) MovesFault
step words s = Ok (Some (s, words))

abbrev left : Result (Option (StretchBytes × List (List ℕ))) MovesFault → ℕ
left (Ok None) = 0
left (Ok (Some x)) = length x.1
left (Err e) = 0

fewer_from : (words more : List (List ℕ)) (s : StretchBytes) (read : Result StretchBytes MovesFault) → (read >>= step words) ≡ step more s → length more ≡ length words
fewer_from words more s (Ok t) h = sym (ap left h)
fewer_from words more s (Err e) h = absurd cc

pub fewer_words : (line : ℕ) (room : Room) (words more : List (List ℕ)) (s : StretchBytes) → next_stretch line room words ≡ Ok (Some (s, more)) → length more < length words
unfolding next_stretch
fewer_words line room [] more s h = absurd cc
fewer_words line room (a ∷ []) more s h = absurd cc
fewer_words line room (a ∷ b ∷ []) more s h = absurd cc
fewer_words line room (a ∷ b ∷ c ∷ words) more s h = let e = fewer_from words more s (stretch_in line room a b c) h in omega (arith, e)

-- ---- lines

-- what a line and the text behind it leave
abbrev and_more : ℕ → ℕ → List (List ℕ) → MoveOf → Result (List MoveOf) MovesFault
and_more nodes line pieces m = (moves_from nodes line pieces >>= λ ms. Ok (m ∷ ms))

first_line : (nodes line : ℕ) (text words rest : List ℕ) → pieces_of text ≡ words ∷ pieces_of rest
    → moves_from nodes line (pieces_of text) ≡ (move_of nodes line (parts_of words) >>= and_more nodes (line + 1) (pieces_of rest))
unfolding moves_from
first_line nodes line text words rest cut =
    let more = some_piece (λ b. eqb b 10) rest in
    let whole : pieces_of text ≡ words ∷ more.0 ∷ more.1 = cut ∙ ap (λ ps. words ∷ ps) more.2 in
    ap (moves_from nodes line) whole ∙ ap (λ ps. move_of nodes line (parts_of words) >>= and_more nodes (line + 1) ps) (sym more.2)

pub one_line : (nodes line : ℕ) (text words rest : List ℕ) (front : List MoveOf) (m : MoveOf) (start : Result (List MoveOf) MovesFault) → pieces_of text ≡ words ∷ pieces_of rest
    → move_of nodes line (parts_of words) ≡ Ok m → behind front (moves_from nodes line (pieces_of text)) ≡ start → behind (front ++ m ∷ []) (moves_from nodes (line + 1) (pieces_of rest)) ≡ start
one_line nodes line text words rest front m start cut is so_far =
    one_more front m (moves_from nodes line (pieces_of text)) (moves_from nodes (line + 1) (pieces_of rest)) start
    (first_line nodes line text words rest cut ∙ ap (λ r. r >>= and_more nodes (line + 1) (pieces_of rest)) is) so_far

pub line_fails : (e : MovesFault) (nodes line : ℕ) (text words rest : List ℕ) → pieces_of text ≡ words ∷ pieces_of rest → Fails e (move_of nodes line (parts_of words))
    → Fails e (moves_from nodes line (pieces_of text))
line_fails e nodes line text words rest cut h =
    subst (λ r. Fails e r) (sym (first_line nodes line text words rest cut)) (fails_bind e (move_of nodes line (parts_of words)) (and_more nodes (line + 1) (pieces_of rest)) h)

-- a text that does not end with LF
pub unended : (nodes line : ℕ) (text : List ℕ) → eqb (length text) 0 ≡ false → pieces_of text ≡ text ∷ [] → moves_from nodes line (pieces_of text) ≡ refused line BadLine
unfolding moves_from
unended nodes line [] some cut = absurd cc
unended nodes line (c ∷ cs) some cut = ap (moves_from nodes line) cut

pub ended : (nodes line : ℕ) (text : List ℕ) → eqb (length text) 0 ≡ true → moves_from nodes line (pieces_of text) ≡ Ok []
unfolding moves_from
ended nodes line text none = ap (moves_from nodes line) (left_none text none)
