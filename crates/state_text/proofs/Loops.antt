-- What the loops of the reader keep.
use Rattle.std.proofs.Common.{◌≡◌, ℕ, suc, ◌+◌, ◌-◌, ◌<◌, ◌≤◌, Bool, true, false, cond, eqb, ◌&&◌, List, [], ◌∷◌, ◌++◌, length, Option, Some, Result, Ok, Err, codes, refl, sym, ap, subst, ◌∙◌, append_assoc, arith, inl, inr}
use Rattle.std.specs.List.{list_all}
use Rattle.std.specs.Str.{bytes_eq}
use Rattle.std.proofs.lemmas.Bool.{cases_eq, eq-eqb, ne_eqb, and_left, and_right}
use Rattle.std.proofs.lemmas.List.{append-nil}
use Rattle.air_base.specs.declared.air.Send.{Send}
use Rattle.world_core.specs.Topology.{Topology}
use Rattle.state_text.specs.declared.fault.StateFault.{StateFault}
use Rattle.state_text.specs.declared.fault.StateFault.TheVariants as fault
use Rattle.state_text.specs.Parts.{is_decimal}
use Rattle.state_text.specs.Text.{NodeOf}
use Rattle.state_text.specs.Bounds.{Rules}
use Rattle.state_text.specs.Reading.{◌>>=◌, Fails, Place, place, next_line, line_in, over, send_of, sends_in, node_at, nodes_at}

-- what is still read, put behind what was read before
abbrev pub onward : {A B : Type 0} → (A → B) → Result A StateFault → Result B StateFault
onward g read = read >>= λ x. Ok (g x)

abbrev pub with_sends : List Send → Result (List Send) StateFault → Result (List Send) StateFault
with_sends front read = onward (λ xs. front ++ xs) read

abbrev pub with_nodes : List NodeOf → Result (List NodeOf × Place) StateFault → Result (List NodeOf × Place) StateFault
with_nodes front read = onward (λ x. (front ++ x.0, x.1)) read

-- a fault of what is still read is the fault of all
pub fails_on : {A B : Type 0} (e : StateFault) (g : A → B) (now : Result A StateFault) (start : Result B StateFault) → Fails e now → onward g now ≡ start → Fails e start
fails_on (fault.NotAState n) g now start f same = sym same ∙ ap (onward g) f
fails_on (fault.OutOfBounds n) g now start f same = sym same ∙ ap (onward g) f
fails_on fault.PastEnd g now start f same = sym same ∙ ap (onward g) f
fails_on fault.NoMemory g now start f same = tt

pub fails_bind : {A B : Type 0} (e : StateFault) (r : Result A StateFault) (f : A → Result B StateFault) → Fails e r → Fails e (r >>= f)
fails_bind (fault.NotAState n) r f h = ap (λ x. x >>= f) h
fails_bind (fault.OutOfBounds n) r f h = ap (λ x. x >>= f) h
fails_bind fault.PastEnd r f h = ap (λ x. x >>= f) h
fails_bind fault.NoMemory r f h = tt

-- ---- sends

abbrev pub after_line : Topology → ℕ → Option Send → ℕ → List ℕ × Place → Result (List Send) StateFault
after_line t cycle before number l =
    cond (bytes_eq l.0 (codes "end")) (over l.1.number l.1.pieces)
    (send_of t cycle before number l.0 >>= λ x. sends_in t cycle (Some x) l.1.number l.1.pieces >>= λ xs. Ok (x ∷ xs))

pub sends_are : (t : Topology) (cycle : ℕ) (before : Option Send) (number : ℕ) (pieces : List (List ℕ)) → sends_in t cycle before number pieces ≡ (line_in number pieces >>= λ l. after_line t cycle before number l)
unfolding sends_in
sends_are t cycle before number [] = refl
sends_are t cycle before number (last ∷ []) = refl
sends_are t cycle before number (line ∷ more ∷ pieces) = refl

sends_behind : (t : Topology) (cycle : ℕ) (before : Option Send) (at : Place) (line : List ℕ) (next : Place) → next_line at ≡ Ok (line, next) → sends_in t cycle before at.number at.pieces ≡ after_line t cycle before at.number (line, next)
sends_behind t cycle before at line next h = sends_are t cycle before at.number at.pieces ∙ ap (λ r. r >>= λ l. after_line t cycle before at.number l) h

pub line_fails : (e : StateFault) (t : Topology) (cycle : ℕ) (before : Option Send) (at : Place) → Fails e (next_line at) → Fails e (sends_in t cycle before at.number at.pieces)
line_fails e t cycle before at h = subst (λ r. Fails e r) (sym (sends_are t cycle before at.number at.pieces)) (fails_bind e (next_line at) (λ l. after_line t cycle before at.number l) h)

-- at `end`
pub sends_end : (t : Topology) (cycle : ℕ) (before : Option Send) (at : Place) (line : List ℕ) (next : Place) → next_line at ≡ Ok (line, next) → bytes_eq line (codes "end") ≡ true → sends_in t cycle before at.number at.pieces ≡ over next.number next.pieces
sends_end t cycle before at line next h is_end = sends_behind t cycle before at line next h ∙ rw is_end refl

-- at another line
pub sends_more : (t : Topology) (cycle : ℕ) (before : Option Send) (at : Place) (line : List ℕ) (next : Place) → next_line at ≡ Ok (line, next) → bytes_eq line (codes "end") ≡ false
    → sends_in t cycle before at.number at.pieces ≡ (send_of t cycle before at.number line >>= λ x. sends_in t cycle (Some x) next.number next.pieces >>= λ xs. Ok (x ∷ xs))
sends_more t cycle before at line next h no_end = sends_behind t cycle before at line next h ∙ rw no_end refl

pub over_fails : (e : StateFault) (t : Topology) (cycle : ℕ) (before : Option Send) (at : Place) (line : List ℕ) (next : Place) → next_line at ≡ Ok (line, next) → bytes_eq line (codes "end") ≡ true → Fails e (over next.number next.pieces) → Fails e (sends_in t cycle before at.number at.pieces)
over_fails e t cycle before at line next h is_end f = subst (λ r. Fails e r) (sym (sends_end t cycle before at line next h is_end)) f

pub send_fails : (e : StateFault) (t : Topology) (cycle : ℕ) (before : Option Send) (at : Place) (line : List ℕ) (next : Place) → next_line at ≡ Ok (line, next) → bytes_eq line (codes "end") ≡ false → Fails e (send_of t cycle before at.number line) → Fails e (sends_in t cycle before at.number at.pieces)
send_fails e t cycle before at line next h no_end f = subst (λ r. Fails e r) (sym (sends_more t cycle before at line next h no_end)) (fails_bind e (send_of t cycle before at.number line) _ f)

regroup : (front : List Send) (x : Send) (read : Result (List Send) StateFault) → with_sends front (read >>= λ xs. Ok (x ∷ xs)) ≡ with_sends (front ++ x ∷ []) read
regroup front x (Ok xs) = ap Ok (sym (append_assoc front (x ∷ []) xs))
regroup front x (Err e) = refl

pub one_send : (t : Topology) (cycle : ℕ) (before : Option Send) (at : Place) (line : List ℕ) (next : Place) (front : List Send) (x : Send) (start : Result (List Send) StateFault) → next_line at ≡ Ok (line, next) → bytes_eq line (codes "end") ≡ false
    → send_of t cycle before at.number line ≡ Ok x → with_sends front (sends_in t cycle before at.number at.pieces) ≡ start → with_sends (front ++ x ∷ []) (sends_in t cycle (Some x) next.number next.pieces) ≡ start
one_send t cycle before at line next front x start h no_end is so_far =
    let e : sends_in t cycle before at.number at.pieces ≡ (sends_in t cycle (Some x) next.number next.pieces >>= λ xs. Ok (x ∷ xs)) =
    sends_more t cycle before at line next h no_end ∙ rw is refl in
    sym (regroup front x (sends_in t cycle (Some x) next.number next.pieces)) ∙ (ap (with_sends front) (sym e) ∙ so_far)

-- a line that was taken is one piece less
fewer : (number : ℕ) (pieces : List (List ℕ)) (line : List ℕ) (next : Place) → line_in number pieces ≡ Ok (line, next) → length next.pieces < length pieces
fewer number [] line next h = absurd cc
fewer number (last ∷ []) line next h = absurd cc
fewer number (l ∷ more ∷ pieces) line next h =
    let e : (l, place (number + 1) (more ∷ pieces)) ≡ (line, next) = cc in
    let k : place (number + 1) (more ∷ pieces) ≡ next = ap (λ (x : List ℕ × Place). x.1) e in
    rw (← k) (omega arith)

pub fewer_pieces : (at : Place) (line : List ℕ) (next : Place) → next_line at ≡ Ok (line, next) → length next.pieces < length at.pieces
fewer_pieces at line next h = fewer at.number at.pieces line next h

-- ---- nodes

regroup_nodes : (front : List NodeOf) (n : NodeOf) (read : Result (List NodeOf × Place) StateFault) → with_nodes front (read >>= λ x. Ok (n ∷ x.0, x.1)) ≡ with_nodes (front ++ n ∷ []) read
regroup_nodes front n (Ok x) = ap (λ (ns : List NodeOf). Ok (ns, x.1)) (sym (append_assoc front (n ∷ []) x.0))
regroup_nodes front n (Err e) = refl

nodes_more : (r : Rules) (cycle k count : ℕ) (at : Place) → k < count → nodes_at r cycle k (count - k) at ≡ (node_at r cycle k at >>= λ n. nodes_at r cycle (k + 1) (count - (k + 1)) n.1 >>= λ x. Ok (n.0 ∷ x.0, x.1))
unfolding nodes_at
nodes_more r cycle k count at lt =
    let n : count - k ≡ suc (count - (k + 1)) = omega arith in
    rw n refl

pub one_node : (r : Rules) (cycle k count : ℕ) (at next : Place) (front : List NodeOf) (n : NodeOf) (start : Result (List NodeOf × Place) StateFault) → k < count → node_at r cycle k at ≡ Ok (n, next)
    → with_nodes front (nodes_at r cycle k (count - k) at) ≡ start → with_nodes (front ++ n ∷ []) (nodes_at r cycle (k + 1) (count - (k + 1)) next) ≡ start
one_node r cycle k count at next front n start lt is so_far =
    let e : nodes_at r cycle k (count - k) at ≡ (nodes_at r cycle (k + 1) (count - (k + 1)) next >>= λ x. Ok (n ∷ x.0, x.1)) =
    nodes_more r cycle k count at lt ∙ rw is refl in
    sym (regroup_nodes front n (nodes_at r cycle (k + 1) (count - (k + 1)) next)) ∙ (ap (with_nodes front) (sym e) ∙ so_far)

pub node_fails : (e : StateFault) (r : Rules) (cycle k count : ℕ) (at : Place) → k < count → Fails e (node_at r cycle k at) → Fails e (nodes_at r cycle k (count - k) at)
node_fails e r cycle k count at lt h = subst (λ x. Fails e x) (sym (nodes_more r cycle k count at lt)) (fails_bind e (node_at r cycle k at) _ h)

pub nodes_done : (r : Rules) (cycle k count : ℕ) (at : Place) (front : List NodeOf) (start : Result (List NodeOf × Place) StateFault) → count ≤ k → with_nodes front (nodes_at r cycle k (count - k) at) ≡ start → start ≡ Ok (front, at)
unfolding nodes_at
nodes_done r cycle k count at front start le so_far =
    let n : count - k ≡ 0 = omega arith in
    let one : with_nodes front (nodes_at r cycle k (count - k) at) ≡ Ok (front, at) = rw n (ap (λ (ns : List NodeOf). Ok (ns, at)) (append-nil front)) in
    sym so_far ∙ one

-- ---- numbers

abbrev pub are_decimals : List (List ℕ) → ℕ → Bool
are_decimals parts count = eqb (length parts) count && list_all is_decimal parts

eqb_suc : (a b : ℕ) → eqb (suc a) (suc b) ≡ eqb a b
eqb_suc a b =
    elim (cases_eq a b) [
      | inl same ↦ eq-eqb (suc a) (suc b) (omega (arith, same)) ∙ sym (eq-eqb a b same)
      | inr apart ↦ ne_eqb (suc a) (suc b) (λ e. apart (omega (arith, e))) ∙ sym (ne_eqb a b apart)
    ]

-- one number more
pub decimals_more : (now rest : List (List ℕ)) (part : List ℕ) (count i : ℕ) → i < count → now ≡ part ∷ rest → is_decimal part ≡ true → are_decimals now (count - i) ≡ are_decimals rest (count - (i + 1))
decimals_more now rest part count i lt e h =
    let n : count - i ≡ suc (count - (i + 1)) = omega arith in
    rw (e, n, h) (ap (λ b. b && list_all is_decimal rest) (eqb_suc (length rest) (count - (i + 1))))

-- too few parts, a part that is no number, too many parts, and as many as there are to be
pub decimals_few : (now : List (List ℕ)) (count i : ℕ) → i < count → now ≡ [] → are_decimals now (count - i) ≡ false
decimals_few now count i lt e = rw e (and_left (eqb 0 (count - i)) true (ne_eqb 0 (count - i) (λ same. omega (arith, same))))

pub decimals_bad : (now rest : List (List ℕ)) (part : List ℕ) (count i : ℕ) → now ≡ part ∷ rest → is_decimal part ≡ false → are_decimals now (count - i) ≡ false
decimals_bad now rest part count i e h = rw (e, h) (and_right (eqb (length (part ∷ rest)) (count - i)) false refl)

pub decimals_many : (now rest : List (List ℕ)) (part : List ℕ) (count i : ℕ) → count ≤ i → now ≡ part ∷ rest → are_decimals now (count - i) ≡ false
decimals_many now rest part count i le e = rw e (and_left (eqb (length (part ∷ rest)) (count - i)) (list_all is_decimal (part ∷ rest)) (ne_eqb (length (part ∷ rest)) (count - i) (λ same. omega (arith, same))))

pub decimals_done : (now : List (List ℕ)) (count i : ℕ) → count ≤ i → now ≡ [] → are_decimals now (count - i) ≡ true
decimals_done now count i le e =
    let n : count - i ≡ 0 = omega arith in
    rw (e, n) refl
