-- The send that stands behind n sends of its node has the number n.
use Rattle.std.proofs.Common.{◌≡◌, ℕ, suc, ◌<◌, Bool, true, cond, ◌==◌, List, [], ◌∷◌, ◌++◌, length, get_or, take, drop, take-append-drop, drop-cons, refl, sym, ◌∙◌, ap, arith, length-append}
use Rattle.std.proofs.lemmas.List.Elements.{filter-append}
use Rattle.std.proofs.lemmas.Bool.Decides.{nat_tests}
use Rattle.air_base.specs.declared.air.Send.{Send}
use Rattle.world_core.specs.Sends.{sends_of}

at_end : (xs : List Send) (x : Send) (ys : List Send) → get_or (xs ++ x ∷ ys) (length xs) x ≡ x
at_end [] x ys = refl
at_end (z ∷ xs) x ys = at_end xs x ys

own_first : (k : ℕ) (x : Send) (xs : List Send) → x.node ≡ k → sends_of k (x ∷ xs) ≡ x ∷ sends_of k xs
own_first k x xs e = let t : (x.node == k) ≡ true = grind (arith, nat_tests) in ap (λ (b : Bool). cond b (x ∷ sends_of k xs) (sends_of k xs)) t

split : (k : ℕ) (l : List Send) (i : ℕ) (x : Send) → i < length l → get_or l i x ≡ x → x.node ≡ k → sends_of k l ≡ sends_of k (take i l) ++ x ∷ sends_of k (drop (suc i) l)
split k l i x lt at e =
    ap (sends_of k) (sym (take-append-drop i l)) ∙ filter-append (λ (y : Send). y.node == k) (take i l) (drop i l)
    ∙ ap (λ (m : List Send). sends_of k (take i l) ++ sends_of k m) (drop-cons l i x lt ∙ ap (λ (y : Send). y ∷ drop (suc i) l) at)
    ∙ ap (λ (m : List Send). sends_of k (take i l) ++ m) (own_first k x (drop (suc i) l) e)

pub has_number : (k : ℕ) (l : List Send) (i n : ℕ) (x : Send) → i < length l → get_or l i x ≡ x → x.node ≡ k → n ≡ length (sends_of k (take i l)) → (n < length (sends_of k l)) × (get_or (sends_of k l) n x ≡ x)
has_number k l i n x lt at e f =
    let s = split k l i x lt at e in
    let m = ap length s ∙ length-append (sends_of k (take i l)) (x ∷ sends_of k (drop (suc i) l)) in
    (omega arith, ap (λ (ys : List Send). get_or ys n x) s ∙ ap (λ (q : ℕ). get_or (sends_of k (take i l) ++ x ∷ sends_of k (drop (suc i) l)) q x) f ∙ at_end (sends_of k (take i l)) x (sends_of k (drop (suc i) l)))
