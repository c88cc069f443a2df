-- A record that takes sends: each may be posted behind those before it.
use Rattle.std.proofs.Common.{◌≡◌, ℕ, suc, ◌<◌, Bool, true, false, cond, ◌==◌, List, [], ◌∷◌, ◌++◌, length, take, get_or, refl, sym, subst, ◌∙◌, arith, length-take}
use Rattle.std.specs.List.{All, AllPairs}
use Rattle.std.proofs.lemmas.List.{get_or-take, get_or_default}
use Rattle.std.proofs.lemmas.List.Elements.{All-append, All-cons, All-head, All-nil, All-tail, All-weaker}
use Rattle.std.proofs.lemmas.List.Kept.{AllPairs-cons}
use Rattle.std.proofs.lemmas.Bool.{eqb-true}
use Rattle.air_base.specs.declared.air.Send.{Send}
use Rattle.world_core.specs.Chain.{IsAfter, Rises}
use Rattle.world_core.specs.Sends.{sends_of}

all_pairs_from : {X : Type 0} (Q : X → X → Type 0) (x : X) (xs : List X) → AllPairs Q (x ∷ xs) → All (Q x) xs × AllPairs Q xs
all_pairs_from Q x xs h = (λ j d lt. h 0 (suc j) d (omega arith) (omega arith), λ i j d lt le. h (suc i) (suc j) d (omega arith) (omega arith))

pub pairs_append : {X : Type 0} (Q : X → X → Type 0) (xs ys : List X) → AllPairs Q xs → AllPairs Q ys → All (λ x. All (Q x) ys) xs → AllPairs Q (xs ++ ys)
pairs_append Q [] ys a b c = b
pairs_append Q (x ∷ xs) ys a b c =
    let h = all_pairs_from Q x xs a in
    AllPairs-cons Q x (xs ++ ys) (All-append (Q x) xs ys h.0 (All-head (λ z. All (Q z) ys) x xs c))
    (pairs_append Q xs ys h.1 b (All-tail (λ z. All (Q z) ys) x xs c))

pub pairs_push : {X : Type 0} (Q : X → X → Type 0) (xs : List X) (y : X) → AllPairs Q xs → All (λ x. Q x y) xs → AllPairs Q (xs ++ y ∷ [])
pairs_push Q xs y a b =
    pairs_append Q xs (y ∷ []) a (λ i j d lt le. absurd (omega arith))
    (All-weaker (λ x. Q x y) (λ x. All (Q x) (y ∷ [])) (λ x h. All-cons (Q x) y [] h (All-nil (Q x))) xs b)

own_case : (x y : Send) (l : List Send) (b : Bool) → (y.node == x.node) ≡ b → IsAfter x y → All (λ z. z.cycle < x.cycle) l → All (λ z. z.cycle < x.cycle) (cond b (y ∷ l) l)
own_case x y l true e after rest = All-cons (λ (z : Send). z.cycle < x.cycle) y l (after (eqb-true y.node x.node e)) rest
own_case x y l false e after rest = rest

pub own_below : (x : Send) (l : List Send) → All (IsAfter x) l → All (λ z. z.cycle < x.cycle) (sends_of x.node l)
own_below x [] a = All-nil (λ (z : Send). z.cycle < x.cycle)
own_below x (y ∷ ys) a = own_case x y (sends_of x.node ys) (y.node == x.node) refl (All-head (IsAfter x) y ys a) (own_below x ys (All-tail (IsAfter x) y ys a))

pub may_push : (xs : List Send) (i : ℕ) (x : Send) → Rises xs → i < length xs → x ≡ get_or xs i x → All (λ y. y.cycle < x.cycle) (sends_of x.node (take i xs))
may_push xs i x up lt at =
    own_below x (take i xs)
    (λ j d l.
    let low : j < i = omega (arith, length-take i xs, l) in
    let other : get_or (take i xs) j d ≡ get_or xs j d = get_or-take i xs j d low in
    let here : get_or xs i d ≡ x = get_or_default xs i d x lt ∙ sym at in
    subst (λ (y : Send). IsAfter x y) (sym other) (subst (λ (z : Send). IsAfter z (get_or xs j d)) here (λ same. up j i d low lt same)))
