-- Bytes that are put at addresses, one after another.
use Rattle.std.proofs.Common.{◌≡◌, ℕ, ◌+◌, ◌<◌, max, cond, eqb, List, [], ◌∷◌, ◌++◌, length, get_or, take, refl, sym, ap, ◌∙◌, arith, add-zero}
use Rattle.std.proofs.Math.ListN.{set}
use Rattle.std.proofs.lemmas.List.{take_more, get_or-set_other, length-take-le}
use Rattle.std.proofs.lemmas.Grind.{get_or-set_at}
use Rattle.std.proofs.lemmas.Bool.Decides.{nat_tests}
use Rattle.ihex_loader.specs.Image.{placed, last_put, used_of}

pub last_put-append : (d a : ℕ) (xs ys : List (ℕ × ℕ)) → last_put d a (xs ++ ys) ≡ last_put (last_put d a xs) a ys
last_put-append d a [] ys = refl
last_put-append d a (x ∷ xs) ys = last_put-append (cond (eqb x.0 a) x.1 d) a xs ys

pub placed-append : (at : ℕ) (xs ys : List ℕ) → placed at (xs ++ ys) ≡ placed at xs ++ placed (at + length xs) ys
placed-append at [] ys = ap (λ n. placed n ys) (sym (add-zero at))
placed-append at (x ∷ xs) ys =
    let e : at + 1 + length xs ≡ at + length (x ∷ xs) = omega arith in
    ap (λ ws. (at, x) ∷ ws) (placed-append (at + 1) xs ys ∙ ap (λ n. placed (at + 1) xs ++ placed n ys) e)

pub used_of-append : (xs ys : List (ℕ × ℕ)) → used_of (xs ++ ys) ≡ max (used_of xs) (used_of ys)
used_of-append [] ys = omega arith
used_of-append (x ∷ xs) ys = let e = used_of-append xs ys in omega (arith, e)

pub used_of-placed : (at : ℕ) (b : ℕ) (bs : List ℕ) → used_of (placed at (b ∷ bs)) ≡ at + length (b ∷ bs)
used_of-placed at b [] = omega arith
used_of-placed at b (c ∷ bs) = let e = used_of-placed (at + 1) c bs in omega (arith, e)

-- one more byte is written
pub last_put-set : (flash : List ℕ) (d at i b : ℕ) (a : ℕ) (ws : List (ℕ × ℕ)) → at + i < length flash → get_or flash a 0 ≡ last_put d a ws
    → get_or (set flash (at + i) b) a 0 ≡ last_put d a (ws ++ (at + i, b) ∷ [])
last_put-set flash d at i b a ws lt h =
    rw (last_put-append d a ws ((at + i, b) ∷ [])) (grind (arith, nat_tests, get_or-set_at, get_or-set_other))

pub placed-more : (at : ℕ) (bytes : List ℕ) (i : ℕ) → i < length bytes → placed at (take (i + 1) bytes) ≡ placed at (take i bytes) ++ (at + i, get_or bytes i 0) ∷ []
placed-more at bytes i lt =
    let len : length (take i bytes) ≡ i = length-take-le i bytes (omega arith) in
    ap (placed at) (take_more bytes i 0 lt) ∙ placed-append at (take i bytes) (get_or bytes i 0 ∷ []) ∙ ap (λ n. placed at (take i bytes) ++ (at + n, get_or bytes i 0) ∷ []) len
