-- A text on its way to a sink, page by page: a front is taken, then comes the page, then what is still to come.
-- For the loops of every writer of pages; each needs a lemma of its own on what is still to come.
use Rattle.std.proofs.Common.{◌≡◌, ℕ, List, [], ◌++◌, Option, None, Some, refl, sym, ap, ◌∙◌, append_assoc}
use Rattle.std.proofs.lemmas.List.{append-nil}
use Rattle.sim_io.specs.Outside.{extended, Moved, TookFront}
use Rattle.sim_io.proofs.Taken.{extended-extended}

-- the sink, which held o, now holds p, and the whole text is what it took since, the page, and the rest
pub record Stands (o : Option (List ℕ)) (whole rest : List ℕ) (p : Option (List ℕ)) (page : List ℕ) : Type 0 where
  pub front : List ℕ
  pub parts : whole ≡ front ++ (page ++ rest)
  pub taken : p ≡ extended o front

extended-nil : (o : Option (List ℕ)) → o ≡ extended o []
extended-nil None = refl
extended-nil (Some old) = ap Some (sym (append-nil old))

-- at the start, where the page is empty and all is still to come
pub stands_first : (o : Option (List ℕ)) (whole rest page : List ℕ) → page ≡ [] → whole ≡ rest → Stands o whole rest o page
stands_first o whole rest page e f = record {
  front = [];
  parts = f ∙ sym (ap (λ x. x ++ rest) e);
  taken = extended-nil o;
}

-- a front of the page was taken
pub stands_moved : (o p q : Option (List ℕ)) (whole rest page left : List ℕ) → Stands o whole rest p page → Moved p page q left → Stands o whole rest q left
stands_moved o p q whole rest page left s m = record {
  front = s.front ++ m.front;
  parts = s.parts ∙ (ap (λ x. s.front ++ (x ++ rest)) m.parts ∙ (ap (λ x. s.front ++ x) (append_assoc m.front left rest) ∙ sym (append_assoc s.front m.front (left ++ rest))));
  taken = m.taken ∙ (ap (λ x. extended x m.front) s.taken ∙ extended-extended o s.front m.front);
}

-- a piece that was to come now stands on the page
pub stands_more : (o p : Option (List ℕ)) (whole rest page piece new rest' : List ℕ) → Stands o whole rest p page → rest ≡ piece ++ rest' → new ≡ page ++ piece → Stands o whole rest' p new
stands_more o p whole rest page piece new rest' s e f = record {
  front = s.front;
  parts = s.parts ∙ ap (λ y. s.front ++ y) (ap (λ y. page ++ y) e ∙ (sym (append_assoc page piece rest') ∙ ap (λ y. y ++ rest') (sym f)));
  taken = s.taken;
}

-- a fault in the midst of the page: a front of the whole text was taken
pub stands_front : (o p q : Option (List ℕ)) (whole rest page : List ℕ) → Stands o whole rest p page → TookFront p page q → TookFront o whole q
stands_front o p q whole rest page s t = record {
  front = s.front ++ t.front;
  rest = t.rest ++ rest;
  parts = s.parts ∙ (ap (λ x. s.front ++ (x ++ rest)) t.parts ∙ (ap (λ x. s.front ++ x) (append_assoc t.front t.rest rest) ∙ sym (append_assoc s.front t.front (t.rest ++ rest))));
  taken = t.taken ∙ (ap (λ x. extended x t.front) s.taken ∙ extended-extended o s.front t.front);
}

-- the last page was taken, and nothing is still to come
pub stands_all : (o p q : Option (List ℕ)) (whole rest page : List ℕ) → Stands o whole rest p page → rest ≡ [] → q ≡ extended p page → q ≡ extended o whole
stands_all o p q whole rest page s e t =
    t ∙ (ap (λ x. extended x page) s.taken ∙ (extended-extended o s.front page
    ∙ ap (extended o) (sym (s.parts ∙ ap (λ x. s.front ++ x) (ap (λ x. page ++ x) e ∙ append-nil page)))))
