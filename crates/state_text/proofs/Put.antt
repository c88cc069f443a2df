-- Texts that are appended, one behind another, to a page in front of a sink.
use Rattle.std.proofs.Common.{◌≡◌, ℕ, ◌≤◌, Bool, true, false, List, [], ◌++◌, Option, None, Some, refl, sym, ap, subst, ◌∙◌, append_assoc}
use Rattle.std.proofs.lemmas.List.{append-nil}
use Rattle.sim_io.specs.Outside.{extended, TookFront, Rose}
use Rattle.sim_io.proofs.Taken.{extended-extended}
use Rattle.state_text.specs.Writing.{Out, HasRoom, IsAppended, IsCutOff, IsPut}

-- ---- one text

extended-nil : (o : Option (List ℕ)) → o ≡ extended o []
extended-nil None = refl
extended-nil (Some old) = ap Some (sym (append-nil old))

-- nothing
appended_none : (o : Out) → IsAppended [] o o
appended_none o = record {
  moved = record { front = []; parts = append-nil o.page; taken = extended-nil o.taken };
  faults = refl;
}

pub put_none : (o : Out) → IsPut [] o o
put_none o = record {
  appended = λ h k. appended_none o;
  cut = λ h k. absurd cc;
  after = λ h. refl;
}

-- where there is room
pub put_room : (text : List ℕ) (o p q : Out) → HasRoom o p → q.page ≡ p.page ++ text → q.taken ≡ p.taken → q.failed ≡ p.failed → q.faults ≡ p.faults → IsPut text o q
put_room text o p q h page taken failed faults =
    let after = h.after in
    let before = h.before in
    record {
      appended = λ x y. record {
        moved = record {
          front = h.moved.front;
          parts = ap (λ s. s ++ text) h.moved.parts ∙ (append_assoc h.moved.front p.page text ∙ ap (λ s. h.moved.front ++ s) (sym page));
          taken = taken ∙ h.moved.taken;
        };
        faults = faults ∙ h.faults;
      };
      cut = λ x y. absurd cc;
      after = λ x. absurd cc;
    }

-- where there was none, and the sink had a fault
pub put_cut : (text : List ℕ) (o p : Out) → o.failed ≡ false → p.failed ≡ true → TookFront o.taken o.page p.taken → o.faults ≤ p.faults → Rose o.faults p.faults → IsPut text o p
put_cut text o p before after t l r = record {
  appended = λ x y. absurd cc;
  cut = λ x y. record {
    front = record {
      front = t.front;
      rest = t.rest ++ text;
      parts = ap (λ s. s ++ text) t.parts ∙ append_assoc t.front t.rest text;
      taken = t.taken;
    };
    later = l;
    rose = r;
  };
  after = λ x. absurd cc;
}

-- after a fault
pub put_after : (text : List ℕ) (o p : Out) → o.failed ≡ true → p ≡ o → IsPut text o p
put_after text o p failed same = record {
  appended = λ x y. absurd cc;
  cut = λ x y. absurd cc;
  after = λ x. same;
}

-- ---- one behind another

appended_more : (a b : List ℕ) (o p q : Out) → IsAppended a o p → IsAppended b p q → IsAppended (a ++ b) o q
appended_more a b o p q x y = record {
  moved = record {
    front = x.moved.front ++ y.moved.front;
    parts =
        sym (append_assoc o.page a b)
        ∙ (ap (λ s. s ++ b) x.moved.parts
        ∙ (append_assoc x.moved.front p.page b
        ∙ (ap (λ s. x.moved.front ++ s) y.moved.parts
        ∙ sym (append_assoc x.moved.front y.moved.front q.page))));
    taken = y.moved.taken ∙ (ap (λ s. extended s y.moved.front) x.moved.taken ∙ extended-extended o.taken x.moved.front y.moved.front);
  };
  faults = y.faults ∙ x.faults;
}

appended_cut : (a b : List ℕ) (o p q : Out) → IsAppended a o p → IsCutOff b p q → IsCutOff (a ++ b) o q
appended_cut a b o p q x y = record {
  front = record {
    front = x.moved.front ++ y.front.front;
    rest = y.front.rest;
    parts =
        sym (append_assoc o.page a b)
        ∙ (ap (λ s. s ++ b) x.moved.parts
        ∙ (append_assoc x.moved.front p.page b
        ∙ (ap (λ s. x.moved.front ++ s) y.front.parts
        ∙ sym (append_assoc x.moved.front y.front.front y.front.rest))));
    taken = y.front.taken ∙ (ap (λ s. extended s y.front.front) x.moved.taken ∙ extended-extended o.taken x.moved.front y.front.front);
  };
  later = subst (λ n. n ≤ q.faults) x.faults y.later;
  rose = subst (λ n. Rose n q.faults) x.faults y.rose;
}

cut_more : (a b : List ℕ) (o p : Out) → IsCutOff a o p → IsCutOff (a ++ b) o p
cut_more a b o p x = record {
  front = record {
    front = x.front.front;
    rest = x.front.rest ++ b;
    parts = sym (append_assoc o.page a b) ∙ (ap (λ s. s ++ b) x.front.parts ∙ append_assoc x.front.front x.front.rest b);
    taken = x.front.taken;
  };
  later = x.later;
  rose = x.rose;
}

pub put_more : (a b : List ℕ) (o p q : Out) → IsPut a o p → IsPut b p q → IsPut (a ++ b) o q
put_more a b o p q x y = go p.failed refl
  where
    go : (f : Bool) → p.failed ≡ f → IsPut (a ++ b) o q
    go false e = record {
      appended = λ h k. appended_more a b o p q (x.appended h e) (y.appended e k);
      cut = λ h k. appended_cut a b o p q (x.appended h e) (y.cut e k);
      after = λ h.
          let same = x.after h in
          let bad : p.failed ≡ true = ap (λ (s : Out). s.failed) same ∙ h in
          absurd cc;
    }
    go true e =
        let same : q ≡ p = y.after e in
        record {
          appended = λ h k.
              let bad : q.failed ≡ true = ap (λ (s : Out). s.failed) same ∙ e in
              absurd cc;
          cut = λ h k. subst (λ s. IsCutOff (a ++ b) o s) (sym same) (cut_more a b o p (x.cut h e));
          after = λ h. same ∙ x.after h;
        }

-- ---- all that was appended to an empty page

written_appended : (text : List ℕ) (o p : Out) → o.page ≡ [] → IsAppended text o p → (extended p.taken p.page ≡ extended o.taken text) × ((now : Option (List ℕ)) → TookFront p.taken p.page now → TookFront o.taken text now)
written_appended text o p empty x =
    let parts : text ≡ x.moved.front ++ p.page = ap (λ s. s ++ text) (sym empty) ∙ x.moved.parts in (
      ap (λ s. extended s p.page) x.moved.taken ∙ (extended-extended o.taken x.moved.front p.page ∙ ap (extended o.taken) (sym parts)),
      λ now t. record {
        front = x.moved.front ++ t.front;
        rest = t.rest;
        parts = parts ∙ (ap (λ s. x.moved.front ++ s) t.parts ∙ sym (append_assoc x.moved.front t.front t.rest));
        taken = t.taken ∙ (ap (λ s. extended s t.front) x.moved.taken ∙ extended-extended o.taken x.moved.front t.front);
      },
    )

cut_empty : (text : List ℕ) (o p : Out) → o.page ≡ [] → IsCutOff text o p → TookFront o.taken text p.taken
cut_empty text o p empty x = record {
  front = x.front.front;
  rest = x.front.rest;
  parts = ap (λ s. s ++ text) (sym empty) ∙ x.front.parts;
  taken = x.front.taken;
}

-- what stood on the page goes to the sink at last
pub written_all : (text : List ℕ) (o p : Out) (now : Option (List ℕ)) → o.page ≡ [] → o.failed ≡ false → p.failed ≡ false → IsPut text o p → now ≡ extended p.taken p.page → now ≡ extended o.taken text
written_all text o p now empty before after x t = t ∙ (written_appended text o p empty (x.appended before after)).0

pub written_front : (text : List ℕ) (o p : Out) (now : Option (List ℕ)) → o.page ≡ [] → o.failed ≡ false → p.failed ≡ false → IsPut text o p → TookFront p.taken p.page now → TookFront o.taken text now
written_front text o p now empty before after x t = (written_appended text o p empty (x.appended before after)).1 now t

-- there was a fault before
pub written_cut : (text : List ℕ) (o p : Out) → o.page ≡ [] → o.failed ≡ false → p.failed ≡ true → IsPut text o p → TookFront o.taken text p.taken
written_cut text o p empty before after x = cut_empty text o p empty (x.cut before after)
