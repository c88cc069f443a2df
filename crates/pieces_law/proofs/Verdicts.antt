-- The verdict of a plan that goes on by what another one got.
use Rattle.std.proofs.Common.{◌≡◌, ℕ, ◌≤◌, nat_lt, Bool, true, false, cond, List, length, Option, Some, None, refl, sym, ap, ◌∙◌, arith}
use Rattle.std.proofs.lemmas.Bool.Decides.{nat_tests}
use Rattle.command_plans.specs.Plan.{Plan, Give, Refuse, Read, Refusal, and_then}
use Rattle.command_plans.specs.Reading.{Files, Verdict, Untold, Refused, Accepted, on_bytes, verdict}

abbrev pub behind : {A B : Type 0} → Verdict A → (A → Verdict B) → Verdict B
behind Untold next = Untold
behind (Refused refusal) next = Refused refusal
behind (Accepted got) next = next got

fit_case : {A B : Type 0} (too_long : Refusal) (b : Bool) (v : Verdict A) (u : Verdict B) (next : A → Verdict B) → u ≡ behind v next
    → cond b (Refused too_long) u ≡ behind (cond b (Refused too_long) v) next
fit_case too_long true v u next h = refl
fit_case too_long false v u next h = h

read_case : {A B : Type 0} (most : ℕ) (too_long : Refusal) (o : Option (List ℕ)) (v : List ℕ → Verdict A) (u : List ℕ → Verdict B) (next : A → Verdict B)
    → ((bytes : List ℕ) → u bytes ≡ behind (v bytes) next) → on_bytes most too_long u o ≡ behind (on_bytes most too_long v o) next
read_case most too_long None v u next h = refl
read_case most too_long (Some bytes) v u next h = fit_case too_long (nat_lt most (length bytes)) (v bytes) (u bytes) next (h bytes)

pub both : {A B : Type 0} (files : Files) (p : Plan A) (next : A → Plan B) → verdict files (and_then p next) ≡ behind (verdict files p) (λ got. verdict files (next got))
unfolding verdict and_then
both files (Give got) next = refl
both files (Refuse refusal) next = refl
both files (Read name most too_long rest) next =
    read_case most too_long (files name) (λ bytes. verdict files (rest bytes)) (λ bytes. verdict files (and_then (rest bytes) next)) (λ got. verdict files (next got))
    (λ bytes. both files (rest bytes) next)

-- what the first one got, where the whole is accepted
pub record Parts {A B : Type 0} (v : Verdict A) (next : A → Verdict B) (last : B) : Type 0 where
  pub got : A
  pub first : v ≡ Accepted got
  pub after : next got ≡ Accepted last

parts_in : {A B : Type 0} (v : Verdict A) (next : A → Verdict B) (last : B) → behind v next ≡ Accepted last → Parts v next last
parts_in Untold next last e = absurd (cc)
parts_in (Refused refusal) next last e = absurd (cc)
parts_in (Accepted got) next last e = record { got = got; first = refl; after = e }

pub parts : {A B : Type 0} (files : Files) (p : Plan A) (next : A → Plan B) (last : B) → verdict files (and_then p next) ≡ Accepted last
    → Parts (verdict files p) (λ got. verdict files (next got)) last
parts files p next last e = parts_in (verdict files p) (λ got. verdict files (next got)) last (sym (both files p next) ∙ e)

pub joined : {A B : Type 0} (files : Files) (p : Plan A) (next : A → Plan B) (got : A) (last : B) → verdict files p ≡ Accepted got → verdict files (next got) ≡ Accepted last
    → verdict files (and_then p next) ≡ Accepted last
joined files p next got last first after = both files p next ∙ ap (λ v. behind v (λ it. verdict files (next it))) first ∙ after

-- a file that was read
pub record WasRead {A : Type 0} (v : List ℕ → Verdict A) (last : A) : Type 0 where
  pub bytes : List ℕ
  pub after : v bytes ≡ Accepted last

fits : {A : Type 0} (too_long : Refusal) (b : Bool) (v : Verdict A) (last : A) → cond b (Refused too_long) v ≡ Accepted last → v ≡ Accepted last
fits too_long true v last e = absurd (cc)
fits too_long false v last e = e

read_in : {A : Type 0} (most : ℕ) (too_long : Refusal) (o : Option (List ℕ)) (v : List ℕ → Verdict A) (last : A) → on_bytes most too_long v o ≡ Accepted last → WasRead v last
read_in most too_long None v last e = absurd (cc)
read_in most too_long (Some bytes) v last e = record { bytes = bytes; after = fits too_long (nat_lt most (length bytes)) (v bytes) last e }

pub read : {A : Type 0} (files : Files) (name : List ℕ) (most : ℕ) (too_long : Refusal) (next : List ℕ → Plan A) (last : A)
    → verdict files (Read name most too_long next) ≡ Accepted last → WasRead (λ bytes. verdict files (next bytes)) last
unfolding verdict
read files name most too_long next last e = read_in most too_long (files name) (λ bytes. verdict files (next bytes)) last e

not_longer : (most n : ℕ) → n ≤ most → nat_lt most n ≡ false
not_longer most n h = grind (arith, nat_tests)

pub reads : {A : Type 0} (files : Files) (name : List ℕ) (most : ℕ) (too_long : Refusal) (next : List ℕ → Plan A) (bytes : List ℕ) (last : A)
    → files name ≡ Some bytes → length bytes ≤ most → verdict files (next bytes) ≡ Accepted last
    → verdict files (Read name most too_long next) ≡ Accepted last
unfolding verdict
reads files name most too_long next bytes last there le after =
    ap (on_bytes most too_long (λ b. verdict files (next b))) there
    ∙ ap (λ (b : Bool). cond b (Refused too_long) (verdict files (next bytes))) (not_longer most (length bytes) le) ∙ after
