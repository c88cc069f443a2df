-- What a plan comes to over files, and how far it was read.
use Rattle.std.specs.Prelude.{◌≡◌, ℕ, ◌<◌, ◌≤◌, nat_lt, length, List, Option, Some, None, IfSome, if◌then◌else◌}
use Rattle.command_plans.specs.Plan.{Plan, Give, Refuse, Read, Refusal}

-- the bytes of each file, where the store tells them
abbrev pub Files : Type 0
Files = List ℕ → Option (List ℕ)

-- what a plan comes to over these files: what it gets, a refusal, or nothing known, where a file that it reads is not
-- told
pub data Verdict (A : Type 0) : Type 0 where
  Untold : Verdict A
  Refused : (refusal : Refusal) → Verdict A
  Accepted : (got : A) → Verdict A

abbrev pub on_bytes : {A : Type 0} → ℕ → Refusal → (List ℕ → Verdict A) → Option (List ℕ) → Verdict A
on_bytes most too_long next None = Untold
on_bytes most too_long next (Some bytes) = if nat_lt most (length bytes) then Refused too_long else next bytes

-- the verdict: the first refusal in the order of reading, else what is got
unfoldable pub verdict : {A : Type 0} → Files → Plan A → Verdict A
verdict files (Give got) = Accepted got
verdict files (Refuse refusal) = Refused refusal
verdict files (Read name most too_long next) = on_bytes most too_long (λ bytes. verdict files (next bytes)) (files name)

-- the verdict is this one, where it is known
abbrev pub Says : {A : Type 0} → Verdict A → Verdict A → Type 0
Says Untold w = Unit {0}
Says (Refused refusal) w = Refused refusal ≡ w
Says (Accepted got) w = Accepted got ≡ w

-- reading went this far: of the first plan the second is left. Each file that was read fits, and is the one that the
-- store tells; a file that is longer ends the reading
pub data Reached {A : Type 0} (files : Files) : Plan A → Plan A → Type 0 where
  Here : (p : Plan A) → Reached files p p
  Fitting : (name : List ℕ) (most : ℕ) (too_long : Refusal) (next : List ℕ → Plan A) (bytes : List ℕ) (rest : Plan A)
      → IfSome (files name) (λ file. bytes ≡ file) → length bytes ≤ most
      → Reached files (next bytes) rest → Reached files (Read name most too_long next) rest
  TooLong : (name : List ℕ) (most : ℕ) (too_long : Refusal) (next : List ℕ → Plan A)
      → IfSome (files name) (λ file. most < length file) → Reached files (Read name most too_long next) (Refuse too_long)

-- the next thing that a plan does is to read this file
abbrev pub IsReading : {A : Type 0} → List ℕ → Plan A → Type 0
IsReading name (Give got) = ⊥
IsReading name (Refuse refusal) = ⊥
IsReading name (Read file most too_long next) = name ≡ file

-- reading came to this, and the verdict is this
pub record Accepts {A : Type 0} (files : Files) (plan : Plan A) (got : A) : Type 0 where
  pub reached : Reached files plan (Give got)
  pub verdict_is : Says (verdict files plan) (Accepted got)

-- reading came to this refusal, and the verdict is that refusal
pub record Refuses {A : Type 0} (files : Files) (plan : Plan A) (refusal : Refusal) : Type 0 where
  pub reached : Reached files plan (Refuse refusal)
  pub verdict_is : Says (verdict files plan) (Refused refusal)

-- this file is the next to be read, and each before it was accepted
pub record IsNext {A : Type 0} (files : Files) (plan : Plan A) (name : List ℕ) : Type 0 where
  pub rest : Plan A
  pub reached : Reached files plan rest
  pub reading : IsReading name rest
