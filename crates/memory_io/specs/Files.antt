-- A store of files over memory: what it holds, which of its calls fail, and what each answer says.
use Rattle.std.specs.Prelude.{◌≡◌, ℕ, ◌+◌, ◌-◌, ◌^◌, ◌==◌, ◌||◌, min, List, [], ◌∷◌, Bool, true, false, Option, Some, None, is_none, Result, Ok, Err, if◌then◌else◌, Vec}
use Rattle.std.specs.List.{list_any}
use Rattle.std.specs.Cmp.Lexicographic.{pointwise}
use Rattle.std.specs.declared.alloc.Global.{Global}
use Rattle.sim_io.specs.declared.store.ReadFault.{ReadFault}
use Rattle.sim_io.specs.declared.store.ReadFault.TheVariants.{Failed, TooLong, NoMemory}

pub record MemoryStore : Type 0 where
  pub files : List (List ℕ × Vec ℕ Global)
  -- the numbers of the calls that fail, from 0
  pub fail : List ℕ
  pub calls : ℕ
  pub faults : ℕ
  -- the name in the last call that failed
  pub failed : List ℕ

-- the bytes of the first file of this name
abbrev pub file_of : List (List ℕ × Vec ℕ Global) → List ℕ → Option (List ℕ)
file_of [] name = None
file_of (f ∷ files) name = if pointwise ◌==◌ f.0 name then Some f.1.items else file_of files name

-- what the store holds under a name
abbrev pub held_by : MemoryStore → List ℕ → Option (List ℕ)
held_by s name = file_of s.files name

-- a count of 64 bits, one higher unless it stands at its last value
abbrev pub one_more : ℕ → ℕ
one_more n = min (n + 1) (2 ^ 64 - 1)

-- a call of this number stands among those that fail
abbrev pub is_marked : List ℕ → ℕ → Bool
is_marked fail call = list_any (λ i. i == call) fail

-- the next read of this name fails
abbrev pub fails_at : MemoryStore → List ℕ → Bool
fails_at s name = is_marked s.fail s.calls || is_none (held_by s name)

-- the store after a call that did not fail
abbrev pub counted : MemoryStore → MemoryStore
counted s = record s { calls = one_more s.calls }

-- when each answer comes, and the store after it
abbrev pub ReadGives : MemoryStore → List ℕ → Result (Vec ℕ Global) ReadFault → MemoryStore → Type 0
ReadGives old name (Ok bytes) new = (fails_at old name ≡ false) × (new ≡ counted old)
ReadGives old name (Err TooLong) new = (fails_at old name ≡ false) × (new ≡ counted old)
ReadGives old name (Err Failed) new = (fails_at old name ≡ true)
    × (new ≡ record old { calls = one_more old.calls; faults = one_more old.faults; failed = name })
ReadGives old name (Err NoMemory) new = new ≡ old
