-- What a store of real files keeps of its faults.
use Rattle.std.specs.Prelude.{ℕ, List, [], Option, Some, None}
use Rattle.std.specs.declared.snapshot.Snapshot.{Snapshot}

-- how many reads failed, and the name in the last of them
pub record StoreFaults : Type 0 where
  pub faults : ℕ
  pub failed : List ℕ

-- the name that was kept, empty before the first fault
abbrev pub last_failed : Option (Snapshot (List ℕ)) → List ℕ
last_failed None = []
last_failed (Some name) = name.value
