-- What the program does, by the number that it ends with.
use Rattle.std.specs.Prelude.{◌≡◌, ◌⊎◌, List, ℕ}
use Rattle.command_plans.specs.Ends.{Reads, Stream, status_number}
use Rattle.command_plans.specs.Reading.{Files}
use Rattle.command_plans.specs.declared.status.Status.{Status}
use Rattle.commands.specs.TopClause.{TopClause}

-- the words of the command line cannot be had: nothing is read, and nothing written
pub record HasNoWords (files files' : Files) (store store' : Reads) (out out' err err' : Stream) (number : ℕ) : Type 0 where
  pub number_is : number ≡ 9
  pub held : files' ≡ files
  pub read : store' ≡ store
  pub untouched : (out' ≡ out) × (err' ≡ err)

-- the words were had, and the top call did what they ask for
pub record HasWords (files files' : Files) (store store' : Reads) (out out' err err' : Stream) (number : ℕ) : Type 0 where
  pub words : List (List ℕ)
  pub status : Status
  pub top : TopClause files files' words store store' out out' err err' status
  pub number_is : number ≡ status_number status

-- `files`, `store`, `out` and `err` are as the program begins, `files'`, `store'`, `out'` and `err'` as it ends.
abbrev pub ProgramClause : Files → Files → Reads → Reads → Stream → Stream → Stream → Stream → ℕ → Type 0
ProgramClause files files' store store' out out' err err' number =
    HasWords files files' store store' out out' err err' number ⊎ HasNoWords files files' store store' out out' err err' number
