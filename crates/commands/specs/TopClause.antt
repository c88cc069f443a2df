-- What a call of the program does, by the status that it answers: the cause of each status, what stands on each
-- stream, and which status comes where nothing failed.
use Rattle.std.specs.Prelude.{◌≡◌, ◌⊎◌, List, ℕ, None}
use Rattle.sim_io.specs.Outside.{Rose}
use Rattle.command_words.specs.Words.{asked_by}
use Rattle.command_plans.specs.Plan.{BadWords, BadScenario, BadImage, BadSource, BadState, BadMoves, BadPlaces}
use Rattle.command_plans.specs.Reading.{Files, verdict}
use Rattle.commands.specs.Plan.{plan}
use Rattle.command_plans.specs.Ends.{Reads, Stream, End, Done, OutFailed, NoMemory, ReadFailed, Refused, Ends, EndedSaying, EndedUnsaid, HasStatus}
use Rattle.command_plans.specs.declared.trouble.ImageCause.{ImageCause}
use Rattle.command_plans.specs.declared.trouble.ScenarioCause.{ScenarioCause}
use Rattle.command_plans.specs.declared.trouble.SourceCause.{SourceCause}
use Rattle.command_plans.specs.declared.trouble.StateCause.{StateCause}
use Rattle.command_plans.specs.declared.trouble.MovesCause.{MovesCause}
use Rattle.command_plans.specs.declared.trouble.PlacesCause.{PlacesCause}
use Rattle.command_plans.specs.declared.status.Status.{Status}
use Rattle.command_plans.specs.declared.status.Status.TheVariants as status

-- `files`, `store`, `out` and `err` are as the call begins, `files'`, `store'`, `out'` and `err'` as it returns.
pub record TopClause (files files' : Files) (words : List (List ℕ)) (store store' : Reads) (out out' err err' : Stream) (answer : Status) : Type 0 where
  -- whatever the status: the store holds the files that it held
  pub held : files' ≡ files
  -- 0: all files were accepted, and the whole text is written
  pub done : answer ≡ status.Done → Ends files (plan words) store store' out out' Done × (err' ≡ err)
  -- 1: a write to `out` failed, and `err` has the line that says so; or a write to `err` failed, of the line of some
  -- end
  pub sink_failed : answer ≡ status.SinkFailed
      → EndedSaying files (plan words) store store' out out' err err' OutFailed
      ⊎ ((end : End) × EndedUnsaid files (plan words) store store' out out' err err' end)
  -- 2: the words are not accepted
  pub bad_words : answer ≡ status.BadWords
      → (asked_by words ≡ None) × EndedSaying files (plan words) store store' out out' err err' (Refused BadWords)
  -- 3: a read of the next file failed
  pub read_failed : answer ≡ status.ReadFailed
      → (name : List ℕ) × EndedSaying files (plan words) store store' out out' err err' (ReadFailed name)
  -- 4: the scenario is refused
  pub bad_scenario : answer ≡ status.BadScenario
      → (name : List ℕ) × ((why : ScenarioCause) × EndedSaying files (plan words) store store' out out' err err' (Refused (BadScenario name why)))
  -- 5: the next image is refused
  pub bad_image : answer ≡ status.BadImage
      → (name : List ℕ) × ((why : ImageCause) × EndedSaying files (plan words) store store' out out' err err' (Refused (BadImage name why)))
  -- 6: want of memory
  pub no_memory : answer ≡ status.NoMemory → EndedSaying files (plan words) store store' out out' err err' NoMemory
  -- 7: the source is refused
  pub bad_source : answer ≡ status.BadSource
      → (name : List ℕ) × ((why : SourceCause) × EndedSaying files (plan words) store store' out out' err err' (Refused (BadSource name why)))
  -- 8: the saved state is refused, or cannot be had; or the moves of a sweep are refused, or the places that are to be
  -- watched
  pub bad_state : answer ≡ status.BadState
      → ((name : List ℕ) × ((why : StateCause) × EndedSaying files (plan words) store store' out out' err err' (Refused (BadState name why))))
      ⊎ (((name : List ℕ) × ((why : MovesCause) × EndedSaying files (plan words) store store' out out' err err' (Refused (BadMoves name why))))
      ⊎ ((name : List ℕ) × ((why : PlacesCause) × EndedSaying files (plan words) store store' out out' err err' (Refused (BadPlaces name why)))))
  -- words that are not accepted give 2, or 1 where `err` failed
  pub words_first : asked_by words ≡ None → (answer ≡ status.BadWords) ⊎ ((answer ≡ status.SinkFailed) × Rose err.faults err'.faults)
  -- where no read failed, the verdict decides, but for want of memory and failed writes
  pub complete : (Rose store.faults store'.faults → ⊥)
      → HasStatus (verdict files (plan words)) answer
      ⊎ ((answer ≡ status.NoMemory)
      ⊎ ((answer ≡ status.SinkFailed) × (Rose out.faults out'.faults ⊎ Rose err.faults err'.faults)))
