-- A run in pieces: what `head` writes, and what `resume` writes of what `save` wrote. Own to this simulator.
use Rattle.std.specs.Prelude.{◌≡◌, ℕ, ◌+◌, ◌*◌, ◌≤◌, ◌++◌, List, Some, length}
use Rattle.world_core.specs.Kept.{epoch}
use Rattle.command_words.specs.Words.{Head, HeadOn, Look, Resume, Run, Save, SaveOn, asked_by}
use Rattle.command_plans.specs.Reading.{Files, Accepted, verdict}
use Rattle.commands.specs.Plan.{network_plan, plan}
use Rattle.command_plans.specs.declared.files.TheConstants.{MOST_STATE_BYTES}

-- The words of four calls about the scenario in one file: `head` and `save` with as many epochs, `run`, and `resume`
-- with the state in another file. `save` is accepted over the files of the first three calls. Over those of the last
-- one the state is what it wrote, and the scenario and its images are as they were.
pub record IsInPieces (files later : Files) (head save resume run : List (List ℕ)) : Type 0 where
  pub file : List ℕ
  pub state : List ℕ
  pub epochs : ℕ
  pub head_asks : asked_by head ≡ Some (Head file epochs)
  pub save_asks : asked_by save ≡ Some (Save file epochs)
  pub resume_asks : asked_by resume ≡ Some (Resume file state)
  pub run_asks : asked_by run ≡ Some (Run file)
  pub saved : List ℕ
  pub accepted : verdict files (plan save) ≡ Accepted saved
  pub written : later state ≡ Some saved
  pub kept : verdict later (network_plan file) ≡ verdict files (network_plan file)

-- the other three calls are accepted too; the state is no longer than a state may be, and the first piece and the rest
-- are the whole
pub record AreThePieces (files later : Files) (head save resume run : List (List ℕ)) (saved : List ℕ) : Type 0 where
  pub first : List ℕ
  pub rest : List ℕ
  pub whole : List ℕ
  pub head_is : verdict files (plan head) ≡ Accepted first
  pub resume_is : verdict later (plan resume) ≡ Accepted rest
  pub run_is : verdict files (plan run) ≡ Accepted whole
  pub short : length saved ≤ MOST_STATE_BYTES
  pub joined : first ++ rest ≡ whole

-- The words of calls about the scenario in one file: `save` with so many epochs; `save` and `head` with so many more from
-- the state in another file; and `save` and `look` at the end of all of them. The first and the last `save` are accepted
-- over the same files. Over those of the calls from a state that is what the first one wrote, and the scenario and its
-- images are as they were.
pub record AreInTurn (files later : Files) (first next more whole look : List (List ℕ)) : Type 0 where
  pub file : List ℕ
  pub state : List ℕ
  pub epochs : ℕ
  pub further : ℕ
  pub first_asks : asked_by first ≡ Some (Save file epochs)
  pub next_asks : asked_by next ≡ Some (SaveOn file further state)
  pub more_asks : asked_by more ≡ Some (HeadOn file further state)
  pub whole_asks : asked_by whole ≡ Some (Save file (epochs + further))
  pub look_asks : asked_by look ≡ Some (Look file ((epochs + further) * epoch))
  pub saved : List ℕ
  pub last : List ℕ
  pub accepted : verdict files (plan first) ≡ Accepted saved
  pub whole_is : verdict files (plan whole) ≡ Accepted last
  pub written : later state ≡ Some saved
  pub unchanged : verdict later (network_plan file) ≡ verdict files (network_plan file)

-- they are all accepted, and what the saves in turn and `look` write is what the last `save` writes
pub record AreOneSave (files later : Files) (next more look : List (List ℕ)) (last : List ℕ) : Type 0 where
  pub next_is : verdict later (plan next) ≡ Accepted last
  pub rows : List ℕ
  pub more_is : verdict later (plan more) ≡ Accepted rows
  pub look_is : verdict files (plan look) ≡ Accepted last
