-- The command line: which lists of words are accepted, and what each asks for (this program's own usage).
use Rattle.std.specs.Prelude.{ℕ, ◌≤◌, ◌==◌, ◌&&◌, nat_le, not, Bool, false, if◌then◌else◌, List, [], ◌∷◌, length, codes, Option, Some, None, option_map}
use Rattle.air_base.specs.Bounds.{LAST_CYCLE}
use Rattle.air_base.specs.declared.bounds.TheConstants.{LAST_SHORT_CYCLE}
use Rattle.std.specs.Char.{is_ascii_digit}
use Rattle.std.specs.List.{list_all}
use Rattle.std.specs.Str.Parse.{digits_value}
use Rattle.std.specs.Cmp.Lexicographic.{pointwise}
use Rattle.command_words.specs.declared.command.Command.{Command}
use Rattle.command_words.specs.declared.command.Command.TheVariants as variant
use Rattle.command_words.specs.declared.operands.TheConstants.{MOST_EPOCHS}

-- what an accepted list of words asks for: a constructor for each form
pub data Asked : Type 0 where
  -- simulate one node with the image in this file, for so many cycles
  Node : (file : List ℕ) (cycles : ℕ) → Asked
  -- simulate the network of the scenario in this file
  Run : (file : List ℕ) → Asked
  -- simulate the network of the scenario in this file, on one thread
  RunPlain : (file : List ℕ) → Asked
  -- simulate the network of the scenario in this file, and write on what its nodes spent the window
  Monitor : (file : List ℕ) → Asked
  -- simulate the network of the scenario in this file, and write the frames that its nodes sent
  Sniff : (file : List ℕ) → Asked
  -- read the scenario in this file and its images, and run nothing
  Check : (file : List ℕ) → Asked
  -- list the instructions of the image in this file
  Disasm : (file : List ℕ) → Asked
  -- write the program of the source in this file as an image
  Asm : (file : List ℕ) → Asked
  -- simulate the sample network of this number
  Make : (number : ℕ) → Asked
  -- simulate the first epochs of the network of the scenario in this file
  Head : (file : List ℕ) (epochs : ℕ) → Asked
  -- simulate the first epochs of the network of the scenario in this file, and write the state in which it is then
  Save : (file : List ℕ) (epochs : ℕ) → Asked
  -- simulate the network of the scenario in this file from the state in that file on
  Resume : (file state : List ℕ) → Asked
  -- simulate so many epochs of the network of the scenario in this file from the state in that file on
  HeadOn : (file : List ℕ) (epochs : ℕ) (state : List ℕ) → Asked
  -- simulate so many epochs of the network of the scenario in this file from the state in that file on, and write the
  -- state in which it is then
  SaveOn : (file : List ℕ) (epochs : ℕ) (state : List ℕ) → Asked
  -- simulate the network of the scenario in this file, and write on what its nodes spent the cycles from one on and
  -- below another
  MonitorSpan : (file : List ℕ) (from to : ℕ) → Asked
  -- simulate the network of the scenario in this file from the state in the second one on, once for each line of the
  -- third one, with the input that the line says
  Sweep : (file state moves : List ℕ) → Asked
  -- simulate the network of the scenario in this file up to a cycle, and write the state in which it is as that begins
  Look : (file : List ℕ) (cycle : ℕ) → Asked
  -- the same from the state in that file on
  LookOn : (file : List ℕ) (cycle : ℕ) (state : List ℕ) → Asked
  -- simulate the network of the scenario in this file, and write what is seen at the places in that file, in the cycles
  -- from one on and below another
  Watch : (file : List ℕ) (from to : ℕ) (places : List ℕ) → Asked
  -- the same from the state in the last file on
  WatchOn : (file : List ℕ) (from to : ℕ) (places state : List ℕ) → Asked
  -- the same once for each line of the last file, with the input that the line says
  WatchSweep : (file : List ℕ) (from to : ℕ) (places state moves : List ℕ) → Asked

-- what the code's value asks for
abbrev pub shown : Command → Asked
shown (variant.Node file cycles) = Node file.now cycles
shown (variant.Run file) = Run file.now
shown (variant.RunPlain file) = RunPlain file.now
shown (variant.Monitor file) = Monitor file.now
shown (variant.Sniff file) = Sniff file.now
shown (variant.Check file) = Check file.now
shown (variant.Disasm file) = Disasm file.now
shown (variant.Asm file) = Asm file.now
shown (variant.Make number) = Make number
shown (variant.Head file epochs) = Head file.now epochs
shown (variant.Save file epochs) = Save file.now epochs
shown (variant.Resume file state) = Resume file.now state.now
shown (variant.HeadOn file epochs state) = HeadOn file.now epochs state.now
shown (variant.SaveOn file epochs state) = SaveOn file.now epochs state.now
shown (variant.MonitorSpan file from to) = MonitorSpan file.now from to
shown (variant.Sweep file state moves) = Sweep file.now state.now moves.now
shown (variant.Look file cycle) = Look file.now cycle
shown (variant.LookOn file cycle state) = LookOn file.now cycle state.now
shown (variant.Watch file from to places) = Watch file.now from to places.now
shown (variant.WatchOn file from to places state) = WatchOn file.now from to places.now state.now
shown (variant.WatchSweep file from to places state moves) = WatchSweep file.now from to places.now state.now moves.now

abbrev pub is_word : List ℕ → List ℕ → Bool
is_word name word = pointwise ◌==◌ word name

-- FILE: a word that is not empty and does not begin with a hyphen (45)
abbrev pub is_file : List ℕ → Bool
is_file [] = false
is_file (c ∷ cs) = not (c == 45)

-- a number from the least to the most, written in one to so many decimal digits
unfoldable pub number_of : ℕ → ℕ → ℕ → List ℕ → Option ℕ
number_of digits least most word =
    if nat_le 1 (length word) && nat_le (length word) digits && list_all is_ascii_digit word
    && nat_le least (digits_value 10 word) && nat_le (digits_value 10 word) most
    then Some (digits_value 10 word) else None

-- CYCLES: one to eight decimal digits that write a number from 1 to 10,000,000
abbrev pub cycles_of : List ℕ → Option ℕ
cycles_of word = number_of 8 1 LAST_SHORT_CYCLE word

-- NUMBER: one to five decimal digits that write a number of at most 65,535
abbrev pub sample_of : List ℕ → Option ℕ
sample_of word = number_of 5 0 65535 word

-- N: one to seven decimal digits that write a number from 1 on, at most 9,999,999
abbrev pub epochs_of : List ℕ → Option ℕ
epochs_of word = number_of 7 1 MOST_EPOCHS word

-- CYCLE, FROM, or TO: one to thirteen decimal digits that write a cycle of at most 1,099,511,627,776
abbrev pub bound_of : List ℕ → Option ℕ
bound_of word = number_of 13 0 LAST_CYCLE word

abbrev pub in_order : Option ℕ → Option ℕ → Option (ℕ × ℕ)
in_order (Some from) (Some to) = if nat_le from to then Some (from, to) else None
in_order _ _ = None

-- FROM TO: two cycles, the second not below the first
unfoldable pub span_of : List ℕ → List ℕ → Option (ℕ × ℕ)
span_of from to = in_order (bound_of from) (bound_of to)

-- the FILE and the number of a command that has these two: `node FILE CYCLES`, `head FILE N`, `save FILE N`, `look FILE
-- CYCLE`
unfoldable pub with_number : List ℕ → (List ℕ → Option ℕ) → (List ℕ → ℕ → Asked) → List (List ℕ) → Option Asked
with_number name read made (command ∷ file ∷ number ∷ []) =
    if is_word name command && is_file file then option_map (made file) (read number) else None
with_number name read made _ = None

-- the FILE of a command that has nothing else: `run FILE`, `monitor FILE`, `sniff FILE`, `check FILE`, `disasm FILE`,
-- `asm FILE`
unfoldable pub file_behind : List ℕ → List (List ℕ) → Option (List ℕ)
file_behind name (command ∷ file ∷ []) = if is_word name command && is_file file then Some file else None
file_behind name _ = None

-- `run --plain FILE`
unfoldable pub as_plain_run : List (List ℕ) → Option Asked
as_plain_run (command ∷ option ∷ file ∷ []) =
    if is_word (codes "run") command && is_word (codes "--plain") option && is_file file then Some (RunPlain file) else None
as_plain_run _ = None

-- `make NUMBER`
unfoldable pub as_make : List (List ℕ) → Option Asked
as_make (command ∷ number ∷ []) = if is_word (codes "make") command then option_map Make (sample_of number) else None
as_make _ = None

-- `resume FILE STATE`
unfoldable pub as_resume : List (List ℕ) → Option Asked
as_resume (command ∷ file ∷ state ∷ []) =
    if is_word (codes "resume") command && is_file file && is_file state then Some (Resume file state) else None
as_resume _ = None

-- the FILE, the number and the STATE of a command that has these three: `head FILE N STATE`, `save FILE N STATE`, `look
-- FILE CYCLE STATE`
unfoldable pub with_state : List ℕ → (List ℕ → Option ℕ) → (List ℕ → ℕ → List ℕ → Asked) → List (List ℕ) → Option Asked
with_state name read made (command ∷ file ∷ number ∷ state ∷ []) =
    if is_word name command && is_file file && is_file state then option_map (λ n. made file n state) (read number)
    else None
with_state name read made _ = None

-- `monitor FILE FROM TO`
unfoldable pub as_span : List (List ℕ) → Option Asked
as_span (command ∷ file ∷ from ∷ to ∷ []) =
    if is_word (codes "monitor") command && is_file file then option_map (λ span. MonitorSpan file span.0 span.1) (span_of from to)
    else None
as_span _ = None

-- `sweep FILE STATE MOVES`
unfoldable pub as_sweep : List (List ℕ) → Option Asked
as_sweep (command ∷ file ∷ state ∷ moves ∷ []) =
    if is_word (codes "sweep") command && is_file file && is_file state && is_file moves then Some (Sweep file state moves) else None
as_sweep _ = None

-- `watch FILE FROM TO PLACES`, with STATE behind it, and with STATE and MOVES
unfoldable pub as_watch : List (List ℕ) → Option Asked
as_watch (command ∷ file ∷ from ∷ to ∷ places ∷ []) =
    if is_word (codes "watch") command && is_file file && is_file places then option_map (λ span. Watch file span.0 span.1 places) (span_of from to)
    else None
as_watch _ = None

unfoldable pub as_watch_on : List (List ℕ) → Option Asked
as_watch_on (command ∷ file ∷ from ∷ to ∷ places ∷ state ∷ []) =
    if is_word (codes "watch") command && is_file file && is_file places && is_file state then option_map (λ span. WatchOn file span.0 span.1 places state) (span_of from to)
    else None
as_watch_on _ = None

unfoldable pub as_watch_sweep : List (List ℕ) → Option Asked
as_watch_sweep (command ∷ file ∷ from ∷ to ∷ places ∷ state ∷ moves ∷ []) =
    if is_word (codes "watch") command && is_file file && is_file places && is_file state && is_file moves
    then option_map (λ span. WatchSweep file span.0 span.1 places state moves) (span_of from to)
    else None
as_watch_sweep _ = None

abbrev pub or_else : Option Asked → Option Asked → Option Asked
or_else (Some asked) other = Some asked
or_else None other = other

-- what the words ask for: the forms in turn; None where they are not accepted
unfoldable pub asked_by : List (List ℕ) → Option Asked
asked_by words =
    or_else (with_number (codes "node") cycles_of Node words)
    (or_else (option_map Run (file_behind (codes "run") words))
    (or_else (as_plain_run words)
    (or_else (option_map Monitor (file_behind (codes "monitor") words))
    (or_else (option_map Sniff (file_behind (codes "sniff") words))
    (or_else (option_map Check (file_behind (codes "check") words))
    (or_else (option_map Disasm (file_behind (codes "disasm") words))
    (or_else (option_map Asm (file_behind (codes "asm") words))
    (or_else (as_make words)
    (or_else (with_number (codes "head") epochs_of Head words)
    (or_else (with_number (codes "save") epochs_of Save words)
    (or_else (as_resume words)
    (or_else (with_state (codes "head") epochs_of HeadOn words)
    (or_else (with_state (codes "save") epochs_of SaveOn words)
    (or_else (as_span words)
    (or_else (as_sweep words)
    (or_else (with_number (codes "look") bound_of Look words)
    (or_else (with_state (codes "look") bound_of LookOn words)
    (or_else (as_watch words)
    (or_else (as_watch_on words)
    (as_watch_sweep words))))))))))))))))))))

-- the number of cycles, where there is one, is from 1 to 10,000,000, that of a sample at most 65,535, that of epochs
-- from 1 to 9,999,999, a cycle that is looked at at most 1,099,511,627,776, and a span ends not before it begins and at
-- most at 1,099,511,627,776
abbrev pub IsInLimits : Asked → Type 0
IsInLimits (Node file cycles) = (1 ≤ cycles) × (cycles ≤ LAST_SHORT_CYCLE)
IsInLimits (Run file) = Unit {0}
IsInLimits (RunPlain file) = Unit {0}
IsInLimits (Monitor file) = Unit {0}
IsInLimits (Sniff file) = Unit {0}
IsInLimits (Check file) = Unit {0}
IsInLimits (Disasm file) = Unit {0}
IsInLimits (Asm file) = Unit {0}
IsInLimits (Make number) = number ≤ 65535
IsInLimits (Head file epochs) = (1 ≤ epochs) × (epochs ≤ MOST_EPOCHS)
IsInLimits (Save file epochs) = (1 ≤ epochs) × (epochs ≤ MOST_EPOCHS)
IsInLimits (Resume file state) = Unit {0}
IsInLimits (HeadOn file epochs state) = (1 ≤ epochs) × (epochs ≤ MOST_EPOCHS)
IsInLimits (SaveOn file epochs state) = (1 ≤ epochs) × (epochs ≤ MOST_EPOCHS)
IsInLimits (MonitorSpan file from to) = (from ≤ to) × (to ≤ LAST_CYCLE)
IsInLimits (Sweep file state moves) = Unit {0}
IsInLimits (Look file cycle) = cycle ≤ LAST_CYCLE
IsInLimits (LookOn file cycle state) = cycle ≤ LAST_CYCLE
IsInLimits (Watch file from to places) = (from ≤ to) × (to ≤ LAST_CYCLE)
IsInLimits (WatchOn file from to places state) = (from ≤ to) × (to ≤ LAST_CYCLE)
IsInLimits (WatchSweep file from to places state moves) = (from ≤ to) × (to ≤ LAST_CYCLE)
