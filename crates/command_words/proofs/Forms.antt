-- The forms of accepted words, told apart.
use Rattle.std.proofs.Common.{◌≡◌, ℕ, ◌≤◌, arith, nat_le, ◌&&◌, if◌then◌else◌, Bool, true, false, option_map, List, Option, Some, None, [], ◌∷◌, codes, refl, sym}
use Rattle.std.proofs.lemmas.Bool.{and_parts}
use Rattle.std.proofs.lemmas.Bool.Decides.{nat_tests}
use Rattle.std.proofs.lemmas.Slice.Eq.{bytes_eq-Decides}
use Rattle.std.specs.Prelude.{IfSome}
use Rattle.air_base.specs.Bounds.{LAST_CYCLE}
use Rattle.command_words.specs.declared.command.Command.{Command}
use Rattle.command_words.specs.Words.{Asked, Node, Run, RunPlain, Monitor, Sniff, Check, Disasm, Asm, Make, Head, Save, Resume, HeadOn, SaveOn, MonitorSpan, Sweep, Look, LookOn, Watch, WatchOn, WatchSweep, as_make, as_plain_run, as_resume, as_span, as_sweep, as_watch, as_watch_on, as_watch_sweep, asked_by, cycles_of, epochs_of, bound_of, file_behind, in_order, is_file, is_word, or_else, sample_of, shown, span_of, with_number, with_state, IsInLimits}
use Rattle.command_words.proofs.Numerals.{number_limits}
use Rattle.air_base.specs.declared.bounds.TheConstants.{LAST_SHORT_CYCLE}
use Rattle.command_words.specs.declared.operands.TheConstants.{MOST_EPOCHS}

-- the two numbers of a span
pub record Span (from to : List ℕ) (a b : ℕ) : Type 0 where
  pub from_is : bound_of from ≡ Some a
  pub to_is : bound_of to ≡ Some b
  pub order : nat_le a b ≡ true

-- words that ask for something, each form with what it says
pub data Form : List (List ℕ) → Asked → Type 0 where
  IsNode : (file cycles : List ℕ) (n : ℕ) → is_file file ≡ true → cycles_of cycles ≡ Some n → Form (codes "node" ∷ file ∷ cycles ∷ []) (Node file n)
  IsRun : (file : List ℕ) → is_file file ≡ true → Form (codes "run" ∷ file ∷ []) (Run file)
  IsPlainRun : (file : List ℕ) → is_file file ≡ true → Form (codes "run" ∷ codes "--plain" ∷ file ∷ []) (RunPlain file)
  IsMonitor : (file : List ℕ) → is_file file ≡ true → Form (codes "monitor" ∷ file ∷ []) (Monitor file)
  IsSniff : (file : List ℕ) → is_file file ≡ true → Form (codes "sniff" ∷ file ∷ []) (Sniff file)
  IsCheck : (file : List ℕ) → is_file file ≡ true → Form (codes "check" ∷ file ∷ []) (Check file)
  IsDisasm : (file : List ℕ) → is_file file ≡ true → Form (codes "disasm" ∷ file ∷ []) (Disasm file)
  IsAsm : (file : List ℕ) → is_file file ≡ true → Form (codes "asm" ∷ file ∷ []) (Asm file)
  IsMake : (number : List ℕ) (n : ℕ) → sample_of number ≡ Some n → Form (codes "make" ∷ number ∷ []) (Make n)
  IsHead : (file epochs : List ℕ) (n : ℕ) → is_file file ≡ true → epochs_of epochs ≡ Some n → Form (codes "head" ∷ file ∷ epochs ∷ []) (Head file n)
  IsSave : (file epochs : List ℕ) (n : ℕ) → is_file file ≡ true → epochs_of epochs ≡ Some n → Form (codes "save" ∷ file ∷ epochs ∷ []) (Save file n)
  IsResume : (file state : List ℕ) → is_file file ≡ true → is_file state ≡ true → Form (codes "resume" ∷ file ∷ state ∷ []) (Resume file state)
  IsHeadOn : (file epochs state : List ℕ) (n : ℕ) → is_file file ≡ true → epochs_of epochs ≡ Some n → is_file state ≡ true → Form (codes "head" ∷ file ∷ epochs ∷ state ∷ []) (HeadOn file n state)
  IsSaveOn : (file epochs state : List ℕ) (n : ℕ) → is_file file ≡ true → epochs_of epochs ≡ Some n → is_file state ≡ true → Form (codes "save" ∷ file ∷ epochs ∷ state ∷ []) (SaveOn file n state)
  IsMonitorSpan : (file from to : List ℕ) (a b : ℕ) → is_file file ≡ true → Span from to a b → Form (codes "monitor" ∷ file ∷ from ∷ to ∷ []) (MonitorSpan file a b)
  IsSweep : (file state moves : List ℕ) → is_file file ≡ true → is_file state ≡ true → is_file moves ≡ true → Form (codes "sweep" ∷ file ∷ state ∷ moves ∷ []) (Sweep file state moves)
  IsLook : (file cycle : List ℕ) (n : ℕ) → is_file file ≡ true → bound_of cycle ≡ Some n → Form (codes "look" ∷ file ∷ cycle ∷ []) (Look file n)
  IsLookOn : (file cycle state : List ℕ) (n : ℕ) → is_file file ≡ true → bound_of cycle ≡ Some n → is_file state ≡ true → Form (codes "look" ∷ file ∷ cycle ∷ state ∷ []) (LookOn file n state)
  IsWatch : (file from to places : List ℕ) (a b : ℕ) → is_file file ≡ true → is_file places ≡ true → Span from to a b → Form (codes "watch" ∷ file ∷ from ∷ to ∷ places ∷ []) (Watch file a b places)
  IsWatchOn : (file from to places state : List ℕ) (a b : ℕ) → is_file file ≡ true → is_file places ≡ true → is_file state ≡ true → Span from to a b
      → Form (codes "watch" ∷ file ∷ from ∷ to ∷ places ∷ state ∷ []) (WatchOn file a b places state)
  IsWatchSweep : (file from to places state moves : List ℕ) (a b : ℕ) → is_file file ≡ true → is_file places ≡ true → is_file state ≡ true → is_file moves ≡ true → Span from to a b
      → Form (codes "watch" ∷ file ∷ from ∷ to ∷ places ∷ state ∷ moves ∷ []) (WatchSweep file a b places state moves)

same : (name word : List ℕ) → is_word name word ≡ true → word ≡ name
same name word h = (bytes_eq-Decides word name).0 h

-- a command with a file and a number
module _ (name : List ℕ) (read : List ℕ → Option ℕ) (made : List ℕ → ℕ → Asked)
    (form : (file number : List ℕ) (n : ℕ) → is_file file ≡ true → read number ≡ Some n → Form (name ∷ file ∷ number ∷ []) (made file n)) where
  number_form : (word file number : List ℕ) (b : Bool) → b ≡ (is_word name word && is_file file) → (o : Option ℕ) → o ≡ read number → (asked : Asked)
      → (if b then option_map (made file) o else None) ≡ Some asked → Form (word ∷ file ∷ number ∷ []) asked
  number_form word file number false e o f asked h = absurd (cc)
  number_form word file number true e None f asked h = absurd (cc)
  number_form word file number true e (Some n) f asked h =
      let p = and_parts (is_word name word) (is_file file) (sym e) in
      let w : word ≡ name = same name word p.0 in
      let a : made file n ≡ asked = cc in
      rw (w, ← a) (form file number n p.1 (sym f))

  of_number : (words : List (List ℕ)) (asked : Asked) → with_number name read made words ≡ Some asked → Form words asked
  unfolding with_number
  of_number [] asked h = absurd (cc)
  of_number (a ∷ []) asked h = absurd (cc)
  of_number (a ∷ b ∷ []) asked h = absurd (cc)
  of_number (word ∷ file ∷ number ∷ []) asked h = number_form word file number _ refl _ refl asked h
  of_number (a ∷ b ∷ c ∷ d ∷ more) asked h = absurd (cc)

-- a command with a file, a number and a state
module _ (name : List ℕ) (read : List ℕ → Option ℕ) (made : List ℕ → ℕ → List ℕ → Asked)
    (form : (file number state : List ℕ) (n : ℕ) → is_file file ≡ true → read number ≡ Some n → is_file state ≡ true → Form (name ∷ file ∷ number ∷ state ∷ []) (made file n state)) where
  state_form : (word file number state : List ℕ) (b : Bool) → b ≡ (is_word name word && is_file file && is_file state) → (o : Option ℕ) → o ≡ read number → (asked : Asked)
      → (if b then option_map (λ n. made file n state) o else None) ≡ Some asked → Form (word ∷ file ∷ number ∷ state ∷ []) asked
  state_form word file number state false e o f asked h = absurd (cc)
  state_form word file number state true e None f asked h = absurd (cc)
  state_form word file number state true e (Some n) f asked h =
      let p = and_parts (is_word name word && is_file file) (is_file state) (sym e) in
      let q = and_parts (is_word name word) (is_file file) p.0 in
      let w : word ≡ name = same name word q.0 in
      let a : made file n state ≡ asked = cc in
      rw (w, ← a) (form file number state n q.1 (sym f) p.1)

  of_state : (words : List (List ℕ)) (asked : Asked) → with_state name read made words ≡ Some asked → Form words asked
  unfolding with_state
  of_state [] asked h = absurd (cc)
  of_state (a ∷ []) asked h = absurd (cc)
  of_state (a ∷ b ∷ []) asked h = absurd (cc)
  of_state (a ∷ b ∷ c ∷ []) asked h = absurd (cc)
  of_state (word ∷ file ∷ number ∷ state ∷ []) asked h = state_form word file number state _ refl _ refl asked h
  of_state (a ∷ b ∷ c ∷ d ∷ e ∷ more) asked h = absurd (cc)

-- two words that are a span
span_if : (from to : List ℕ) (a b : ℕ) (t : Bool) → t ≡ nat_le a b → bound_of from ≡ Some a → bound_of to ≡ Some b → (p : ℕ × ℕ)
    → (if t then Some (a, b) else None) ≡ Some p → Span from to p.0 p.1
span_if from to a b false e f g p h = absurd (cc)
span_if from to a b true e f g p h =
    let s : (a, b) ≡ p = cc in
    rw (← s) (record { from_is = f; to_is = g; order = sym e })

span_parts : (from to : List ℕ) (o q : Option ℕ) → o ≡ bound_of from → q ≡ bound_of to → (p : ℕ × ℕ) → in_order o q ≡ Some p → Span from to p.0 p.1
span_parts from to (Some a) (Some b) f g p h = span_if from to a b _ refl (sym f) (sym g) p h
span_parts from to (Some a) None f g p h = absurd (cc)
span_parts from to None q f g p h = absurd (cc)

span_given : (from to : List ℕ) (p : ℕ × ℕ) → span_of from to ≡ Some p → Span from to p.0 p.1
unfolding span_of
span_given from to p h = span_parts from to _ _ refl refl p h

span_form : (word file from to : List ℕ) (b : Bool) → b ≡ (is_word (codes "monitor") word && is_file file) → (o : Option (ℕ × ℕ)) → o ≡ span_of from to → (asked : Asked)
    → (if b then option_map (λ p. MonitorSpan file p.0 p.1) o else None) ≡ Some asked → Form (word ∷ file ∷ from ∷ to ∷ []) asked
span_form word file from to false e o f asked h = absurd (cc)
span_form word file from to true e None f asked h = absurd (cc)
span_form word file from to true e (Some p) f asked h =
    let q = and_parts (is_word (codes "monitor") word) (is_file file) (sym e) in
    let w : word ≡ codes "monitor" = same (codes "monitor") word q.0 in
    let a : MonitorSpan file p.0 p.1 ≡ asked = cc in
    rw (w, ← a) (IsMonitorSpan file from to p.0 p.1 q.1 (span_given from to p (sym f)))

of_span : (words : List (List ℕ)) (asked : Asked) → as_span words ≡ Some asked → Form words asked
unfolding as_span
of_span [] asked h = absurd (cc)
of_span (a ∷ []) asked h = absurd (cc)
of_span (a ∷ b ∷ []) asked h = absurd (cc)
of_span (a ∷ b ∷ c ∷ []) asked h = absurd (cc)
of_span (word ∷ file ∷ from ∷ to ∷ []) asked h = span_form word file from to _ refl _ refl asked h
of_span (a ∷ b ∷ c ∷ d ∷ e ∷ more) asked h = absurd (cc)

-- what a span's numbers make of it, where the words before and behind it are accepted
watch_form : (from to : List ℕ) (words : List (List ℕ)) (made : ℕ → ℕ → Asked) (b : Bool) → (b ≡ true → (m n : ℕ) → Span from to m n → Form words (made m n))
    → (o : Option (ℕ × ℕ)) → o ≡ span_of from to → (asked : Asked) → (if b then option_map (λ p. made p.0 p.1) o else None) ≡ Some asked → Form words asked
watch_form from to words made false form o f asked h = absurd (cc)
watch_form from to words made true form None f asked h = absurd (cc)
watch_form from to words made true form (Some p) f asked h =
    let a : made p.0 p.1 ≡ asked = cc in
    rw (← a) (form refl p.0 p.1 (span_given from to p (sym f)))

-- a command, FILE and PLACES
record Named (word file places : List ℕ) : Type 0 where
  name : word ≡ codes "watch"
  file_is : is_file file ≡ true
  places_is : is_file places ≡ true

named : (word file places : List ℕ) → (is_word (codes "watch") word && is_file file && is_file places) ≡ true → Named word file places
named word file places e =
    let p = and_parts (is_word (codes "watch") word && is_file file) (is_file places) e in
    let q = and_parts (is_word (codes "watch") word) (is_file file) p.0 in
    record { name = same (codes "watch") word q.0; file_is = q.1; places_is = p.1 }

of_watch : (words : List (List ℕ)) (asked : Asked) → as_watch words ≡ Some asked → Form words asked
unfolding as_watch
of_watch [] asked h = absurd (cc)
of_watch (a ∷ []) asked h = absurd (cc)
of_watch (a ∷ b ∷ []) asked h = absurd (cc)
of_watch (a ∷ b ∷ c ∷ []) asked h = absurd (cc)
of_watch (a ∷ b ∷ c ∷ d ∷ []) asked h = absurd (cc)
of_watch (word ∷ file ∷ from ∷ to ∷ places ∷ []) asked h =
    watch_form from to (word ∷ file ∷ from ∷ to ∷ places ∷ []) (λ m n. Watch file m n places) _
    (λ e m n s. let p = named word file places e in rw p.name (IsWatch file from to places m n p.file_is p.places_is s)) _ refl asked h
of_watch (a ∷ b ∷ c ∷ d ∷ e ∷ f ∷ more) asked h = absurd (cc)

of_watch_on : (words : List (List ℕ)) (asked : Asked) → as_watch_on words ≡ Some asked → Form words asked
unfolding as_watch_on
of_watch_on [] asked h = absurd (cc)
of_watch_on (a ∷ []) asked h = absurd (cc)
of_watch_on (a ∷ b ∷ []) asked h = absurd (cc)
of_watch_on (a ∷ b ∷ c ∷ []) asked h = absurd (cc)
of_watch_on (a ∷ b ∷ c ∷ d ∷ []) asked h = absurd (cc)
of_watch_on (a ∷ b ∷ c ∷ d ∷ e ∷ []) asked h = absurd (cc)
of_watch_on (word ∷ file ∷ from ∷ to ∷ places ∷ state ∷ []) asked h =
    let all = is_word (codes "watch") word && is_file file && is_file places in
    watch_form from to (word ∷ file ∷ from ∷ to ∷ places ∷ state ∷ []) (λ m n. WatchOn file m n places state) _
    (λ e m n s.
    let q = and_parts all (is_file state) e in
    let p = named word file places q.0 in
    rw p.name (IsWatchOn file from to places state m n p.file_is p.places_is q.1 s)) _ refl asked h
of_watch_on (a ∷ b ∷ c ∷ d ∷ e ∷ f ∷ g ∷ more) asked h = absurd (cc)

of_watch_sweep : (words : List (List ℕ)) (asked : Asked) → as_watch_sweep words ≡ Some asked → Form words asked
unfolding as_watch_sweep
of_watch_sweep [] asked h = absurd (cc)
of_watch_sweep (a ∷ []) asked h = absurd (cc)
of_watch_sweep (a ∷ b ∷ []) asked h = absurd (cc)
of_watch_sweep (a ∷ b ∷ c ∷ []) asked h = absurd (cc)
of_watch_sweep (a ∷ b ∷ c ∷ d ∷ []) asked h = absurd (cc)
of_watch_sweep (a ∷ b ∷ c ∷ d ∷ e ∷ []) asked h = absurd (cc)
of_watch_sweep (a ∷ b ∷ c ∷ d ∷ e ∷ f ∷ []) asked h = absurd (cc)
of_watch_sweep (word ∷ file ∷ from ∷ to ∷ places ∷ state ∷ moves ∷ []) asked h =
    let all = is_word (codes "watch") word && is_file file && is_file places in
    watch_form from to (word ∷ file ∷ from ∷ to ∷ places ∷ state ∷ moves ∷ []) (λ m n. WatchSweep file m n places state moves) _
    (λ e m n s.
    let r = and_parts (all && is_file state) (is_file moves) e in
    let q = and_parts all (is_file state) r.0 in
    let p = named word file places q.0 in
    rw p.name (IsWatchSweep file from to places state moves m n p.file_is p.places_is q.1 r.1 s)) _ refl asked h
of_watch_sweep (a ∷ b ∷ c ∷ d ∷ e ∷ f ∷ g ∷ i ∷ more) asked h = absurd (cc)

sweep_form : (word file state moves : List ℕ) (b : Bool) → b ≡ (is_word (codes "sweep") word && is_file file && is_file state && is_file moves) → (asked : Asked)
    → (if b then Some (Sweep file state moves) else None) ≡ Some asked → Form (word ∷ file ∷ state ∷ moves ∷ []) asked
sweep_form word file state moves false e asked h = absurd (cc)
sweep_form word file state moves true e asked h =
    let p = and_parts (is_word (codes "sweep") word && is_file file && is_file state) (is_file moves) (sym e) in
    let q = and_parts (is_word (codes "sweep") word && is_file file) (is_file state) p.0 in
    let r = and_parts (is_word (codes "sweep") word) (is_file file) q.0 in
    let w : word ≡ codes "sweep" = same (codes "sweep") word r.0 in
    let a : Sweep file state moves ≡ asked = cc in
    rw (w, ← a) (IsSweep file state moves r.1 q.1 p.1)

of_sweep : (words : List (List ℕ)) (asked : Asked) → as_sweep words ≡ Some asked → Form words asked
unfolding as_sweep
of_sweep [] asked h = absurd (cc)
of_sweep (a ∷ []) asked h = absurd (cc)
of_sweep (a ∷ b ∷ []) asked h = absurd (cc)
of_sweep (a ∷ b ∷ c ∷ []) asked h = absurd (cc)
of_sweep (word ∷ file ∷ state ∷ moves ∷ []) asked h = sweep_form word file state moves _ refl asked h
of_sweep (a ∷ b ∷ c ∷ d ∷ e ∷ more) asked h = absurd (cc)

resume_form : (word file state : List ℕ) (b : Bool) → b ≡ (is_word (codes "resume") word && is_file file && is_file state) → (asked : Asked)
    → (if b then Some (Resume file state) else None) ≡ Some asked → Form (word ∷ file ∷ state ∷ []) asked
resume_form word file state false e asked h = absurd (cc)
resume_form word file state true e asked h =
    let p = and_parts (is_word (codes "resume") word && is_file file) (is_file state) (sym e) in
    let q = and_parts (is_word (codes "resume") word) (is_file file) p.0 in
    let w : word ≡ codes "resume" = same (codes "resume") word q.0 in
    let a : Resume file state ≡ asked = cc in
    rw (w, ← a) (IsResume file state q.1 p.1)

plain_run_form : (word option file : List ℕ) (b : Bool) → b ≡ (is_word (codes "run") word && is_word (codes "--plain") option && is_file file) → (asked : Asked)
    → (if b then Some (RunPlain file) else None) ≡ Some asked → Form (word ∷ option ∷ file ∷ []) asked
plain_run_form word option file false e asked h = absurd (cc)
plain_run_form word option file true e asked h =
    let p = and_parts (is_word (codes "run") word && is_word (codes "--plain") option) (is_file file) (sym e) in
    let q = and_parts (is_word (codes "run") word) (is_word (codes "--plain") option) p.0 in
    let w : word ≡ codes "run" = same (codes "run") word q.0 in
    let v : option ≡ codes "--plain" = same (codes "--plain") option q.1 in
    let a : RunPlain file ≡ asked = cc in
    rw (w, v, ← a) (IsPlainRun file p.1)

make_form : (word number : List ℕ) (b : Bool) → b ≡ is_word (codes "make") word → (o : Option ℕ) → o ≡ sample_of number → (asked : Asked)
    → (if b then option_map Make o else None) ≡ Some asked → Form (word ∷ number ∷ []) asked
make_form word number false e o f asked h = absurd (cc)
make_form word number true e None f asked h = absurd (cc)
make_form word number true e (Some n) f asked h =
    let w : word ≡ codes "make" = same (codes "make") word (sym e) in
    let a : Make n ≡ asked = cc in
    rw (w, ← a) (IsMake number n (sym f))

of_resume : (words : List (List ℕ)) (asked : Asked) → as_resume words ≡ Some asked → Form words asked
unfolding as_resume
of_resume [] asked h = absurd (cc)
of_resume (a ∷ []) asked h = absurd (cc)
of_resume (a ∷ b ∷ []) asked h = absurd (cc)
of_resume (word ∷ file ∷ state ∷ []) asked h = resume_form word file state _ refl asked h
of_resume (a ∷ b ∷ c ∷ d ∷ more) asked h = absurd (cc)

of_plain_run : (words : List (List ℕ)) (asked : Asked) → as_plain_run words ≡ Some asked → Form words asked
unfolding as_plain_run
of_plain_run [] asked h = absurd (cc)
of_plain_run (a ∷ []) asked h = absurd (cc)
of_plain_run (a ∷ b ∷ []) asked h = absurd (cc)
of_plain_run (word ∷ option ∷ file ∷ []) asked h = plain_run_form word option file _ refl asked h
of_plain_run (a ∷ b ∷ c ∷ d ∷ more) asked h = absurd (cc)

of_make : (words : List (List ℕ)) (asked : Asked) → as_make words ≡ Some asked → Form words asked
unfolding as_make
of_make [] asked h = absurd (cc)
of_make (a ∷ []) asked h = absurd (cc)
of_make (word ∷ number ∷ []) asked h = make_form word number _ refl _ refl asked h
of_make (a ∷ b ∷ c ∷ more) asked h = absurd (cc)

-- the two words of a command with a file
record Behind (name : List ℕ) (words : List (List ℕ)) (file : List ℕ) : Type 0 where
  pub words_are : words ≡ name ∷ file ∷ []
  pub named : is_file file ≡ true

behind_if : (name word other : List ℕ) (b : Bool) → b ≡ (is_word name word && is_file other) → (file : List ℕ)
    → (if b then Some other else None) ≡ Some file → Behind name (word ∷ other ∷ []) file
behind_if name word other false e file h = absurd (cc)
behind_if name word other true e file h =
    let p = and_parts (is_word name word) (is_file other) (sym e) in
    let w : word ≡ name = same name word p.0 in
    let f : other ≡ file = cc in
    record { words_are = cc; named = rw (← f) p.1 }

behind : (name : List ℕ) (words : List (List ℕ)) (file : List ℕ) → file_behind name words ≡ Some file → Behind name words file
unfolding file_behind
behind name [] file h = absurd (cc)
behind name (a ∷ []) file h = absurd (cc)
behind name (word ∷ other ∷ []) file h = behind_if name word other _ refl file h
behind name (a ∷ b ∷ c ∷ more) file h = absurd (cc)

-- a command that has a file and nothing else
of_file : (name : List ℕ) (words : List (List ℕ)) (made : List ℕ → Asked) (o : Option (List ℕ)) → o ≡ file_behind name words
    → ((file : List ℕ) → is_file file ≡ true → Form (name ∷ file ∷ []) (made file))
    → (asked : Asked) → option_map made o ≡ Some asked → Form words asked
of_file name words made None e form asked h = absurd (cc)
of_file name words made (Some file) e form asked h =
    let b = behind name words file (sym e) in
    let a : made file ≡ asked = cc in
    rw (b.words_are, ← a) (form file b.named)

-- one form or the other
either : (words : List (List ℕ)) (asked : Asked) (one other : Option Asked) → (one ≡ Some asked → Form words asked) → (other ≡ Some asked → Form words asked) → or_else one other ≡ Some asked → Form words asked
either words asked (Some x) other f g h = f h
either words asked None other f g h = g h

-- what is asked for was asked in one of the forms
pub form_of : (words : List (List ℕ)) (asked : Asked) → asked_by words ≡ Some asked → Form words asked
unfolding asked_by
form_of words asked h =
    either words asked (with_number (codes "node") cycles_of Node words) _ (of_number (codes "node") cycles_of Node IsNode words asked)
    (either words asked (option_map Run (file_behind (codes "run") words)) _ (of_file (codes "run") words Run _ refl IsRun asked)
    (either words asked (as_plain_run words) _ (of_plain_run words asked)
    (either words asked (option_map Monitor (file_behind (codes "monitor") words)) _ (of_file (codes "monitor") words Monitor _ refl IsMonitor asked)
    (either words asked (option_map Sniff (file_behind (codes "sniff") words)) _ (of_file (codes "sniff") words Sniff _ refl IsSniff asked)
    (either words asked (option_map Check (file_behind (codes "check") words)) _ (of_file (codes "check") words Check _ refl IsCheck asked)
    (either words asked (option_map Disasm (file_behind (codes "disasm") words)) _ (of_file (codes "disasm") words Disasm _ refl IsDisasm asked)
    (either words asked (option_map Asm (file_behind (codes "asm") words)) _ (of_file (codes "asm") words Asm _ refl IsAsm asked)
    (either words asked (as_make words) _ (of_make words asked)
    (either words asked (with_number (codes "head") epochs_of Head words) _ (of_number (codes "head") epochs_of Head IsHead words asked)
    (either words asked (with_number (codes "save") epochs_of Save words) _ (of_number (codes "save") epochs_of Save IsSave words asked)
    (either words asked (as_resume words) _ (of_resume words asked)
    (either words asked (with_state (codes "head") epochs_of HeadOn words) _ (of_state (codes "head") epochs_of HeadOn IsHeadOn words asked)
    (either words asked (with_state (codes "save") epochs_of SaveOn words) _ (of_state (codes "save") epochs_of SaveOn IsSaveOn words asked)
    (either words asked (as_span words) _ (of_span words asked)
    (either words asked (as_sweep words) _ (of_sweep words asked)
    (either words asked (with_number (codes "look") bound_of Look words) _ (of_number (codes "look") bound_of Look IsLook words asked)
    (either words asked (with_state (codes "look") bound_of LookOn words) _ (of_state (codes "look") bound_of LookOn IsLookOn words asked)
    (either words asked (as_watch words) _ (of_watch words asked)
    (either words asked (as_watch_on words) _ (of_watch_on words asked)
    (of_watch_sweep words asked)))))))))))))))))))) h

span_limits : (from to : List ℕ) (a b : ℕ) → Span from to a b → (a ≤ b) × (b ≤ LAST_CYCLE)
span_limits from to a b s =
    let order : nat_le a b ≡ true = s.order in
    (grind (arith, nat_tests), (number_limits 13 0 LAST_CYCLE to b s.to_is).1)

pub in_limits : (words : List (List ℕ)) (asked : Asked) → Form words asked → IsInLimits asked
in_limits _ _ (IsNode file cycles n f e) = number_limits 8 1 LAST_SHORT_CYCLE cycles n e
in_limits _ _ (IsRun file f) = tt
in_limits _ _ (IsPlainRun file f) = tt
in_limits _ _ (IsMonitor file f) = tt
in_limits _ _ (IsSniff file f) = tt
in_limits _ _ (IsCheck file f) = tt
in_limits _ _ (IsDisasm file f) = tt
in_limits _ _ (IsAsm file f) = tt
in_limits _ _ (IsMake number n e) = (number_limits 5 0 65535 number n e).1
in_limits _ _ (IsHead file epochs n f e) = number_limits 7 1 MOST_EPOCHS epochs n e
in_limits _ _ (IsSave file epochs n f e) = number_limits 7 1 MOST_EPOCHS epochs n e
in_limits _ _ (IsResume file state f g) = tt
in_limits _ _ (IsHeadOn file epochs state n f e g) = number_limits 7 1 MOST_EPOCHS epochs n e
in_limits _ _ (IsSaveOn file epochs state n f e g) = number_limits 7 1 MOST_EPOCHS epochs n e
in_limits _ _ (IsMonitorSpan file from to a b f s) = span_limits from to a b s
in_limits _ _ (IsSweep file state moves f g h) = tt
in_limits _ _ (IsLook file cycle n f e) = (number_limits 13 0 LAST_CYCLE cycle n e).1
in_limits _ _ (IsLookOn file cycle state n f e g) = (number_limits 13 0 LAST_CYCLE cycle n e).1
in_limits _ _ (IsWatch file from to places a b f g s) = span_limits from to a b s
in_limits _ _ (IsWatchOn file from to places state a b f g h s) = span_limits from to a b s
in_limits _ _ (IsWatchSweep file from to places state moves a b f g h i s) = span_limits from to a b s

-- a command that is what the words ask for
pub command_in_limits : (words : List (List ℕ)) (command : Option Command) → option_map shown command ≡ asked_by words → IfSome command (λ o. IsInLimits (shown o))
command_in_limits words None e = tt
command_in_limits words (Some o) e = in_limits words (shown o) (form_of words (shown o) (sym e))
