-- What is accepted behind the name of each command.
use Rattle.std.proofs.Common.{◌≡◌, ℕ, ◌<◌, ◌≤◌, ◌&&◌, if◌then◌else◌, Bool, true, false, is_some, option_map, List, Option, Some, None, [], ◌∷◌, codes, length, map, refl, arith}
use Rattle.std.proofs.lemmas.Slice.Eq.{bytes_eq-Decides}
use Rattle.command_words.specs.Words.{Asked, Node, Run, RunPlain, Monitor, Sniff, Check, Disasm, Asm, Make, Head, Save, Resume, HeadOn, SaveOn, MonitorSpan, Sweep, Look, LookOn, Watch, WatchOn, WatchSweep, as_make, as_plain_run, as_resume, as_span, as_sweep, as_watch, as_watch_on, as_watch_sweep, asked_by, bound_of, cycles_of, epochs_of, file_behind, is_file, is_word, or_else, sample_of, span_of, with_number, with_state}

absent : (b : Bool) → (b ≡ true → ⊥) → b ≡ false
absent true h = absurd (h refl)
absent false h = refl

-- another word than this name
pub other : (name word : List ℕ) → (word ≡ name → ⊥) → is_word name word ≡ false
other name word h = absent (is_word name word) (λ e. h ((bytes_eq-Decides word name).0 e))

one_file : (form : List ℕ → Asked) (file : List ℕ) (b : Bool) → is_some (or_else (option_map form (if b then Some file else None)) None) ≡ b
one_file form file true = refl
one_file form file false = refl

one_number : (form : ℕ → Asked) (o : Option ℕ) → is_some (or_else (option_map form o) None) ≡ is_some o
one_number form (Some n) = refl
one_number form None = refl

pub run_pair : (file : List ℕ) → is_some (asked_by (codes "run" ∷ file ∷ [])) ≡ is_file file
unfolding asked_by with_number file_behind as_plain_run as_make as_resume with_state as_span as_sweep as_watch as_watch_on as_watch_sweep
run_pair file = one_file Run file (is_file file)

pub monitor_pair : (file : List ℕ) → is_some (asked_by (codes "monitor" ∷ file ∷ [])) ≡ is_file file
unfolding asked_by with_number file_behind as_plain_run as_make as_resume with_state as_span as_sweep as_watch as_watch_on as_watch_sweep
monitor_pair file = one_file Monitor file (is_file file)

pub sniff_pair : (file : List ℕ) → is_some (asked_by (codes "sniff" ∷ file ∷ [])) ≡ is_file file
unfolding asked_by with_number file_behind as_plain_run as_make as_resume with_state as_span as_sweep as_watch as_watch_on as_watch_sweep
sniff_pair file = one_file Sniff file (is_file file)

pub check_pair : (file : List ℕ) → is_some (asked_by (codes "check" ∷ file ∷ [])) ≡ is_file file
unfolding asked_by with_number file_behind as_plain_run as_make as_resume with_state as_span as_sweep as_watch as_watch_on as_watch_sweep
check_pair file = one_file Check file (is_file file)

pub disasm_pair : (file : List ℕ) → is_some (asked_by (codes "disasm" ∷ file ∷ [])) ≡ is_file file
unfolding asked_by with_number file_behind as_plain_run as_make as_resume with_state as_span as_sweep as_watch as_watch_on as_watch_sweep
disasm_pair file = one_file Disasm file (is_file file)

pub asm_pair : (file : List ℕ) → is_some (asked_by (codes "asm" ∷ file ∷ [])) ≡ is_file file
unfolding asked_by with_number file_behind as_plain_run as_make as_resume with_state as_span as_sweep as_watch as_watch_on as_watch_sweep
asm_pair file = one_file Asm file (is_file file)

pub make_pair : (number : List ℕ) → is_some (asked_by (codes "make" ∷ number ∷ [])) ≡ is_some (sample_of number)
unfolding asked_by with_number file_behind as_plain_run as_make as_resume with_state as_span as_sweep as_watch as_watch_on as_watch_sweep
make_pair number = one_number Make (sample_of number)

pub no_pair : (word file : List ℕ) → is_word (codes "run") word ≡ false → is_word (codes "monitor") word ≡ false → is_word (codes "sniff") word ≡ false
    → is_word (codes "check") word ≡ false → is_word (codes "disasm") word ≡ false
    → is_word (codes "asm") word ≡ false → is_word (codes "make") word ≡ false → is_some (asked_by (word ∷ file ∷ [])) ≡ false
unfolding asked_by with_number file_behind as_plain_run as_make as_resume with_state as_span as_sweep as_watch as_watch_on as_watch_sweep
no_pair word file run monitor sniff check disasm asm make = rw (run, monitor, sniff, check, disasm, asm, make) refl

number_test : (form : ℕ → Asked) (b : Bool) (o : Option ℕ) → is_some (or_else (if b then option_map form o else None) None) ≡ b && is_some o
number_test form true (Some n) = refl
number_test form true None = refl
number_test form false o = refl

pub node_triple : (file cycles : List ℕ) → is_some (asked_by (codes "node" ∷ file ∷ cycles ∷ [])) ≡ is_file file && is_some (cycles_of cycles)
unfolding asked_by with_number file_behind as_plain_run as_make as_resume with_state as_span as_sweep as_watch as_watch_on as_watch_sweep
node_triple file cycles = number_test (Node file) (is_file file) (cycles_of cycles)

pub head_triple : (file epochs : List ℕ) → is_some (asked_by (codes "head" ∷ file ∷ epochs ∷ [])) ≡ is_file file && is_some (epochs_of epochs)
unfolding asked_by with_number file_behind as_plain_run as_make as_resume with_state as_span as_sweep as_watch as_watch_on as_watch_sweep
head_triple file epochs = number_test (Head file) (is_file file) (epochs_of epochs)

pub save_triple : (file epochs : List ℕ) → is_some (asked_by (codes "save" ∷ file ∷ epochs ∷ [])) ≡ is_file file && is_some (epochs_of epochs)
unfolding asked_by with_number file_behind as_plain_run as_make as_resume with_state as_span as_sweep as_watch as_watch_on as_watch_sweep
save_triple file epochs = number_test (Save file) (is_file file) (epochs_of epochs)

pub look_triple : (file cycle : List ℕ) → is_some (asked_by (codes "look" ∷ file ∷ cycle ∷ [])) ≡ is_file file && is_some (bound_of cycle)
unfolding asked_by with_number file_behind as_plain_run as_make as_resume with_state as_span as_sweep as_watch as_watch_on as_watch_sweep
look_triple file cycle = number_test (Look file) (is_file file) (bound_of cycle)

some_if : (asked : Asked) (b : Bool) → is_some (or_else (if b then Some asked else None) None) ≡ b
some_if asked true = refl
some_if asked false = refl

pub resume_triple : (file state : List ℕ) → is_some (asked_by (codes "resume" ∷ file ∷ state ∷ [])) ≡ is_file file && is_file state
unfolding asked_by with_number file_behind as_plain_run as_make as_resume with_state as_span as_sweep as_watch as_watch_on as_watch_sweep
resume_triple file state = some_if (Resume file state) (is_file file && is_file state)

run_test : (file : List ℕ) (b : Bool) → is_some (or_else (if b then Some (RunPlain file) else None) None) ≡ b
run_test file true = refl
run_test file false = refl

pub run_triple : (option file : List ℕ) → is_some (asked_by (codes "run" ∷ option ∷ file ∷ [])) ≡ is_word (codes "--plain") option && is_file file
unfolding asked_by with_number file_behind as_plain_run as_make as_resume with_state as_span as_sweep as_watch as_watch_on as_watch_sweep
run_triple option file = run_test file (is_word (codes "--plain") option && is_file file)

pub no_triple : (word first second : List ℕ) → is_word (codes "node") word ≡ false → is_word (codes "run") word ≡ false
    → is_word (codes "head") word ≡ false → is_word (codes "save") word ≡ false → is_word (codes "resume") word ≡ false → is_word (codes "look") word ≡ false
    → is_some (asked_by (word ∷ first ∷ second ∷ [])) ≡ false
unfolding asked_by with_number file_behind as_plain_run as_make as_resume with_state as_span as_sweep as_watch as_watch_on as_watch_sweep
no_triple word first second node run head save resume look = rw (node, run, head, save, resume, look) refl

pub too_few : {A : Type 0} (text : A → List ℕ) (words : List A) → length words < 2 → is_some (asked_by (map text words)) ≡ false
unfolding asked_by with_number file_behind as_plain_run as_make as_resume with_state as_span as_sweep as_watch as_watch_on as_watch_sweep
too_few text [] h = refl
too_few text (a ∷ []) h = refl
too_few text (a ∷ b ∷ more) h = absurd (omega (h, arith))

number_on_test : (file state : List ℕ) (form : List ℕ → ℕ → List ℕ → Asked) (b : Bool) (o : Option ℕ) → is_some (or_else (if b then option_map (λ n. form file n state) o else None) None) ≡ b && is_some o
number_on_test file state form true (Some n) = refl
number_on_test file state form true None = refl
number_on_test file state form false o = refl

pub head_on : (file epochs state : List ℕ) → is_some (asked_by (codes "head" ∷ file ∷ epochs ∷ state ∷ [])) ≡ is_file file && is_file state && is_some (epochs_of epochs)
unfolding asked_by with_number file_behind as_plain_run as_make as_resume with_state as_span as_sweep as_watch as_watch_on as_watch_sweep
head_on file epochs state = number_on_test file state HeadOn (is_file file && is_file state) (epochs_of epochs)

pub save_on : (file epochs state : List ℕ) → is_some (asked_by (codes "save" ∷ file ∷ epochs ∷ state ∷ [])) ≡ is_file file && is_file state && is_some (epochs_of epochs)
unfolding asked_by with_number file_behind as_plain_run as_make as_resume with_state as_span as_sweep as_watch as_watch_on as_watch_sweep
save_on file epochs state = number_on_test file state SaveOn (is_file file && is_file state) (epochs_of epochs)

pub look_on : (file cycle state : List ℕ) → is_some (asked_by (codes "look" ∷ file ∷ cycle ∷ state ∷ [])) ≡ is_file file && is_file state && is_some (bound_of cycle)
unfolding asked_by with_number file_behind as_plain_run as_make as_resume with_state as_span as_sweep as_watch as_watch_on as_watch_sweep
look_on file cycle state = number_on_test file state LookOn (is_file file && is_file state) (bound_of cycle)

span_test : (file : List ℕ) (b : Bool) (o : Option (ℕ × ℕ)) → is_some (or_else (if b then option_map (λ p. MonitorSpan file p.0 p.1) o else None) None) ≡ b && is_some o
span_test file true (Some p) = refl
span_test file true None = refl
span_test file false o = refl

pub monitor_span : (file from to : List ℕ) → is_some (asked_by (codes "monitor" ∷ file ∷ from ∷ to ∷ [])) ≡ is_file file && is_some (span_of from to)
unfolding asked_by with_number file_behind as_plain_run as_make as_resume with_state as_span as_sweep as_watch as_watch_on as_watch_sweep
monitor_span file from to = span_test file (is_file file) (span_of from to)

pub sweep_files : (file state moves : List ℕ) → is_some (asked_by (codes "sweep" ∷ file ∷ state ∷ moves ∷ [])) ≡ is_file file && is_file state && is_file moves
unfolding asked_by with_number file_behind as_plain_run as_make as_resume with_state as_span as_sweep as_watch as_watch_on as_watch_sweep
sweep_files file state moves = some_if (Sweep file state moves) (is_file file && is_file state && is_file moves)

pub no_quadruple : (word first second third : List ℕ) → is_word (codes "head") word ≡ false → is_word (codes "save") word ≡ false → is_word (codes "monitor") word ≡ false → is_word (codes "sweep") word ≡ false
    → is_word (codes "look") word ≡ false → is_some (asked_by (word ∷ first ∷ second ∷ third ∷ [])) ≡ false
unfolding asked_by with_number file_behind as_plain_run as_make as_resume with_state as_span as_sweep as_watch as_watch_on as_watch_sweep
no_quadruple word first second third head save monitor sweep look = rw (head, save, monitor, sweep, look) refl

watch_test : (form : ℕ × ℕ → Asked) (b : Bool) (o : Option (ℕ × ℕ)) → is_some (or_else (if b then option_map form o else None) None) ≡ b && is_some o
watch_test form true (Some p) = refl
watch_test form true None = refl
watch_test form false o = refl

last_test : (form : ℕ × ℕ → Asked) (b : Bool) (o : Option (ℕ × ℕ)) → is_some (if b then option_map form o else None) ≡ b && is_some o
last_test form true (Some p) = refl
last_test form true None = refl
last_test form false o = refl

pub watch_reset : (command file from to places : List ℕ) → is_some (asked_by (command ∷ file ∷ from ∷ to ∷ places ∷ []))
    ≡ is_word (codes "watch") command && is_file file && is_file places && is_some (span_of from to)
unfolding asked_by with_number file_behind as_plain_run as_make as_resume with_state as_span as_sweep as_watch as_watch_on as_watch_sweep
watch_reset command file from to places =
    watch_test (λ span. Watch file span.0 span.1 places) (is_word (codes "watch") command && is_file file && is_file places) (span_of from to)

pub watch_state : (command file from to places state : List ℕ) → is_some (asked_by (command ∷ file ∷ from ∷ to ∷ places ∷ state ∷ []))
    ≡ is_word (codes "watch") command && is_file file && is_file places && is_file state && is_some (span_of from to)
unfolding asked_by with_number file_behind as_plain_run as_make as_resume with_state as_span as_sweep as_watch as_watch_on as_watch_sweep
watch_state command file from to places state =
    watch_test (λ span. WatchOn file span.0 span.1 places state) (is_word (codes "watch") command && is_file file && is_file places && is_file state) (span_of from to)

pub watch_moves : (command file from to places state moves : List ℕ) → is_some (asked_by (command ∷ file ∷ from ∷ to ∷ places ∷ state ∷ moves ∷ []))
    ≡ is_word (codes "watch") command && is_file file && is_file places && is_file state && is_file moves && is_some (span_of from to)
unfolding asked_by with_number file_behind as_plain_run as_make as_resume with_state as_span as_sweep as_watch as_watch_on as_watch_sweep
watch_moves command file from to places state moves =
    last_test (λ span. WatchSweep file span.0 span.1 places state moves)
    (is_word (codes "watch") command && is_file file && is_file places && is_file state && is_file moves) (span_of from to)

pub too_many : {A : Type 0} (text : A → List ℕ) (words : List A) → 8 ≤ length words → is_some (asked_by (map text words)) ≡ false
unfolding asked_by with_number file_behind as_plain_run as_make as_resume with_state as_span as_sweep as_watch as_watch_on as_watch_sweep
too_many text [] h = absurd (omega (h, arith))
too_many text (a ∷ []) h = absurd (omega (h, arith))
too_many text (a ∷ b ∷ []) h = absurd (omega (h, arith))
too_many text (a ∷ b ∷ c ∷ []) h = absurd (omega (h, arith))
too_many text (a ∷ b ∷ c ∷ d ∷ []) h = absurd (omega (h, arith))
too_many text (a ∷ b ∷ c ∷ d ∷ e ∷ []) h = absurd (omega (h, arith))
too_many text (a ∷ b ∷ c ∷ d ∷ e ∷ f ∷ []) h = absurd (omega (h, arith))
too_many text (a ∷ b ∷ c ∷ d ∷ e ∷ f ∷ g ∷ []) h = absurd (omega (h, arith))
too_many text (a ∷ b ∷ c ∷ d ∷ e ∷ f ∷ g ∷ i ∷ more) h = refl
