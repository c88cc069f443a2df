-- What the words that were split ask for.
use Rattle.std.specs.Prelude.{ℕ, List, [], codes, Option, Some, None, option_map, if◌then◌else◌}
use Rattle.std.specs.Option.{option_map_or}
use Rattle.std.specs.Str.{bytes_eq}
use Rattle.clap.specs.Words.{Row, Text, first_of}
use Rattle.command_words.specs.Words.{Asked, Node, Run, RunPlain, Monitor, Sniff, Check, Disasm, Asm, Make, Head, Save, Resume, HeadOn, SaveOn, MonitorSpan, Sweep, Look, LookOn, Watch, WatchOn, WatchSweep, bound_of, cycles_of, epochs_of, sample_of, span_of}

-- the word of this name, or no text
abbrev pub text_in : Text → List Row → Text
text_in id rows = option_map_or (λ t. t) (first_of id rows) []

abbrev pub run_in : List Row → Asked
run_in rows =
    if bytes_eq (text_in (codes "plain") rows) (codes "true") then RunPlain (text_in (codes "file") rows)
    else Run (text_in (codes "file") rows)

abbrev pub make_in : List Row → Option Asked
make_in rows = option_map Make (sample_of (text_in (codes "number") rows))

abbrev pub node_in : List Row → Option Asked
node_in rows = option_map (Node (text_in (codes "file") rows)) (cycles_of (text_in (codes "cycles") rows))

-- with the file of a state from that state on, without one from reset on
abbrev pub from_in : (List ℕ → ℕ → Asked) → (List ℕ → ℕ → List ℕ → Asked) → List ℕ → Option Text → ℕ → Asked
from_in reset onward file None number = reset file number
from_in reset onward file (Some state) number = onward file number state

abbrev pub head_in : List Row → Option Asked
head_in rows =
    option_map (from_in Head HeadOn (text_in (codes "file") rows) (first_of (codes "state") rows)) (epochs_of (text_in (codes "epochs") rows))

abbrev pub save_in : List Row → Option Asked
save_in rows =
    option_map (from_in Save SaveOn (text_in (codes "file") rows) (first_of (codes "state") rows)) (epochs_of (text_in (codes "epochs") rows))

abbrev pub look_in : List Row → Option Asked
look_in rows =
    option_map (from_in Look LookOn (text_in (codes "file") rows) (first_of (codes "state") rows)) (bound_of (text_in (codes "cycle") rows))

-- over a span of cycles where one is given
abbrev pub within_in : List ℕ → Option Text → Text → Option Asked
within_in file None to = Some (Monitor file)
within_in file (Some from) to = option_map (λ span. MonitorSpan file span.0 span.1) (span_of from to)

abbrev pub monitor_in : List Row → Option Asked
monitor_in rows = within_in (text_in (codes "file") rows) (first_of (codes "from") rows) (text_in (codes "to") rows)

-- from reset, from a state where one is given, and over moves where they are
abbrev pub watched_in : List ℕ → List ℕ → Option Text → Option Text → ℕ × ℕ → Asked
watched_in file places None moves span = Watch file span.0 span.1 places
watched_in file places (Some state) None span = WatchOn file span.0 span.1 places state
watched_in file places (Some state) (Some moves) span = WatchSweep file span.0 span.1 places state moves

abbrev pub watch_in : List Row → Option Asked
watch_in rows =
    option_map (watched_in (text_in (codes "file") rows) (text_in (codes "places") rows) (first_of (codes "state") rows) (first_of (codes "moves") rows))
    (span_of (text_in (codes "from") rows) (text_in (codes "to") rows))

-- what a subcommand that cuts a run, or goes on with one, asks for with these words
unfoldable pub cut_in : Text → List Row → Option Asked
cut_in name rows =
    if bytes_eq name (codes "head") then head_in rows
    else if bytes_eq name (codes "save") then save_in rows
    else if bytes_eq name (codes "resume") then Some (Resume (text_in (codes "file") rows) (text_in (codes "state") rows))
    else if bytes_eq name (codes "sweep") then Some (Sweep (text_in (codes "file") rows) (text_in (codes "state") rows) (text_in (codes "moves") rows))
    else None

-- what a subcommand that simulates nothing asks for with these words, or one of those that cut a run
unfoldable pub read_in : Text → List Row → Option Asked
read_in name rows =
    if bytes_eq name (codes "check") then Some (Check (text_in (codes "file") rows))
    else if bytes_eq name (codes "disasm") then Some (Disasm (text_in (codes "file") rows))
    else if bytes_eq name (codes "asm") then Some (Asm (text_in (codes "file") rows))
    else cut_in name rows

-- what a subcommand that looks into a run asks for with these words, or one of those that simulate nothing
unfoldable pub seeing_in : Text → List Row → Option Asked
seeing_in name rows =
    if bytes_eq name (codes "monitor") then monitor_in rows
    else if bytes_eq name (codes "sniff") then Some (Sniff (text_in (codes "file") rows))
    else if bytes_eq name (codes "look") then look_in rows
    else if bytes_eq name (codes "watch") then watch_in rows
    else read_in name rows

-- what any subcommand asks for with these words
unfoldable pub asked_in : Text → List Row → Option Asked
asked_in name rows =
    if bytes_eq name (codes "run") then Some (run_in rows)
    else if bytes_eq name (codes "make") then make_in rows
    else if bytes_eq name (codes "node") then node_in rows
    else seeing_in name rows

unfoldable pub asked_of : Option (Text × List Row) → Option Asked
asked_of None = None
asked_of (Some p) = asked_in p.0 p.1
