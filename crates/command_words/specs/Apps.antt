-- The command that `clap` splits the words by: a subcommand for each word that a form begins with.
use Rattle.std.specs.Prelude.{◌≡◌, IfOk, Result, false, true, codes, Some}
use Rattle.std.specs.declared.alloc.AllocError.{AllocError}
use Rattle.clap.specs.Words.{App, Rule, Text, app_of, new_app, new_rule, with_rule, with_subcommand}
use Rattle.clap.specs.declared.builder.command.Command.{Command}
use Rattle.clap.specs.declared.Command.TheViews.{out-Command}
use Rattle.clap.specs.declared.builder.ArgAction.TheVariants.{SetTrue}

-- a word that is required at its place
abbrev pub required : Text → Rule
required id = record (new_rule id) { required = true }

-- a word that may stand at its place
abbrev pub optional : Text → Rule
optional id = new_rule id

-- `--plain`
abbrev pub plain_flag : Rule
plain_flag = record (new_rule (codes "plain")) { long = Some (codes "plain"); action = Some SetTrue }

-- a subcommand with a file and another word
abbrev pub two_words_app : Text → Text → App
two_words_app name id = with_rule (with_rule (new_app name) (required (codes "file"))) (required id)

abbrev pub node_app : App
node_app = two_words_app (codes "node") (codes "cycles")

abbrev pub run_app : App
run_app = with_rule (with_rule (new_app (codes "run")) plain_flag) (required (codes "file"))

-- a subcommand with one word
abbrev pub one_word_app : Text → Text → App
one_word_app name id = with_rule (new_app name) (required id)

-- a subcommand that cuts a run: a file, a number, and maybe the file of a state
abbrev pub cut_app : Text → Text → App
cut_app name id = with_rule (two_words_app name id) (optional (codes "state"))

-- a file, and maybe two cycles
abbrev pub monitor_app : App
monitor_app = with_rule (with_rule (one_word_app (codes "monitor") (codes "file")) (optional (codes "from"))) (optional (codes "to"))

-- three files
abbrev pub sweep_app : App
sweep_app = with_rule (two_words_app (codes "sweep") (codes "state")) (required (codes "moves"))

-- a file, two cycles, a file, and maybe one or two more
abbrev pub watch_app : App
watch_app =
    with_rule (with_rule (with_rule (with_rule (two_words_app (codes "watch") (codes "from")) (required (codes "to"))) (required (codes "places")))
    (optional (codes "state"))) (optional (codes "moves"))

-- the words begin behind the program's name
abbrev pub without_first : App → App
without_first a = record a { top = record a.top { no_binary_name = true } }

-- the subcommands that simulate
abbrev pub simulating : App → App
simulating app = with_subcommand (with_subcommand (with_subcommand app node_app.top) run_app.top) (one_word_app (codes "make") (codes "number")).top

-- those that watch what they simulate
abbrev pub watching : App → App
watching app =
    with_subcommand (with_subcommand (with_subcommand app monitor_app.top) (one_word_app (codes "sniff") (codes "file")).top)
    (cut_app (codes "look") (codes "cycle")).top

-- those that simulate nothing
abbrev pub reading : App → App
reading app =
    with_subcommand (with_subcommand (with_subcommand app (one_word_app (codes "check") (codes "file")).top) (one_word_app (codes "disasm") (codes "file")).top)
    (one_word_app (codes "asm") (codes "file")).top

-- and those that cut a run, or go on with one
abbrev pub cutting : App → App
cutting app =
    with_subcommand (with_subcommand (with_subcommand (with_subcommand app (cut_app (codes "head") (codes "epochs")).top) (cut_app (codes "save") (codes "epochs")).top)
    (two_words_app (codes "resume") (codes "state")).top) sweep_app.top

-- and the one that watches places
abbrev pub placing : App → App
placing app = with_subcommand app watch_app.top

abbrev pub the_app : App
the_app = placing (cutting (reading (watching (simulating (without_first (new_app (codes "avrora")))))))

-- where a subcommand could be made, it is this one, and none of its words is global
abbrev pub MakesLeaf : App → Result Command AllocError → Type 0
MakesLeaf app made = IfOk made (λ c. (app_of c ≡ app) × ((out-Command c).has_globals ≡ false))
