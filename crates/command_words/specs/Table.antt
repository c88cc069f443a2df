-- The commands of the table that the code builds them from.
use Rattle.std.specs.Prelude.{List, [], ◌∷◌, Some}
use Rattle.clap.specs.Words.{App, Rule, new_app, new_rule, with_rule}
use Rattle.clap.specs.declared.builder.ArgAction.TheVariants.{SetTrue}
use Rattle.command_words.specs.Apps.{optional, required}
use Rattle.command_words.specs.declared.building.Word.{Word}
use Rattle.command_words.specs.declared.building.Word.TheVariants as word
use Rattle.command_words.specs.declared.building.Form.{Form}

-- what `clap` knows of a word
abbrev pub rule_in : Word → Rule
rule_in (word.Flag id) = record (new_rule id.now) { long = Some id.now; action = Some SetTrue }
rule_in (word.Required id) = required id.now
rule_in (word.Optional id) = optional id.now

abbrev pub with_words : App → List Word → App
with_words app [] = app
with_words app (w ∷ ws) = with_words (with_rule app (rule_in w)) ws

abbrev pub form_app : Form → App
form_app form = with_words (new_app form.name.now) form.words.now
