use Rattle.std.proofs.Common.{◌≡◌, ◌≤◌, length, map, take}
use Rattle.std.specs.Vec.{vec_capacity, vec_len}
use Rattle.command_words.proofs.Tables.{met, form_met}
use Rattle.command_words.proofs.building.parser.Given as goal

abbrev pub invariant-loop-form : goal.invariant-loop-form
invariant-loop-form l = record {
  given : map met l.subcommands.items ≡ map form_met (take l.form-index l.form-items);
  count : vec_len l.subcommands ≡ l.form-index;
  room : length l.form-items ≤ vec_capacity l.subcommands;
}
