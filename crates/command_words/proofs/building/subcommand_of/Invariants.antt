use Rattle.std.proofs.Common.{◌≡◌, ◌≤◌, length, map, take}
use Rattle.std.specs.Vec.{vec_capacity, vec_len}
use Rattle.command_words.proofs.Tables.{seen, word_seen}
use Rattle.command_words.proofs.building.subcommand_of.Given as goal

abbrev pub invariant-loop-word : goal.invariant-loop-word
invariant-loop-word l = record {
  given : map seen l.args.items ≡ map word_seen (take l.word-index l.form.words.now);
  count : vec_len l.args ≡ l.word-index;
  room : length l.form.words.now ≤ vec_capacity l.args;
}
