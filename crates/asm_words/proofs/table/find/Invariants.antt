use Rattle.std.proofs.Common.{◌≡◌, drop, map}
use Rattle.asm_words.specs.Table.{found}
use Rattle.asm_words.proofs.Tables.{row_of}
use Rattle.asm_words.proofs.table.find.Given as goal

abbrev pub invariant-loop-word : goal.invariant-loop-word
invariant-loop-word g l = found l.name (map row_of l.table) ≡ found l.name (map row_of (drop l.word-index l.table))
