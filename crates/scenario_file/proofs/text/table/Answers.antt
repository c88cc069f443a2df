use Rattle.std.proofs.Common.{refl, inl, inr, rules}
use Rattle.std.specs.Str.{is_utf8}
use Rattle.std.proofs.lemmas.Str.{IsUtf8-from_is_utf8, is_utf8-from_IsUtf8}
use Rattle.std.proofs.lemmas.Bool.{cases_Bool}
use Rattle.scenario_file.specs.Faults.{document_of}
use Rattle.scenario_file.proofs.text.table.Goals as goal

pub returns-in-Ok-clause-ok : goal.returns-in-Ok-clause-ok
unfolding document_of
returns-in-Ok-clause-ok c = rw (is_utf8-from_IsUtf8 _ c.in-Ok.ensures.ok.0) c.in-Ok.ensures.ok.1

pub returns-else-is_memory-clause-err : goal.returns-else-is_memory-clause-err
unfolding document_of
returns-else-is_memory-clause-err c = elim (cases_Bool (is_utf8 c.args.bytes.now)) [
  | inl well ↦ inr (refl, rw well (search (rules, c.in-Err.ensures.refused (search rules) (IsUtf8-from_is_utf8 _ well))))
  | inr bad ↦ inr (refl, rw bad refl)
]
