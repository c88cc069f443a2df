-- Labels, each by the place where it stands first.
use Rattle.std.specs.Prelude.{ℕ, List, Option, Some, None}
use Rattle.std.specs.BTreeMap as tree
use Rattle.std.specs.BTreeMap.{BTreeMap}
use Rattle.std.specs.Cmp.Lexicographic.{slice_cmp}
use Rattle.std.specs.Ordering.{nat_cmp}
use Rattle.asm_words.specs.declared.labels.Label.{Label}
use denote.Ref.{Bor}

-- the label of a name in the code's map
abbrev pub label_at : BTreeMap (Bor (List ℕ)) Label → List ℕ → Option Label
label_at m name = tree.get_by (λ k. slice_cmp nat_cmp name k.now) m

-- what is known first is kept
abbrev pub kept : Option Label → Label → Option Label
kept None x = Some x
kept (Some y) x = Some y
