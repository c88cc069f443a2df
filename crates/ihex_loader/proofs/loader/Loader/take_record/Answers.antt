use Rattle.std.proofs.Common.{◌≡◌, ◌≢◌, ◌*◌, refl, ap, sym, ◌∙◌, arith}
use Rattle.ihex_loader.specs.Line.{kind_of, offset_of, data_of, data_word}
use Rattle.ihex_loader.proofs.Good.{other_good, no_base, ≢-eqb-false}
use Rattle.ihex_loader.proofs.loader.Loader.take_record.Goals as goal

pub returns-in-1-clause-good : goal.returns-in-1-clause-good
returns-in-1-clause-good c = λ before s.
    let b = c.args.parsed.now.bytes.items in
    let kind : kind_of b ≡ 1 = sym c.kind.ensures ∙ c.in-1.is in
    rw kind (other_good before _ _ _ _ 1 (offset_of b) (data_of b) _ _ s c.requires (λ e. absurd (omega arith)) refl refl)

pub returns-in-2-clause-good : goal.returns-in-2-clause-good
returns-in-2-clause-good c = λ before s.
    let b = c.args.parsed.now.bytes.items in
    let kind : kind_of b ≡ 2 = sym c.kind.ensures ∙ c.in-2.is in
    let value = c.from.ensures ∙ (c.word_of.ensures ∙ ap data_word c.data-in-2.ensures) in
    rw kind (other_good before _ _ _ _ 2 (offset_of b) (data_of b) _ _ s c.requires (λ e. absurd (omega arith)) (ap (λ n. 16 * n) value) c.requires)

pub returns-in-4-clause-good : goal.returns-in-4-clause-good
returns-in-4-clause-good c = λ before s.
    let b = c.args.parsed.now.bytes.items in
    let kind : kind_of b ≡ 4 = sym c.kind.ensures ∙ c.in-4.is in
    let value = c.from-in-4.ensures ∙ (c.word_of-in-4.ensures ∙ ap data_word c.data-in-4.ensures) in
    rw kind (other_good before _ _ _ _ 4 (offset_of b) (data_of b) _ _ s c.requires (λ e. absurd (omega arith)) (ap (λ n. 65536 * n) value) c.requires)

pub returns-in_default-clause-good : goal.returns-in_default-clause-good
returns-in_default-clause-good c = λ before s.
    let b = c.args.parsed.now.bytes.items in
    let k = kind_of b in
    let is = c.kind.ensures in
    let not0 : k ≢ 0 = omega arith in
    let not1 : k ≢ 1 = omega arith in
    let not2 : k ≢ 2 = omega arith in
    let not4 : k ≢ 4 = omega arith in
    other_good before _ _ _ _ k (offset_of b) (data_of b) _ _ s c.requires (λ e. absurd (not0 e))
    (no_base k _ _ _ not2 not4) (c.requires ∙ sym (≢-eqb-false k 1 not1))
