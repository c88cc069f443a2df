use Rattle.std.proofs.Common.{◌≡◌, ◌*◌, ℕ, List, length, ap, ◌∙◌, arith}
use Rattle.ihex_loader.specs.Flash.{padded, word_at}
use Rattle.ihex_loader.proofs.Words.{words_read_back}
use Rattle.ihex_loader.proofs.flash.flash_of.Goals as goal

pub returns-clause-words : goal.returns-clause-words
returns-clause-words c = λ pc lt.
    ap (λ (bytes : List ℕ). word_at bytes pc) (c.in_ok-padded_to.ensures.bytes ∙ ap (padded 131072) c.in_ok-bytes.ensures.bytes)
    ∙ words_read_back 131072 c.args.words.now pc lt

pub returns-clause-image : goal.returns-clause-image
returns-clause-image c =
    let len = c.len.ensures in
    let two = c.in_ok-bytes.ensures.len in
    let used : c.len.result ≡ 2 * length c.args.words.now = omega (arith, len, two) in
    λ i. record { bytes = (c.in_ok-padded_to.ensures.bytes ∙ ap (padded 131072) c.in_ok-bytes.ensures.bytes) i; used = used i }
