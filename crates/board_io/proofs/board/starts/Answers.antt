use Rattle.std.proofs.Common.{List, ℕ, ap, ◌∙◌}
use Rattle.std.specs.Prelude.{slice_set}
use Rattle.board_io.specs.Names.{TWAR, TWDR, TWSR, UCSR1A, UCSR1C}
use Rattle.board_io.proofs.Agree.{starts_are}
use Rattle.board_io.proofs.board.starts.Goals as goal

pub returns : goal.returns
returns c =
    let first = c.with_byte-kept.ensures in
    let second = c.with_byte-kept-2.ensures ∙ ap (λ (l : List ℕ). slice_set l TWSR 0xF8) first in
    let third = c.with_byte-kept-3.ensures ∙ ap (λ (l : List ℕ). slice_set l TWAR 0xFE) second in
    let fourth = c.with_byte-kept-4.ensures ∙ ap (λ (l : List ℕ). slice_set l TWDR 0xFF) third in
    let fifth = c.with_byte-kept-5.ensures ∙ ap (λ (l : List ℕ). slice_set l UCSR1A 0x20) fourth in
    c.with_byte.ensures ∙ (ap (λ (l : List ℕ). slice_set l UCSR1C 0x06) fifth ∙ starts_are)
