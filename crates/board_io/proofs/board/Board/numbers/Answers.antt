use Rattle.std.proofs.Common.{◌∙◌, ap, ◌++◌, take}
use Rattle.board_io.proofs.OneBoard.{seven_put}
use Rattle.board_io.proofs.board.Board.numbers.Goals as goal

pub returns : goal.returns
returns c =
    let len = c.put_part-7.ensures.len ∙ c.put_part-6.ensures.len ∙ c.put_part-5.ensures.len ∙ c.put_part-4.ensures.len ∙ c.put_part-3.ensures.len ∙ c.put_part-2.ensures.len ∙ c.put_part.ensures.len in
    seven_put _ _ _ _ _ _ _ c.put_part.new.all c.put_part-2.new.all c.put_part-3.new.all c.put_part-4.new.all c.put_part-5.new.all c.put_part-6.new.all c.put_part-7.new.all
    (c.put_part.ensures.part ∙ c.numbers.ensures.value)
    (c.put_part-2.ensures.part ∙ ap (λ xs. take 6 c.put_part.new.all ++ xs) c.numbers-2.ensures.value)
    (c.put_part-3.ensures.part ∙ ap (λ xs. take 12 c.put_part-2.new.all ++ xs) c.numbers-3.ensures.value)
    (c.put_part-4.ensures.part ∙ ap (λ xs. take 25 c.put_part-3.new.all ++ xs) c.numbers-4.ensures.value)
    (c.put_part-5.ensures.part ∙ ap (λ xs. take 38 c.put_part-4.new.all ++ xs) c.numbers-5.ensures)
    (c.put_part-6.ensures.part ∙ ap (λ xs. take 52 c.put_part-5.new.all ++ xs) c.numbers-6.ensures)
    (c.put_part-7.ensures.part ∙ ap (λ xs. take 62 c.put_part-6.new.all ++ xs) c.numbers-7.ensures)
    len
