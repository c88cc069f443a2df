-- Where the words of a network of n nodes lie in the table. Own to this simulator. A line of the processor's cache has
-- eight words of the table. Only the first word of each line is used, so that no two words share a line.
use Rattle.std.specs.Prelude.{ℕ, ◌+◌, ◌*◌, ◌/◌}

-- the first word of line i, and the line of a word
abbrev pub word_at : ℕ → ℕ
word_at i = 8 * i

abbrev pub line_of : ℕ → ℕ
line_of word = word / 8

-- the clock of node k, the number of its posted sends, the least cycle that somebody wants its clock to pass, and the
-- halt
abbrev pub clock_at : ℕ → ℕ
clock_at k = word_at k

abbrev pub sent_at : ℕ → ℕ → ℕ
sent_at n k = word_at (n + k)

abbrev pub want_at : ℕ → ℕ → ℕ
want_at n k = word_at (n + n + k)

abbrev pub halt_at : ℕ → ℕ
halt_at n = word_at (n + n + n)

-- all words, used or not
abbrev pub word_count : ℕ → ℕ
word_count n = word_at (n + n + n + 1)
