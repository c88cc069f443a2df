-- What `disasm` writes: the listing of an image.
use Rattle.std.specs.Prelude.{ℕ, ◌+◌, ◌/◌, List}
use Rattle.ihex_loader.specs.Flash.{Image, word_at}
use Rattle.avr_disassembler.specs.Listing.{listing_of}

-- the words of which the image gave a byte, or a later one
abbrev pub words_used : Image → ℕ
words_used image = (image.used + 1) / 2

abbrev pub listing : Image → List ℕ
listing image = listing_of (word_at image.bytes) (words_used image)
