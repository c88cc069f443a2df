-- How a list of sends begins. A frame is the bytes AA, AA, 7E, n, and then n bytes, where n is from 1 to
-- `MOST_PAYLOAD`.
use Rattle.std.specs.Prelude.{ℕ, ◌+◌, Bool, ◌&&◌, ◌||◌, not, nat_le, nat_lt, List, length, slice_index_or}
use Rattle.air_base.specs.declared.air.Send.{Send}
use Rattle.air_sniffer.specs.declared.frame.TheConstants.{MOST_PAYLOAD}

abbrev pub no_send : Send
no_send = record { node = 0; cycle = 0; byte = 0 }

-- the send at this place, counted from 0
abbrev pub send_at : List Send → ℕ → Send
send_at l k = slice_index_or l k no_send

-- the byte at this place, if there is one, is from `least` to `most`
abbrev pub fits : List Send → ℕ → ℕ → ℕ → Bool
fits l k least most = nat_le (length l) k || (nat_le least (send_at l k).byte && nat_le (send_at l k).byte most)

-- the list begins as a frame does, as far as it goes
unfoldable pub head_fits : List Send → Bool
head_fits l = fits l 0 0xAA 0xAA && fits l 1 0xAA 0xAA && fits l 2 0x7E 0x7E && fits l 3 1 MOST_PAYLOAD

-- the frame whose head begins the list has all of its bytes there
unfoldable pub is_whole : List Send → Bool
is_whole l = nat_lt 3 (length l) && nat_le (4 + (send_at l 3).byte) (length l)

-- a frame's bytes begin the list
abbrev pub begins_frame : List Send → Bool
begins_frame l = head_fits l && is_whole l

-- they do not, and more sends could make them
abbrev pub is_open : List Send → Bool
is_open l = head_fits l && not (is_whole l)
