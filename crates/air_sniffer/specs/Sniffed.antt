-- What a sniffer knows while more sends may come. Own to this simulator.
use Rattle.std.specs.Prelude.{◌≡◌, ℕ, zero, suc, ◌-◌, if◌then◌else◌, List, [], ◌∷◌, ◌++◌}
use Rattle.air_base.specs.declared.air.Send.{Send}
use Rattle.world_core.specs.Sends.{sends_of}
use Rattle.air_sniffer.specs.declared.frame.Frame.{Frame}
use Rattle.air_sniffer.specs.Head.{is_open}
use Rattle.air_sniffer.specs.Frames.{begun, passed, frames}

-- the frames that are certain whatever comes, behind the first k sends: those up to the first place from which more
-- sends could make a frame
unfoldable pub sure_behind : ℕ → List Send → List Frame
sure_behind k [] = []
sure_behind (suc k) (x ∷ l) = sure_behind k l
sure_behind zero (x ∷ l) = if is_open (x ∷ l) then [] else begun (x ∷ l) ++ sure_behind (passed (x ∷ l) - 1) l

abbrev pub sure : List Send → List Frame
sure = sure_behind 0

-- the sends from that place on
unfoldable pub open_behind : ℕ → List Send → List Send
open_behind k [] = []
open_behind (suc k) (x ∷ l) = open_behind k l
open_behind zero (x ∷ l) = if is_open (x ∷ l) then x ∷ l else open_behind (passed (x ∷ l) - 1) l

abbrev pub open_part : List Send → List Send
open_part = open_behind 0

-- what a sniffer holds: the node whose sends it takes, and those that may still become a frame
pub record SnifferFacts : Type 0 where
  pub node : ℕ
  pub held : List Send

abbrev pub sniffer_of : ℕ → List Send → SnifferFacts
sniffer_of node held = record { node = node; held = held }

-- the sends that it holds, and behind them its node's sends of a piece
abbrev pub line_of : SnifferFacts → List Send → List Send
line_of s piece = s.held ++ sends_of s.node piece

-- the sniffer to which a piece was fed, which gave the sure frames of that line
abbrev pub fed : SnifferFacts → List Send → SnifferFacts
fed s piece = sniffer_of s.node (open_part (line_of s piece))

-- These sends were fed to the sniffer, in whatever pieces, and these are the frames that it gave.
pub record IsFed (s : SnifferFacts) (all : List Send) (gave : List Frame) : Type 0 where
  pub frames : gave ≡ sure (sends_of s.node all)
  pub held : s.held ≡ open_part (sends_of s.node all)

-- the frames that a sniffer gives to which these pieces are fed, one after another, with those that it gives at the end
unfoldable pub sniffed : SnifferFacts → List (List Send) → List Frame
sniffed s [] = frames s.held
sniffed s (piece ∷ rest) = sure (line_of s piece) ++ sniffed (fed s piece) rest

-- the pieces, joined
unfoldable pub joined : List (List Send) → List Send
joined [] = []
joined (piece ∷ rest) = piece ++ joined rest
