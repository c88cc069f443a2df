-- The frames of a list of sends.
use Rattle.std.specs.Prelude.{ℕ, zero, suc, ◌+◌, ◌-◌, if◌then◌else◌, List, [], ◌∷◌, ◌++◌, map, take, drop}
use Rattle.air_base.specs.declared.air.Send.{Send}
use Rattle.air_sniffer.specs.declared.frame.Frame.{Frame}
use Rattle.air_sniffer.specs.Head.{send_at, begins_frame}

-- the frame whose bytes begin the list
unfoldable pub frame_of : List Send → Frame
frame_of l = record { node = (send_at l 0).node; cycle = (send_at l 0).cycle; payload = map (λ x. x.byte) (take (send_at l 3).byte (drop 4 l)) }

-- the frame that begins the list, if one does
unfoldable pub begun : List Send → List Frame
begun l = if begins_frame l then frame_of l ∷ [] else []

-- how many sends it has; where none begins the list, its first send is passed over
unfoldable pub passed : List Send → ℕ
passed l = if begins_frame l then 4 + (send_at l 3).byte else 1

-- the frames behind the first k sends
unfoldable pub frames_behind : ℕ → List Send → List Frame
frames_behind k [] = []
frames_behind (suc k) (x ∷ l) = frames_behind k l
frames_behind zero (x ∷ l) = begun (x ∷ l) ++ frames_behind (passed (x ∷ l) - 1) l

-- The frames: none of no sends; where a frame begins the list that frame, and then those of the rest behind it; else
-- those of the list without its first send.
abbrev pub frames : List Send → List Frame
frames = frames_behind 0
