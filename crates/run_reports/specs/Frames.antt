-- What is written of the frames of a run.
use Rattle.std.specs.Prelude.{ℕ, Option, Some, None, List, ◌++◌, length, codes, decimal}
use Rattle.std.specs.List.{filter_map, flat_map}
use Rattle.sim_io.specs.Digits.{hex2}
use Rattle.air_base.specs.declared.air.Send.{Send}
use Rattle.air_base.specs.Each.{each_below}
use Rattle.world_core.specs.Order.{facts_of}
use Rattle.world_core.specs.Sends.{sends_of}
use Rattle.node_core.specs.declared.row.Row.{Row}
use Rattle.node_core.specs.declared.row.Kind.{Kind}
use Rattle.node_core.specs.declared.row.Kind.TheVariants.{Sent}
use Rattle.node_runner.specs.Scenario.{ScenarioOf, fleet_of}
use Rattle.air_sniffer.specs.Frames.{frames}
use Rattle.air_sniffer.specs.declared.frame.Frame.{Frame}

-- what stands before the payload
unfoldable pub frame_head : Frame → List ℕ
frame_head f = decimal f.cycle ++ codes " " ++ decimal f.node ++ codes " frame " ++ decimal (length f.payload) ++ codes " "

-- the line of a frame: the cycle of its first byte, the node, how many bytes its payload has, and these
unfoldable pub frame_line : Frame → List ℕ
frame_line f = frame_head f ++ flat_map hex2 f.payload ++ codes "\n"

-- the send that a row tells, if it does
abbrev pub send_by : ℕ → ℕ → Kind → Option Send
send_by node cycle (Sent byte) = Some (record { node = node; cycle = cycle; byte = byte })
send_by node cycle _ = None

abbrev pub send_told : Row → Option Send
send_told r = send_by r.node r.cycle r.kind

-- the sends that rows tell, in their order
unfoldable pub sends_told : List Row → List Send
sends_told rows = filter_map send_told rows

-- the frames of each node, over all sends of the run, node after node. (The rows of the run tell these sends:
-- `sends_law`.)
unfoldable pub frames_text : ScenarioOf → List ℕ
frames_text network = each_below network.topo.nodes (λ k. flat_map frame_line (frames (sends_of k (facts_of (fleet_of network)).sends)))
