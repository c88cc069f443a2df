-- The sniffers of all nodes, and what they gave. Own to this simulator.
use Rattle.std.specs.Prelude.{ℕ, List, [], ◌∷◌, ◌++◌}
use Rattle.std.specs.List.{flat_map}
use Rattle.air_base.specs.declared.air.Send.{Send}
use Rattle.air_base.specs.Each.{each_below}
use Rattle.world_core.specs.Sends.{sends_of}
use Rattle.air_sniffer.specs.Frames.{frames}
use Rattle.air_sniffer.specs.Sniffed.{SnifferFacts, fed, line_of, open_part, sniffer_of, sure}
use Rattle.air_sniffer.specs.declared.frame.Frame.{Frame}
use Rattle.run_reports.specs.Frames.{frame_line}

-- a node that is sniffed: its sniffer, and the frames that it gave
pub record Watch : Type 0 where
  pub sniffer : SnifferFacts
  pub gave : List Frame

-- nothing was fed
abbrev pub unfed : ℕ → Watch
unfed node = record { sniffer = sniffer_of node []; gave = [] }

-- one piece more was fed
abbrev pub fed_more : List Send → Watch → Watch
fed_more piece w = record { sniffer = fed w.sniffer piece; gave = w.gave ++ sure (line_of w.sniffer piece) }

-- all these sends were fed, in whatever pieces
abbrev pub fed_all : List Send → ℕ → Watch
fed_all all node = record { sniffer = sniffer_of node (open_part (sends_of node all)); gave = sure (sends_of node all) }

-- one for each node, in order of number
abbrev pub of_each : ℕ → (ℕ → Watch) → List Watch
of_each nodes w = each_below nodes (λ k. w k ∷ [])

-- the lines of its frames, where no more sends come
abbrev pub watch_text : Watch → List ℕ
watch_text w = flat_map frame_line (w.gave ++ frames w.sniffer.held)
