-- The session of a call that picks none. Own to this simulator.
use Rattle.std.specs.Prelude.{[]}
use Rattle.atomic_table.specs.Seated.{TableId}
use Rattle.world_core.specs.declared.world.WorldFacts.{WorldFacts}
use Rattle.world_core.specs.Topology.{topology}

abbrev pub no_table : TableId
no_table = record { words = 0; slots = 0; views_name = 0; atom = 0; block = 0; offset = 0; slot_names = [] }

abbrev pub no_world : WorldFacts
no_world = record { topo = topology 0 0 0 0 [] [] []; sends = []; asks = [] }
