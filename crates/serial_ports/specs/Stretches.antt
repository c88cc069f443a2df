-- The stretches of a script, in each form in which it holds them.
use Rattle.std.specs.Prelude.{List, [], ◌∷◌}
use Rattle.serial_ports.specs.Script.{StretchBytes}
use Rattle.serial_ports.specs.declared.script.Stretches.{Stretches}
use Rattle.serial_ports.specs.declared.script.Stretches.TheVariants.{Nothing, One, InOrder, Many}

abbrev pub stretches_of : Stretches → List StretchBytes
stretches_of Nothing = []
stretches_of (One stretch) = stretch ∷ []
stretches_of (InOrder stretches) = stretches
stretches_of (Many stretches) = stretches.items
