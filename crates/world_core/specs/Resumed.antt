-- A run that begins again in a moment of another. Own to this simulator.
use Rattle.std.specs.Prelude.{◌≡◌, ◌++◌}
use Rattle.world_core.specs.Order.{Moment}

-- the moment w of a run that began again in `before` is the moment v of the run that went on
pub record GoesOn {S R : Type 0} (before w v : Moment S R) : Type 0 where
  pub state : w.state ≡ v.state
  pub sends : w.sends ≡ v.sends
  pub asks : v.asks ≡ before.asks ++ w.asks
  pub rows : v.rows ≡ before.rows ++ w.rows
