use Rattle.world_core.proofs.Room.{kept_room}
use Rattle.world_core.proofs.kept.room_law.Goals as goal

pub returns : goal.returns
returns c = kept_room
