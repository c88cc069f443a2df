use Rattle.pieces_law.proofs.Joined.{joined, pieces}
use Rattle.pieces_law.proofs.pieces_law.Goals as goal

pub returns-clause-pieces : goal.returns-clause-pieces
returns-clause-pieces c = pieces

pub returns-clause-joined : goal.returns-clause-joined
returns-clause-joined c = joined
