use Rattle.ihex_loader.proofs.Good.{blank_good}
use Rattle.ihex_loader.proofs.loader.Loader.take_parsed.Goals as goal

pub returns-in-Blank-clause-good : goal.returns-in-Blank-clause-good
returns-in-Blank-clause-good c = λ before s. rw c.in-Blank.is (blank_good before _ _ _ _ s)
