use Rattle.std.proofs.Common.{refl, rules}
use Rattle.command_plans.specs.Plan.{Give, Read}
use Rattle.command_plans.specs.Reading.{Here, Fitting, TooLong}
use Rattle.command_plans.specs.Parts.{refusal_of}
use Rattle.command_plans.proofs.files.read_file.Goals as goal

pub returns-in-Ok-clause-read : goal.returns-in-Ok-clause-read
returns-in-Ok-clause-read g c = (
  search (rules, c.read.ensures.as_before),
  Fitting c.args.name.now c.args.most (refusal_of c.args.too_long) Give c.in-Ok.bytes.items _ c.in-Ok.ensures.bytes c.in-Ok.ensures.fits (Here _),
)

pub returns-in-Err-Failed-clause-read : goal.returns-in-Err-Failed-clause-read
returns-in-Err-Failed-clause-read g c = (
  record { rose = search (rules, c.read.ensures.rose); failed = search (rules, c.read.ensures.failed) },
  record { rest = Read c.args.name.now c.args.most (refusal_of c.args.too_long) Give; reached = Here _; reading = refl },
)

pub returns-in-Err-TooLong-clause-read : goal.returns-in-Err-TooLong-clause-read
returns-in-Err-TooLong-clause-read g c = (
  search (rules, c.read.ensures.as_before),
  TooLong c.args.name.now c.args.most (refusal_of c.args.too_long) Give (search (rules, c.read.ensures.too_long)),
)

pub returns-in-Err-NoMemory-clause-read : goal.returns-in-Err-NoMemory-clause-read
returns-in-Err-NoMemory-clause-read g c = search (rules, c.read.ensures.as_before)
