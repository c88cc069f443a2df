use Rattle.std.proofs.Common.{◌≡◌, ◌∙◌}
use Rattle.commands.specs.Network.{size_line}
use Rattle.command_plans.specs.Ends.{stream}
use Rattle.commands.proofs.network.write_size.Goals as goal

pub returns-in-Ok : goal.returns-in-Ok
returns-in-Ok g c =
    let line : c.as_bytes.result.now ≡ size_line c.args.network.now = c.as_bytes.ensures.value ∙ (c.as_str.ensures.value ∙ c.size_line-line.ensures) in
    let taken = rw line at c.in-Ok.ensures.taken in
    λ i. stream (taken i) (c.in-Ok.ensures.ok i)

pub returns-in-Err : goal.returns-in-Err
returns-in-Err g c =
    let line : c.as_bytes.result.now ≡ size_line c.args.network.now = c.as_bytes.ensures.value ∙ (c.as_str.ensures.value ∙ c.size_line-line.ensures) in
    record { front = rw line at c.in-Err.ensures.front; rose = c.in-Err.ensures.rose }
