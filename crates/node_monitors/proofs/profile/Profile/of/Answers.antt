use Rattle.node_monitors.proofs.Rooms.{charge-fits, taken-account, taken-whole}
use Rattle.node_monitors.proofs.profile.Profile.of.Goals as goal

pub charge-requires : goal.charge-requires
charge-requires c =
    charge-fits c.args.node c.args.window c.args.rows.now c.in_ok-ledger.ledger c.in_ok-ledger.ensures.node c.in_ok-ledger.ensures.window c.in_ok-ledger.ensures.taken c.requires

pub returns-clause-account : goal.returns-clause-account
returns-clause-account c =
    taken-account c.args.node c.args.window c.args.rows.now c.in_ok-ledger.ledger _ c.in_ok-ledger.ensures.node c.in_ok-ledger.ensures.window
    (record { most = c.in_ok-ledger.ensures.words; within = c.in_ok-ledger.ensures.within }) c.in_ok-ledger.ensures.taken
    (record {
      lead = c.lead.ensures;
      at = c.in_ok-at.ensures;
      entered = c.in_ok-entered.ensures;
      asleep = c.asleep.ensures;
      stopped = c.stopped.ensures;
      charge = c.charge.ensures;
    })

pub returns-clause-whole : goal.returns-clause-whole
returns-clause-whole c =
    taken-whole c.args.window c.args.rows.now c.in_ok-ledger.ledger _ c.in_ok-ledger.ensures.window c.in_ok-ledger.ensures.taken
    (record {
      lead = c.lead.ensures;
      at = c.in_ok-at.ensures;
      entered = c.in_ok-entered.ensures;
      asleep = c.asleep.ensures;
      stopped = c.stopped.ensures;
      charge = c.charge.ensures;
    })
