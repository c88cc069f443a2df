use Rattle.sync_facts.proofs.waits.is_done.Given as goal

abbrev pub ghosts-in_session : goal.ghosts-in_session
ghosts-in_session g a = record { table = a.air.table; world = a.air.world; floor = a.air.floor }
