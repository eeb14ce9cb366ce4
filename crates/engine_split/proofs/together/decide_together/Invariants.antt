use Rattle.engine_split.proofs.together.decide_together.Given as goal

abbrev pub ghosts-ledger_of : goal.ghosts-ledger_of
ghosts-ledger_of g a = record { table = a.cursors; opening = a.ledger.opening; frames = a.ledger.frames }
