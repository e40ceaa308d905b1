use Rattle.restore.proofs.shared.restore_shared.Given as goal

abbrev pub ghosts-restore_by_pass : goal.ghosts-restore_by_pass
ghosts-restore_by_pass g a = record { pass = a.pass }
