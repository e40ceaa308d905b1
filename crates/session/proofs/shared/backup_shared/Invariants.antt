use Rattle.session.proofs.shared.backup_shared.Given as goal

abbrev pub ghosts-backup_by_pass : goal.ghosts-backup_by_pass
ghosts-backup_by_pass g a = record { pass = a.pass }
