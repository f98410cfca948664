use Rattle.rx_storm.proofs.storm_in_batches.Given as goal

abbrev pub ghosts-storm_named-I-Ledger : goal.ghosts-storm_named-I-Ledger
ghosts-storm_named-I-Ledger g a = record { name = a.blanks.0.name; parts = a.blanks.0.parts }

abbrev pub ghosts-storm_named-A-Ledger : goal.ghosts-storm_named-A-Ledger
ghosts-storm_named-A-Ledger g a = record { name = a.blanks.1.name; parts = a.blanks.1.parts }

abbrev pub ghosts-storm_named-K-Ledger : goal.ghosts-storm_named-K-Ledger
ghosts-storm_named-K-Ledger g a = record { name = a.blanks.2.name; parts = a.blanks.2.parts }
