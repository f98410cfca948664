use Rattle.rx_book_tests.proofs.desks.whole.told.Given as goal

abbrev pub ghosts-run-I-Ledger : goal.ghosts-run-I-Ledger
ghosts-run-I-Ledger g a = record { name = a.blanks.0.name; parts = a.blanks.0.parts }

abbrev pub ghosts-run-A-Ledger : goal.ghosts-run-A-Ledger
ghosts-run-A-Ledger g a = record { name = a.blanks.1.name; parts = a.blanks.1.parts }

abbrev pub ghosts-run-K-Ledger : goal.ghosts-run-K-Ledger
ghosts-run-K-Ledger g a = record { name = a.blanks.2.name; parts = a.blanks.2.parts }
