use Rattle.rx_book_tests.proofs.desks.trials.assert_told.Given as goal

abbrev pub ghosts-at_desk-I-Ledger : goal.ghosts-at_desk-I-Ledger
ghosts-at_desk-I-Ledger g a = record { name = a.blanks.0.name; parts = a.blanks.0.parts }

abbrev pub ghosts-at_desk-A-Ledger : goal.ghosts-at_desk-A-Ledger
ghosts-at_desk-A-Ledger g a = record { name = a.blanks.1.name; parts = a.blanks.1.parts }

abbrev pub ghosts-at_desk-K-Ledger : goal.ghosts-at_desk-K-Ledger
ghosts-at_desk-K-Ledger g a = record { name = a.blanks.2.name; parts = a.blanks.2.parts }
