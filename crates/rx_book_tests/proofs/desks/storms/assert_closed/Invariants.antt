use Rattle.rx_book_tests.proofs.desks.storms.assert_closed.Given as goal

abbrev pub ghosts-end_with_an_open_root-I-Ledger : goal.ghosts-end_with_an_open_root-I-Ledger
ghosts-end_with_an_open_root-I-Ledger g a = record { name = a.blanks.0.name; parts = a.blanks.0.parts }

abbrev pub ghosts-end_with_an_open_root-A-Ledger : goal.ghosts-end_with_an_open_root-A-Ledger
ghosts-end_with_an_open_root-A-Ledger g a = record { name = a.blanks.1.name; parts = a.blanks.1.parts }

abbrev pub ghosts-end_with_an_open_root-K-Ledger : goal.ghosts-end_with_an_open_root-K-Ledger
ghosts-end_with_an_open_root-K-Ledger g a = record { name = a.blanks.2.name; parts = a.blanks.2.parts }
