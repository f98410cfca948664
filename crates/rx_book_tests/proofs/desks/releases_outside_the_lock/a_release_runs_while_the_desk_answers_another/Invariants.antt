use Rattle.rx_book_tests.proofs.desks.releases_outside_the_lock.a_release_runs_while_the_desk_answers_another.Given as goal

abbrev pub ghosts-disposes_meanwhile-I-Ledger : goal.ghosts-disposes_meanwhile-I-Ledger
ghosts-disposes_meanwhile-I-Ledger g a = record { name = a.blanks.0.name; parts = a.blanks.0.parts }

abbrev pub ghosts-disposes_meanwhile-A-Ledger : goal.ghosts-disposes_meanwhile-A-Ledger
ghosts-disposes_meanwhile-A-Ledger g a = record { name = a.blanks.1.name; parts = a.blanks.1.parts }

abbrev pub ghosts-disposes_meanwhile-K-Ledger : goal.ghosts-disposes_meanwhile-K-Ledger
ghosts-disposes_meanwhile-K-Ledger g a = record { name = a.blanks.2.name; parts = a.blanks.2.parts }
