use Rattle.rx_book_tests.proofs.desks.storms.storm_once.Given as goal

abbrev pub ghosts-weather-I-Ledger : goal.ghosts-weather-I-Ledger
ghosts-weather-I-Ledger g a = record { name = a.blanks.0.name; parts = a.blanks.0.parts }

abbrev pub ghosts-weather-A-Ledger : goal.ghosts-weather-A-Ledger
ghosts-weather-A-Ledger g a = record { name = a.blanks.1.name; parts = a.blanks.1.parts }

abbrev pub ghosts-weather-K-Ledger : goal.ghosts-weather-K-Ledger
ghosts-weather-K-Ledger g a = record { name = a.blanks.2.name; parts = a.blanks.2.parts }
