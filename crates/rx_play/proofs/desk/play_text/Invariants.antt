use Rattle.rx_play.proofs.desk.play_text.Given as goal

abbrev pub ghosts-play_all-I-Ledger : goal.ghosts-play_all-I-Ledger
ghosts-play_all-I-Ledger g a = record { name = a.blanks.0.name; parts = a.blanks.0.parts }

abbrev pub ghosts-play_all-A-Ledger : goal.ghosts-play_all-A-Ledger
ghosts-play_all-A-Ledger g a = record { name = a.blanks.1.name; parts = a.blanks.1.parts }

abbrev pub ghosts-play_all-K-Ledger : goal.ghosts-play_all-K-Ledger
ghosts-play_all-K-Ledger g a = record { name = a.blanks.2.name; parts = a.blanks.2.parts }
