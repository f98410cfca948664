use Rattle.rx_cellar.proofs.WordsFind.{words_find}
use Rattle.rx_cellar.proofs.word_laws.words_find_their_lanes.Goals as goal

pub returns : goal.returns
returns c = λ s promised name l inside found. words_find s name l inside found (promised.places name l found)
