-- An agenda as contracts see it.
use Rattle.rx_turns.specs.declared.agenda.Agenda.{Agenda}
use Rattle.rx_turns.specs.Agendas.{DueLists}

abbrev pub seen : Agenda → DueLists
seen a = record { rows = a.rows.items; lists = a.lists; words = a.words.items }
