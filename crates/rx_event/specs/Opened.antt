-- Whether the places below a node were ever opened.
use Rattle.std.specs.Prelude.{◌||◌}
use Rattle.rx_event.specs.Imports.{ℕ, Bool, false, List, list_any, option_map_or, Event}
use Rattle.rx_event.specs.Events.{is_source_of, is_notifier_of}
use Rattle.rx_event.specs.Kept.{Kept, node_kept}

abbrev pub source_opened : Kept → List Event → ℕ → Bool
source_opened b h p = option_map_or (λ k. k.source_opened) (node_kept b p) false || list_any (is_source_of p) h

abbrev pub notifier_opened : Kept → List Event → ℕ → Bool
notifier_opened b h p = option_map_or (λ k. k.notifier_opened) (node_kept b p) false || list_any (is_notifier_of p) h
