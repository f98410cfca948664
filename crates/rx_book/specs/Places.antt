-- The key of the node that a place names, as the tree has it. No public clause cites this module.
use Rattle.std.specs.Prelude.{Option, Some, None}
use Rattle.rx_slots.specs.declared.Key.{Key}
use Rattle.rx_book.specs.declared.answer.At.{At}
use Rattle.rx_book.specs.declared.answer.At.TheVariants.{Root, Source, Inner, Notifier}

abbrev pub key_above : At → Option Key
key_above Root = None
key_above (Source k) = Some k
key_above (Inner k) = Some k
key_above (Notifier k) = Some k
