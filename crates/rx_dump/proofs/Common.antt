-- The names that most proofs here cite, passed on from one place. Declares nothing.
pub use Rattle.std.proofs.Common.{Some, None, flat_map, Option, option_and_then, string_bytes, IsErrOf, codes, decimal, negsuc}
pub use Rattle.rx_event.proofs.Laws.Common.{◌≡◌, List, ◌∷◌, ap, arith, [], sym, ◌∙◌, ◌++◌, option_map, refl, subst, length, ℕ, map, pos, rules, take, true}
pub use Rattle.rx_event.proofs.Laws.Common.{and_parts, append_assoc, drop, false, inr, list_all, suc, ◌-◌, ◌<◌, ◌==◌, ◌≤◌}
pub use Rattle.json.{proofs.Grammar.value_is, specs.Json.after_end_array, specs.Lex.tokens, specs.Reads.token_of, specs.Token.Token, specs.Token.begin_array}
pub use Rattle.rx_dump.specs.{Dump.following_event_text, History.each_event, History.count, Verdict.number_text}
pub use Rattle.rx_dump.specs.Tokens.{AreEvents, IsEvent, in_dump, in_event, AreItems, IsAlone, IsValue, IsTextOf}
unfoldable pub use Rattle.rx_dump.specs.History.{event_of, has_count, history_of}
pub use Rattle.rx_event.specs.declared.event.{Event.Event, Kind.Kind, Kind.TheVariants.Leaf, Mode.TheVariants.Auto, Place.Place}
pub use Rattle.rx_event.specs.declared.event.Event.TheVariants.{End, Hub, Item, Open, Accept}
pub use Rattle.rx_event.specs.declared.event.Place.TheVariants.{Inner, Notifier, Root, Source}
pub use Rattle.rx_note.specs.declared.note.Terminal.TheVariants.{Error, Completed}
pub use Rattle.serde_json.specs.{Data.Data, Data.Items, Data.array, Data.item, Data.no_items, Data.number, Data.string, Read.of_json, Read.of_items}
pub use Rattle.serde_json.specs.{View.items_view, View.view, View.items_of, declared.value.Value.Value}
