-- The names that most proofs here cite, passed on from one place. Declares nothing.
pub use Rattle.rx_event.proofs.Laws.Common.{◌≡◌, ◌++◌, ℕ, List, sym, take, true, [], ◌∷◌, refl, ◌∙◌, subst, Bool, false, and_from, append_assoc, ◌==◌}
pub use Rattle.rx_event.proofs.Laws.Common.{append-nil, ap, Option, map, and_parts, if◌then◌else◌, length, list_all, ◌&&◌, ◌<◌, ℤ, arith, false≢true, not}
pub use Rattle.rx_event.proofs.Laws.Common.{nat_lt, inl, inr, ◌⊎◌, list_any, or_cases, rules}
pub use Rattle.serde_json.specs.View.{view}
pub use Rattle.std.proofs.Common.{flat_map, codes, string_bytes, decimal}
pub use Rattle.std.proofs.lemmas.Bool.{cond-true}
pub use Rattle.rx_audit.specs.declared.verdict.Verdict.{Verdict}
pub use Rattle.rx_event.specs.declared.event.Event.{Event}
pub use Rattle.rx_event.specs.declared.event.Event.TheVariants.{Use, Lease}
pub use Rattle.rx_note.specs.declared.note.Note.{Note}
pub use Rattle.rx_note.specs.declared.note.Note.TheVariants.{Next, Project, End as EndNote}
pub use Rattle.rx_note.specs.declared.note.Terminal.TheVariants.{Completed, Error}
pub use Rattle.rx_picture.specs.declared.drawing.Drawing.{Drawing}
pub use Rattle.rx_picture.specs.declared.points.Point.{Point}
unfoldable pub use Rattle.rx_svg.specs.Label.{event_label, called_text}
pub use Rattle.rx_svg.specs.Track.{x_of}
unfoldable pub use Rattle.rx_svg.specs.Track.{row_text, tick_text, note_marble}
pub use Rattle.rx_dump.specs.Names.{name_in_object}
pub use Rattle.rx_svg.specs.Name.{name_label, byte_text, stands_in_name}
unfoldable pub use Rattle.rx_svg.specs.Page.{point_text, svg_text}
pub use Rattle.rx_svg.specs.Parts.{Part, words, number, signed}
unfoldable pub use Rattle.rx_svg.specs.Parts.{text_of}
unfoldable pub use Rattle.rx_svg.specs.Said.{said_label}
pub use Rattle.rx_svg.specs.Stroke.{Look}
unfoldable pub use Rattle.rx_svg.specs.Stroke.{line_text, bar_text, mark_text, code_text}
pub use Rattle.rx_svg.specs.WellFormed.{IsContent, nothing, is_plain, IsWellFormed, is_plain_character, element_text, reference_text, text_first}
pub use Rattle.rx_svg.specs.WellFormed.{reference_first, element_first, are_distinct, Attribute, IsTag, is_tag_name, is_attribute, attribute_text, is_predefined}
