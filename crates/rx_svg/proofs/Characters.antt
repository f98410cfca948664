-- Numbers and labels are made of plain characters, whatever the history is.
use Rattle.rx_svg.proofs.Common.{◌≡◌, ℕ, ◌<◌, Bool, true, false, List, [], ◌∷◌, ◌++◌, ℤ, codes, decimal, refl, ◌∙◌, arith, ◌==◌, if◌then◌else◌}
use Rattle.rx_svg.proofs.Common.{and_from, Note, Event, event_label, said_label, is_plain_character, is_plain}
use Rattle.std.proofs.Common.{zero, suc, ◌/◌, ◌%◌, rules}
use Rattle.std.specs.Fmt.{digits, digits_onto, digit_glyph, signed_decimal}
use Rattle.std.proofs.lemmas.List.Folds.{list_all-append}
use Rattle.rx_note.specs.declared.note.Terminal.{Terminal}
use Rattle.rx_event.specs.declared.event.Place.{Place}
use Rattle.rx_event.specs.declared.event.Kind.{Kind}
use Rattle.rx_svg.specs.Label.{kind_label, place_label, mode_label, terminal_label}

-- numbers -----------------------------------------------------------------------------------------

digit_is_plain : (d : ℕ) → d < 10 → is_plain_character (digit_glyph false d) ≡ true
digit_is_plain x0 h = search rules

pub both_are_plain : (b : Bool) (x y : List ℕ) → is_plain x ≡ true → is_plain y ≡ true → is_plain (if b then x else y) ≡ true
both_are_plain x0 x y p q = search rules

digits_are_plain : (k n : ℕ) (after : List ℕ) → is_plain after ≡ true → is_plain (digits_onto k 10 false n after) ≡ true
digits_are_plain zero n after h = h
digits_are_plain (suc k) n after h =
    let more : is_plain (digit_glyph false (n % 10) ∷ after) ≡ true = and_from _ _ (digit_is_plain (n % 10) (omega arith)) h in
    both_are_plain (n / 10 == 0) _ _ more (digits_are_plain k (n / 10) (digit_glyph false (n % 10) ∷ after) more)

pub decimal_is_plain : (n : ℕ) → is_plain (decimal n) ≡ true
unfolding digits
decimal_is_plain n = digits_are_plain 64 n [] refl

pub signed_is_plain : (z : ℤ) → is_plain (signed_decimal z) ≡ true
signed_is_plain x0 = search (rules, decimal_is_plain)

pub plain_append : (a b : List ℕ) → is_plain a ≡ true → is_plain b ≡ true → is_plain (a ++ b) ≡ true
plain_append a b p q = list_all-append is_plain_character a b ∙ and_from _ _ p q

-- labels ------------------------------------------------------------------------------------------

kind_is_plain : (kind : Kind) → is_plain (kind_label kind) ≡ true
unfolding kind_label
kind_is_plain x0 = search (rules, decimal_is_plain)

place_is_plain : (place : Place) → is_plain (place_label place) ≡ true
unfolding place_label
place_is_plain x0 = search (rules, decimal_is_plain)

terminal_is_plain : (t : Terminal) → is_plain (terminal_label t) ≡ true
unfolding terminal_label
terminal_is_plain x0 = search (rules, decimal_is_plain)

pub event_is_plain : (e : Event) → is_plain (event_label e) ≡ true
unfolding event_label mode_label
event_is_plain x0 = search (rules, plain_append, kind_is_plain, place_is_plain, decimal_is_plain, codes, decimal, signed_is_plain, terminal_is_plain)

pub note_is_plain : (note : Note) → is_plain (said_label note) ≡ true
unfolding said_label
note_is_plain x0 = search (rules, signed_is_plain, terminal_is_plain)
