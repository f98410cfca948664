use Rattle.rx_dump.proofs.Common.{◌≡◌, ◌∷◌, List, Some, None, subst, sym, ◌∙◌, arith, Token, after_end_array, token_of, view, items_view, Value, in_event}
use Rattle.rx_dump.proofs.Common.{IsValue}
use Rattle.rx_dump.proofs.Arrays.{AreBefore, none_yet, one_more, all_read, joined-view}
use Rattle.rx_dump.proofs.reading.parts_of.Goals as goal

pub parts-init : goal.parts-init
parts-init c =
    let start = c.args.reader.now in
    subst (λ (vs : List Value). AreBefore in_event start start (items_view vs)) (sym c.new-parts.ensures.items) (none_yet in_event start)

pub parts-smaller : goal.parts-smaller
parts-smaller c =
    let same : c.take_end_array.new.self ≡ c.parts.reader = grind arith in
    let first : c.take_end_array.new.self ≡ token_of c.in_ok-token.token ∷ c.next.new.self = grind arith in
    grind (arith, same, first)

pub parts-preserved : goal.parts-preserved
parts-preserved c =
    let start = c.args.reader.now in
    let rest = c.next.new.self in
    let part = c.in_ok-part.part in
    let going : after_end_array c.parts.reader ≡ None = grind arith in
    let same : c.take_end_array.new.self ≡ c.parts.reader = grind arith in
    let first : c.take_end_array.new.self ≡ token_of c.in_ok-token.token ∷ rest = grind arith in
    let is = subst (λ (ts : List Token). IsValue in_event ts rest (view part)) (sym first ∙ same) (c.in_ok-part.ensures in_event rest) in
    let more = one_more _ _ _ _ _ c.parts.invariant going is in
    subst (λ (vs : List Value). AreBefore in_event start rest (items_view vs)) (sym c.in_ok-push.ensures.items)
    (subst (AreBefore in_event start rest) (joined-view c.parts.parts.items part) more)

pub returns : goal.returns
returns c =
    let over : after_end_array c.parts.reader ≡ Some c.take_end_array.new.self = grind arith in
    all_read in_event _ _ _ _ c.parts.invariant over
