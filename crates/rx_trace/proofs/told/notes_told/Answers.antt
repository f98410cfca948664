use Rattle.rx_trace.proofs.Common.{◌≡◌, ◌≤◌, ◌+◌, ◌∙◌, ◌++◌, ◌∷◌, [], ap, sym, map, map-append, drop, take, notes, arith, rules, string_bytes, State}
use Rattle.rx_trace.proofs.Common.{note_text, name_by_number, node_binding, told_note, length, subst, Rise, stays_on}
use Rattle.rx_trace.proofs.TakenOne.{since_all, texts_next, still, one_more_given, note_there, none_more_given, no_note, all_given}
use Rattle.rx_trace.proofs.told.notes_told.Goals as goal

pub loop-told-preserved : goal.loop-told-preserved
loop-told-preserved g c =
    let first = c.args.engine.now.book in
    let now = c.loop-told.engine.book in
    let next = c.next_note.new.engine.book in
    let asked = c.in_ok-mail.field-0 in
    let mail = c.in-Some.mail in
    let so_far = c.loop-told.invariant in
    let seen = c.in_ok-mail.ensures in
    let stays = stays_on so_far.stays seen.stays in
    let same_nodes : map node_binding c.next_note.new.engine.nodes ≡ map node_binding c.args.engine.now.nodes = ap (λ s. s.nodes) (stays.stage []) in
    let pushed : c.push.new.self.items ≡ c.loop-told.told.items ++ c.in_ok-note_text.field-0 ∷ [] = search rules in
    let listed = ap (map node_binding) c.in_order.ensures ∙ same_nodes in
    let text : Rise (map node_binding c.args.engine.now.nodes) → string_bytes c.in_ok-note_text.field-0
    ≡ told_note (map node_binding c.args.engine.now.nodes) mail = λ rise. c.in_ok-note_text.ensures ∙ ap (λ n. note_text n mail.note)
    (c.node_name-name.ensures (subst Rise (sym listed) rise) ∙ ap (λ l. name_by_number l mail.to) listed) in
    let more : next.given ≡ now.given + 1 = one_more_given first now next asked so_far.book seen.handed seen.note mail c.in-Some.is in
    let begun = so_far.begun in
    record {
      begun = omega arith;
      told = λ rise. texts_next (told_note (map node_binding c.args.engine.now.nodes)) (notes first.history) first.given now.given mail begun
          (note_there first now next asked so_far.book seen.handed seen.note mail c.in-Some.is) (map string_bytes c.loop-told.told.items)
          (map string_bytes c.push.new.self.items) (so_far.told rise)
          (ap (map string_bytes) pushed ∙ map-append string_bytes c.loop-told.told.items (c.in_ok-note_text.field-0 ∷ [])
          ∙ ap (λ t. map string_bytes c.loop-told.told.items ++ t ∷ []) (text rise))
          ∙ ap (λ n. map (told_note (map node_binding c.args.engine.now.nodes)) (drop first.given (take n (notes first.history)))) (sym more);
      book = still first now next asked so_far.book seen.handed seen.note;
      stays = stays;
      sound = seen.stays.sound;
    }

pub returns-clause-told : goal.returns-clause-told
returns-clause-told g c =
    let first = c.args.engine.now.book in
    let now = c.loop-told.engine.book in
    let so_far = c.loop-told.invariant in
    let seen = c.in_ok-mail.ensures in
    λ rise. so_far.told rise ∙ ap (map (told_note (map node_binding c.args.engine.now.nodes))) (since_all (notes first.history) first.given now.given
    (no_note first now c.next_note.new.engine.book c.in_ok-mail.field-0 so_far.book seen.handed seen.note c.in_default.is))

pub returns-clause-book : goal.returns-clause-book
returns-clause-book g c =
    let first = c.args.engine.now.book in
    let now = c.loop-told.engine.book in
    let next = c.next_note.new.engine.book in
    let asked = c.in_ok-mail.field-0 in
    let so_far = c.loop-told.invariant in
    let seen = c.in_ok-mail.ensures in
    let kept = so_far.sound.kept.given in
    let same : length (notes now.history) ≡ length (notes first.history) = ap (λ (s : State). length (notes s.history)) so_far.book in
    let within : now.given ≤ length (notes first.history) = omega arith in
    still first now next asked so_far.book seen.handed seen.note
    ∙ ap (λ n. record first { given = n }) (none_more_given first now next asked so_far.book seen.handed seen.note c.in_default.is
    ∙ all_given (notes first.history) now.given within (no_note first now next asked so_far.book seen.handed seen.note c.in_default.is))

pub returns-clause-stays : goal.returns-clause-stays
returns-clause-stays g c = stays_on c.loop-told.invariant.stays c.in_ok-mail.ensures.stays
