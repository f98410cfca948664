use Rattle.rx_trace.proofs.Common.{◌≡◌, ◌≤◌, ◌∙◌, ◌++◌, [], ap, sym, subst, map, drop, codes, filter_map, string_bytes, State, res_binding, member_text, name_text}
use Rattle.rx_trace.proofs.Common.{names_where, taken_by, resource_told, waits_by, AreHandedOut}
use Rattle.rx_trace.proofs.LinesTold.{told_behind}
use Rattle.rx_trace.proofs.told.tell.Goals as goal

pub returns-clause-told : goal.returns-clause-told
returns-clause-told g c = λ since rise.
    let old = c.args.engine.now in
    let new = c.notes_told.new.engine in
    let t = c.hand_out.new.handed in
    let same = c.in_ok-notes.ensures.book in
    let same_res : map res_binding new.resources ≡ map res_binding old.resources = ap (λ s. s.resources) (c.in_ok-notes.ensures.stays.stage []) in
    let still : new.book.base.at_length ≤ c.args.from = subst (λ (s : State). s.base.at_length ≤ c.args.from) (sym same) since in
    told_behind (string_bytes c.args.text.now) (string_bytes c.push_list.new.text) (string_bytes c.push_list-2.new.text) (string_bytes c.push_list-3.new.text)
    (map string_bytes c.in_ok-notes.notes.items) (map string_bytes c.in_ok-waiting.waiting.items) (map string_bytes c.in_ok-release.release.items) _ _ _
    (c.in_ok-push_list.ensures ∙ ap (λ l. string_bytes c.args.text.now ++ member_text (codes "notes") (map string_bytes l)) c.as_slice.ensures.value)
    (c.in_ok-push_list-2.ensures ∙ ap (λ l. string_bytes c.push_list.new.text ++ member_text (codes "waits") (map string_bytes l)) c.as_slice-2.ensures.value)
    (c.in_ok-push_list-3.ensures ∙ ap (λ l. string_bytes c.push_list-2.new.text ++ member_text (codes "release") (map string_bytes l)) c.as_slice-3.ensures.value)
    (c.in_ok-notes.ensures.told rise)
    (c.in_ok-waiting.ensures ∙ ap (λ l. map name_text (names_where (waits_by new.book t) (map res_binding l))) c.in_order.ensures
    ∙ ap (λ (s : State). map name_text (names_where (waits_by s t) (map res_binding new.resources))) same
    ∙ ap (λ l. map name_text (names_where (waits_by old.book t) l)) same_res)
    (c.in_ok-release.ensures.names still
    ∙ ap (λ (s : State). map (resource_told (map res_binding new.resources)) (filter_map taken_by (drop c.args.from s.history))) same
    ∙ ap (λ l. map (resource_told l) (filter_map taken_by (drop c.args.from old.book.history))) same_res)

pub returns-clause-handed : goal.returns-clause-handed
returns-clause-handed g c = λ since h known.
    let same = c.in_ok-notes.ensures.book in
    subst (λ (s : State). AreHandedOut c.hand_out.new.handed (h ++ drop c.args.from s.history)) same
    (c.in_ok-release.ensures.handed (subst (λ (s : State). s.base.at_length ≤ c.args.from) (sym same) since) h known)
