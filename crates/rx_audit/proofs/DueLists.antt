-- What has to end or to close after one more event is on the list.
use Rattle.rx_audit.proofs.Common.{◌≡◌, ℕ, suc, ◌+◌, ◌-◌, ◌<◌, ◌≤◌, true, false, List, [], ◌∷◌, ◌++◌, length, Some, None, refl, sym, ap, ◌∙◌, arith}
use Rattle.rx_audit.proofs.Common.{inl, inr, ◌⊎◌, get_or, slice_get, option_and_then, option_map_or, cases_order, both_ways, and_parts, eq-eqb}
use Rattle.rx_audit.proofs.Common.{slice_get_within, same_Some, none-some, nothing_kept, Event, Connect, End, Close, is_subscriber_of, is_connect_of}
use Rattle.rx_audit.proofs.Common.{at, is_open, marks_of, connecting, cut, left, due, IsDue, IsSettled, IsLawful, MayFollow, is_open_within}
use Rattle.rx_audit.proofs.Common.{at_within, event_at, subscriber_hub, open_old, last_connection, Hubs, keyed, IsNoted, AreClosed, last_below, node_due}
use Rattle.rx_audit.proofs.Common.{due_made, IsCovered, AreHubs, Subscribers, on_list, AreLinked, AreOpenListed, IsLostNoted, acts, Keeps, HasAll}
use Rattle.rx_audit.proofs.Common.{hub_connected_at, is_disconnected, close_due, any_connect_due, hub_ended, false_from_ne_true, ⊎_elim}
use Rattle.rx_event.specs.Forced.{IsConnected}
use Rattle.rx_event.specs.Claims.Connections.{HowLeft, left_before, subscriber_gone, connected_now}
use Rattle.rx_event.proofs.Laws.MarksDue.{due_at_forced, settled_by_marks}
use Rattle.rx_event.proofs.Laws.Connections.{source_ended_or_now, left_or_now}
use Rattle.rx_audit.proofs.ClosingBelow.{noted_more, noted_last}
use Rattle.rx_audit.specs.DueList.{HasCut, HasLeft, HasEnded, HasLost, lost_connection}
use Rattle.rx_audit.proofs.Latest.{last_none, key_is, is_key_of}
use Rattle.rx_audit.proofs.Neighbours.{last_unique}
use Rattle.rx_audit.proofs.StaysOpen.{is_open_older}
use Rattle.rx_audit.proofs.TestsDecideRules.{cut_ended, is_cut_of, at_subscriber, connection_at, at_connection}
use Rattle.rx_audit.proofs.Due.{some_connect_due, close_is_due, close_due_of}
use Rattle.rx_audit.proofs.DueListCovers.{due_parts, due_made_at, some_due, none_is_due}
use Rattle.std.proofs.Common.{rules}

due_close_open : {h : List Event} {c : ℕ} → IsDue nothing_kept h (Close c) → is_open h c ≡ true
due_close_open (left o at_c a n) = o

-- subscribers that the event cuts off -----------------------------------------------------------------

pub cut_after : {h : List Event} (e : Event) (before after : List ℕ)
    → IsLawful nothing_kept h → MayFollow nothing_kept h e → HasCut h before → Keeps before after → HasEnded h e after → HasCut (h ++ e ∷ []) after
cut_after {h} e before after law next so_far keeps ended n alive is = let found = cut_ended (h ++ e ∷ []) n is in ⊎_elim
    (λ x. let within = slice_get_within h x.place _ x.ended in let after_it = x.later in
    keeps n (so_far n (open_old h e n (omega arith) alive) (is_cut_of h n found.0 x)))
    (λ x. ended x.hub n (rw x.ends (at_connection h x.connection x.hub x.connects)) x.subscribes
    (open_old h e n (at_within (is_subscriber_of x.hub) h n x.subscribes) alive)) (source_ended_or_now nothing_kept h e law next n found.0 found.1)

-- connections that nobody uses any more ---------------------------------------------------------------

-- the word of the hub leads to its open connection
open_word : {h : List Event} → IsLawful nothing_kept h → {size : ℕ} (g c : ℕ) (known : Hubs)
    → AreHubs h size known → g < size → slice_get h c ≡ Some (Connect g) → is_open h c ≡ true → get_or known.connection.items g 0 ≡ suc c
open_word {h} law g c known w inside made alive =
    let room = w.connection_size in
    w.connection g (omega arith) ∙ last_unique (keyed (hub_connected_at h) g) (length h) (suc c) (is_open_within h c alive) later here
  where
    connects : (k : ℕ) → slice_get h k ≡ Some (Connect g) → at (is_connect_of g) h k ≡ true
    connects k at_k = ap (λ o. option_map_or (is_connect_of g) o false) at_k ∙ eq-eqb g g refl

    later : (j : ℕ) → suc c ≤ j → j < length h → keyed (hub_connected_at h) g j ≡ false
    later j l m = false_from_ne_true _ (λ y.
        let le = last_connection h law g c j (connects c made) alive (connects j (connection_at h j g (is_key_of (hub_connected_at h j) g y))) in
        absurd (omega arith))

    here : (j : ℕ) → suc c ≡ suc j → keyed (hub_connected_at h) g j ≡ true
    here j e = let same : j ≡ c = omega arith in ap (keyed (hub_connected_at h) g) same ∙ key_is (hub_connected_at h c) g (at_connection h c g made)

-- the event may come after a lawful history, of whose hubs so much is known in tables that have room, and it closes these nodes
pub record IsOneMore (h : List Event) (e : Event) (size : ℕ) (known : Hubs) (closed : List ℕ) : Type 0 where
  pub lawful : IsLawful nothing_kept h
  pub next : MayFollow nothing_kept h e
  pub hubs : AreHubs h size known
  pub room : length h ≤ size
  pub closing : AreClosed h e closed

left_after : {h : List Event} {e : Event} {size : ℕ} {known : Hubs} {closed before after : List ℕ} → IsOneMore h e size known closed
    → HasLeft h before → Keeps before after → HasLost h closed known.connection.items after → IsNoted 0 after (length h) → HasLeft (h ++ e ∷ []) after
left_after {h} {e} {known} {after} one so_far keeps lost new c is = by_reason (left_or_now nothing_kept h e one.lawful one.next c d) where
  d : IsDue nothing_kept (h ++ e ∷ []) (Close c)
  d = close_is_due (h ++ e ∷ []) c is

  by_reason : HowLeft nothing_kept h e c → IsNoted 0 after c
  by_reason (left_before was) = keeps c (so_far c (close_due_of h c was))
  by_reason (connected_now g now same) = rw same new
  by_reason (subscriber_gone g s made subscribes was gone) =
      let inside : g < length h = subscriber_hub nothing_kept h one.lawful g s subscribes in
      let room = one.room in
      let old : c < length h = slice_get_within h c (Connect g) made in
      let alive : is_open h c ≡ true = open_old h e c old (due_close_open d) in
      let noted = one.closing.noted s was (sym (is_open_older h e s (is_open_within h s was)) ∙ gone) in
      lost s g c noted (at_subscriber h s g subscribes) (open_word one.lawful g c known one.hubs (omega arith) made alive)

-- settled or not ----------------------------------------------------------------------------------------

acts_parts : (h : List Event) (n : ℕ) → acts h n ≡ true
    → (node_due h n ≡ true) ⊎ (((is_open h n ≡ true) × (is_disconnected h n ≡ true)) ⊎ (close_due h n ≡ true))
unfolding acts
acts_parts h n y = search rules

pub acts_noted : (h : List Event) (list : List ℕ) → ((n : ℕ) → node_due h n ≡ true → IsNoted 0 list n)
    → HasCut h list → HasLeft h list → (n : ℕ) → acts h n ≡ true → IsNoted 0 list n
acts_noted h list marked cut_off unused n y = search (rules, acts_parts)

-- a hub that waits does
pub waits_unsettled : (h : List Event) → any_connect_due h ≡ true → IsSettled nothing_kept h → ⊥
waits_unsettled h y settled = let d = some_connect_due h y in settled.none (Connect d.0) (connecting d.1)

pub acts_open : (h : List Event) (n : ℕ) → acts h n ≡ true → is_open h n ≡ true
acts_open h n y = search (rules, acts_parts, due_parts, due_close_open, close_is_due)

-- where no hub waits, such a node leaves the history unsettled
pub acts_unsettled : (h : List Event) (n : ℕ) → IsConnected h → acts h n ≡ true → IsSettled nothing_kept h → ⊥
acts_unsettled h n whole y settled = by_case (acts_parts h n y) where
  by_case : (node_due h n ≡ true) ⊎ (((is_open h n ≡ true) × (is_disconnected h n ≡ true)) ⊎ (close_due h n ≡ true)) → ⊥
  by_case (inl m) =
      let parts = due_parts h n m in
      let made = event_at h n (is_open_within h n parts.0) in
      let found = some_due made.0 (marks_of nothing_kept h n) n (sym (due_made_at h n made.0 parts.0 made.1) ∙ m) in
      settled.none (End n found.0) (due_at_forced h n made.0 (End n found.0) whole parts.0 made.1 found.1)
  by_case (inr (inl c)) = let ended = cut_ended h n c.1 in settled.none (End n ended.0) (due whole (cut c.0 ended.1))
  by_case (inr (inr l)) = settled.none (Close n) (due whole (close_is_due h n l))

acts_by_marks : (h : List Event) (n : ℕ) → node_due h n ≡ true → acts h n ≡ true
unfolding acts
acts_by_marks h n y = grind arith

acts_by_cut : (h : List Event) (n : ℕ) → is_open h n ≡ true → is_disconnected h n ≡ true → acts h n ≡ true
unfolding acts
acts_by_cut h n o y = grind arith

acts_by_closing : (h : List Event) (n : ℕ) → close_due h n ≡ true → acts h n ≡ true
unfolding acts
acts_by_closing h n y = grind arith

-- where there is none, it is settled
pub none_acts_settled : (h : List Event) → IsConnected h → ((n : ℕ) → acts h n ≡ true → ⊥) → IsSettled nothing_kept h
none_acts_settled h whole none = settled_by_marks nothing_kept h whole (λ n t o ended. none n (acts_by_cut h n o (is_cut_of h n t ended)))
    (λ c d. none c (acts_by_closing h c (close_due_of h c d))) (λ n made o is. none_is_due made (marks_of nothing_kept h n) n
    (false_from_ne_true (due_made h n made) (λ y. none n (acts_by_marks h n (due_made_at h n made o is ∙ y)))))

-- the list has all, so it has each part
pub marks_noted : (h : List Event) (list : List ℕ) → HasAll h list → IsCovered h list
marks_noted h list all n y = all n (acts_by_marks h n y)

pub cut_noted : (h : List Event) (list : List ℕ) → HasAll h list → HasCut h list
cut_noted h list all n o y = all n (acts_by_cut h n o y)

pub left_noted : (h : List Event) (list : List ℕ) → HasAll h list → HasLeft h list
left_noted h list all c y = all c (acts_by_closing h c y)

-- what is noted, one more at a time
pub keeps_more : (list : List ℕ) (p : ℕ) → Keeps list (list ++ p ∷ [])
keeps_more list p n w = noted_more 0 list p n w

pub keeps_on : (a b c : List ℕ) → Keeps a b → Keeps b c → Keeps a c
keeps_on a b c one other n w = other n (one n w)

pub lost_keeps : (h : List Event) (s : ℕ) (connection before after : List ℕ) → IsLostNoted h s connection before → Keeps before after
    → IsLostNoted h s connection after
lost_keeps h s connection before after so_far keeps g c hub word = keeps c (so_far g c hub word)

pub lost_one : (h : List Event) (s p : ℕ) (connection list : List ℕ) → lost_connection h connection s ≡ Some p → IsLostNoted h s connection (list ++ p ∷ [])
lost_one h s p connection list found g c hub word = search (rules, same_Some, option_and_then, get_or, noted_last)

pub lost_none : (h : List Event) (s : ℕ) (connection list : List ℕ) → lost_connection h connection s ≡ None → IsLostNoted h s connection list
lost_none h s connection list none g c hub word = search (rules, none-some, option_and_then, get_or)

-- the list has the connection of the hub of each of the first i that were closed
abbrev HasLostTo : List Event → List ℕ → List ℕ → ℕ → List ℕ → Type 0
HasLostTo h closed connection i list = (k : ℕ) → k < i → IsLostNoted h (get_or closed k 0) connection list

pub lost_more : (h : List Event) (closed connection : List ℕ) {before after : List ℕ} (i : ℕ) → HasLostTo h closed connection i before
    → Keeps before after → IsLostNoted h (get_or closed i 0) connection after → HasLostTo h closed connection (i + 1) after
lost_more h closed connection {before} {after} i so_far keeps last k l = search (rules, cases_order, get_or, lost_keeps)

pub lost_all : (h : List Event) (closed connection list : List ℕ) (i : ℕ) → length closed ≤ i → HasLostTo h closed connection i list
    → HasLost h closed connection list
lost_all h closed connection list i over each s g c noted hub word = search rules

-- the subscribers of a hub, from the last down
module _ (h : List Event) (size : ℕ) (s : Subscribers) (g : ℕ) (w : AreLinked h size s) where
  pub noted_starts : (next : ℕ) (list : List ℕ) → next ≡ get_or s.last.items g 0 → (k : ℕ) → on_list h s.listed.items g k ≡ true → next ≤ k → IsNoted 0 list k
  noted_starts next list is k y l =
      let top : next ≡ last_below (on_list h s.listed.items g) (length h) = is ∙ (w.rows g).top in
      let within : k < length h = at_within (is_subscriber_of g) h k (and_parts (at (is_subscriber_of g) h k) (get_or s.listed.items k false) y).0 in
      absurd (both_ways _ (last_none (on_list h s.listed.items g) (length h) k (omega arith) within) y)

  pub noted_down : {next : ℕ} (word : ℕ) {list : List ℕ} → 0 < next
      → ((k : ℕ) → next ≡ suc k → on_list h s.listed.items g k ≡ true) → word ≡ get_or s.before.items (next - 1) 0
      → ((k : ℕ) → on_list h s.listed.items g k ≡ true → next ≤ k → IsNoted 0 list k)
      → (k : ℕ) → on_list h s.listed.items g k ≡ true → word ≤ k → IsNoted 0 (list ++ (next - 1) ∷ []) k
  noted_down {next} word {list} some here is so_far k y l = ⊎_elim (λ same. rw same (noted_last 0 list (next - 1) (omega arith))) (⊎_elim
      (λ below. let down : word ≡ last_below (on_list h s.listed.items g) (next - 1) = is ∙ (w.rows g).down (next - 1) (here (next - 1) (omega arith)) in
      absurd (both_ways _ (last_none (on_list h s.listed.items g) (next - 1) k (omega arith) below) y))
      (λ above. noted_more 0 list (next - 1) k (so_far k y (omega arith)))) (cases_order k (next - 1))

-- so each open one of the hub whose connection the event ends

pub ended_one : (h : List Event) (e : Event) (s : Subscribers) (g : ℕ) (list : List ℕ) → AreOpenListed h s → hub_ended h e ≡ Some g
    → ((k : ℕ) → on_list h s.listed.items g k ≡ true → IsNoted 0 list k) → HasEnded h e list
ended_one h e s g list listed hub all j k named subscribes alive = all k (rw (same_Some g j (sym hub ∙ named), subscribes, listed j k subscribes) alive)

pub ended_none : (h : List Event) (e : Event) (list : List ℕ) → hub_ended h e ≡ None → HasEnded h e list
ended_none h e list none g s hub subscribes alive = absurd (none-some g (sym none ∙ hub))

-- what is noted of one event: the list before, then with the nodes that its marks tell, with those whose source ends, and after all
pub record AreNoted (h : List Event) (e : Event) (closed connection before marked cut after : List ℕ) : Type 0 where
  pub marks_keep : Keeps before marked
  pub covered : IsCovered (h ++ e ∷ []) marked
  pub cut_keeps : Keeps marked cut
  pub ended : HasEnded h e cut
  pub left_keeps : Keeps cut after
  pub lost : HasLost h closed connection after
  pub new : IsNoted 0 after (length h)

-- so the list has all again
pub all_after : {h : List Event} {e : Event} {size : ℕ} {known : Hubs} {closed before marked cut after : List ℕ} → IsOneMore h e size known closed
    → HasAll h before → AreNoted h e closed known.connection.items before marked cut after → HasAll (h ++ e ∷ []) after
all_after {h} {e} {before} {marked} {cut} {after} one all noted =
    let from_marked : Keeps marked after = keeps_on marked cut after noted.cut_keeps noted.left_keeps in
    let from_before : Keeps before after = keeps_on before marked after noted.marks_keep from_marked in
    acts_noted (h ++ e ∷ []) after (λ n y. from_marked n (noted.covered n y))
    (cut_after e before after one.lawful one.next (cut_noted h before all) from_before
    (λ g s hub subscribes alive. noted.left_keeps s (noted.ended g s hub subscribes alive)))
    (left_after one (left_noted h before all) from_before noted.lost noted.new)
