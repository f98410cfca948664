-- One call on two histories that are the same but for their numbers leaves them so, whatever the order of what is forced in each.
use Rattle.rx_event.proofs.Laws.Common.{◌≡◌, ℕ, ◌+◌, ◌≤◌, true, false, List, [], ◌∷◌, ◌++◌, length, Option, map, slice_get, sym, ap, subst, ◌∙◌, arith}
use Rattle.rx_event.proofs.Laws.Common.{append_assoc, append-nil, length-append, option_map_or, Error, Kept, shown, Place, Pass, Event, Open, Hub, Connect}
use Rattle.rx_event.proofs.Laws.Common.{Accept, Use, Remove, Lease, Return, Item, Decline, End, Close, Take, makes_hub, at, open_connections, MayFollow}
use Rattle.rx_event.proofs.Laws.Common.{IsLawful, IsForcedOn, event_by, is_named, Opening, OpeningUsing, Holding, Applying, Removing, Leasing, GivingBack}
use Rattle.rx_event.proofs.Laws.Common.{Emitting, Ending, Aborting, Declining, Failing, Disposing, Publishing, Disconnecting, Taking, Call, IsStepOf}
use Rattle.rx_event.proofs.Laws.Common.{place_by, AreSameBy}
use Rattle.rx_event.specs.Lawful.{IsStep}
use Rattle.rx_event.specs.Calls.{Connecting}
use Rattle.rx_event.specs.Renumbered.{call_by, IsKnown, AreSameSince}
use Rattle.rx_event.proofs.Laws.Places.{slice_get_last}
use Rattle.rx_event.proofs.Laws.Lawful.{shown_within}
use Rattle.rx_event.proofs.Laws.Hubs.{one_open_connection}
use Rattle.rx_event.proofs.Laws.Starts.{lawful_front, lawful_last, lawful_begun}
use Rattle.rx_event.proofs.Laws.TreeRead.{hub_made, connections_by}
use Rattle.rx_event.proofs.Laws.ReadDue.{trees_of}
use Rattle.rx_event.proofs.Laws.ReadWhole.{GoesAlike, goes_nowhere, goes_one_on, courses_since, courses_same}

-- a call of one event
single : (base : Kept) → {r s : ℕ → ℕ} {h c : List Event} → AreSameBy base r s h c → (e : Event) (k j : List Event) → IsStep base h (e ∷ []) k →
    IsStep base c (event_by r e ∷ []) j → AreSameSince base r h c k j
single base {r = r} {h = h} {c = c} a e k j one other =
    let long = shown_within base h a.numbers.law in
    let long_there = shown_within base c a.numbers.other_law in
    let next = lawful_last base h e long (lawful_begun base one.forced (omega (arith, length-append h (e ∷ []))) one.lawful) in
    let also =
    lawful_last base c (event_by r e) long_there (lawful_begun base other.forced (omega (arith, length-append c (event_by r e ∷ []))) other.lawful) in
    courses_since k j (goes_one_on base (goes_nowhere base a) e next also) one.forced one.settled other.forced other.settled other.lawful

-- a node with its resource
using : (base : Kept) → {r s : ℕ → ℕ} {h c : List Event} → AreSameBy base r s h c → (place : Place) (tag : ℕ) (k j : List Event) →
    IsStep base h (Open place Pass ∷ Accept (length h) tag ∷ []) k →
    IsStep base c (Open (place_by r place) Pass ∷ Accept (length c) tag ∷ []) j → AreSameSince base r h c k j
using base {r = r} {s = s} {h = h} {c = c} a place tag k j one other =
    let longer : length (shown base) ≤ length (h ++ Open place Pass ∷ []) =
    let l = shown_within base h a.numbers.law in omega (arith, length-append h (Open place Pass ∷ [])) in
    let longer_there : length (shown base) ≤ length (c ++ Open (place_by r place) Pass ∷ []) =
    let l = shown_within base c a.numbers.other_law in omega (arith, length-append c (Open (place_by r place) Pass ∷ [])) in
    let course : IsForcedOn base ((h ++ Open place Pass ∷ []) ++ Accept (length h) tag ∷ []) k =
    subst (λ (q : List Event). IsForcedOn base q k) (sym (append_assoc h (Open place Pass ∷ []) (Accept (length h) tag ∷ []))) one.forced in
    let course_there : IsForcedOn base ((c ++ Open (place_by r place) Pass ∷ []) ++ Accept (length c) tag ∷ []) j =
    subst (λ (q : List Event). IsForcedOn base q j) (sym (append_assoc c (Open (place_by r place) Pass ∷ []) (Accept (length c) tag ∷ []))) other.forced in
    let law : IsLawful base ((h ++ Open place Pass ∷ []) ++ Accept (length h) tag ∷ []) =
    lawful_begun base course (omega (arith, longer, length-append (h ++ Open place Pass ∷ []) (Accept (length h) tag ∷ []))) one.lawful in
    let law_there : IsLawful base ((c ++ Open (place_by r place) Pass ∷ []) ++ Accept (length c) tag ∷ []) =
    lawful_begun base course_there (omega (arith, longer_there, length-append (c ++ Open (place_by r place) Pass ∷ []) (Accept (length c) tag ∷ [])))
    other.lawful in
    let opened : GoesAlike base r h c (h ++ Open place Pass ∷ []) (c ++ Open (place_by r place) Pass ∷ []) =
    goes_one_on base (goes_nowhere base a) (Open place Pass) (lawful_last base h (Open place Pass) (shown_within base h a.numbers.law)
    (lawful_front base (h ++ Open place Pass ∷ []) (Accept (length h) tag) longer law))
    (lawful_last base c (Open (place_by r place) Pass) (shown_within base c a.numbers.other_law)
    (lawful_front base (c ++ Open (place_by r place) Pass ∷ []) (Accept (length c) tag) longer_there law_there)) in
    let same_place : length h + 0 ≡ length h = omega arith in
    let same_there : length c + 0 ≡ length c = omega arith in
    let number : opened.since.reads (length h) ≡ length c = ap opened.since.reads (sym same_place) ∙
    opened.since.newest 0 (ap (λ (n : ℕ). option_map_or is_named (slice_get (h ++ Open place Pass ∷ []) n) false) same_place ∙
    ap (λ (x : Option Event). option_map_or is_named x false) (slice_get_last h (Open place Pass))) ∙ same_there in
    courses_since k j (subst (λ (m : ℕ). GoesAlike base r h c ((h ++ Open place Pass ∷ []) ++ Accept (length h) tag ∷ [])
    ((c ++ Open (place_by r place) Pass ∷ []) ++ Accept m tag ∷ [])) number
    (goes_one_on base opened (Accept (length h) tag) (lawful_last base (h ++ Open place Pass ∷ []) (Accept (length h) tag) longer law)
    (subst (λ (m : ℕ). MayFollow base (c ++ Open (place_by r place) Pass ∷ []) (Accept m tag)) (sym number)
    (lawful_last base (c ++ Open (place_by r place) Pass ∷ []) (Accept (length c) tag) longer_there law_there))))
    course one.settled course_there other.settled other.lawful

disconnecting : (base : Kept) → {r s : ℕ → ℕ} {h c : List Event} → AreSameBy base r s h c → (g : ℕ) → at makes_hub h g ≡ true → (k j : List Event) →
    IsStep base h (map (λ n. Close n) (open_connections h g)) k →
    IsStep base c (map (λ n. Close n) (open_connections c (r g))) j → AreSameSince base r h c k j
disconnecting base {r = r} {s = s} {h = h} {c = c} a g hub k j one other =
    let undone : s (r g) ≡ g = let w = hub_made h g hub in a.numbers.there.hub_undone g w.0 w.1 in
    by_list (open_connections h g) (one_open_connection base h a.numbers.law g) one
    (subst (λ (ms : List ℕ). IsStep base c (map (λ n. Close n) ms) j) (connections_by r s h c (trees_of a.numbers) g undone) other) where
      by_list : (ns : List ℕ) → length ns ≤ 1 → IsStep base h (map (λ n. Close n) ns) k → IsStep base c (map (λ n. Close n) (map r ns)) j →
          AreSameSince base r h c k j
      by_list [] few one other = courses_same a (subst (λ (q : List Event). IsForcedOn base q k) (append-nil h) one.forced) one.settled
          (subst (λ (q : List Event). IsForcedOn base q j) (append-nil c) other.forced) other.settled other.lawful
      by_list (n ∷ []) few one other = single base a (Close n) k j one other
      by_list (n ∷ m ∷ ns) few one other = absurd (omega arith)

-- One step after another stays the same but for numbers
pub steps_same : {base : Kept} {r s : ℕ → ℕ} {h c k j : List Event} (call : Call) → AreSameBy base r s h c → IsKnown h call → IsStepOf base h call k →
    IsStepOf base c (call_by r call) j → AreSameSince base r h c k j
steps_same {base} {k = k} {j = j} (Opening place kind) a known one other = single base a (Open place kind) k j one other
steps_same {base} {k = k} {j = j} (OpeningUsing place tag) a known one other = using base a place tag k j one other
steps_same {base} {k = k} {j = j} (Holding n tag) a known one other = single base a (Accept n tag) k j one other
steps_same {base} {k = k} {j = j} (Applying q) a known one other = single base a (Use q) k j one other
steps_same {base} {k = k} {j = j} (Removing q) a known one other = single base a (Remove q) k j one other
steps_same {base} {k = k} {j = j} (Leasing q) a known one other = single base a (Lease q) k j one other
steps_same {base} {k = k} {j = j} (GivingBack l) a known one other = single base a (Return l) k j one other
steps_same {base} {k = k} {j = j} (Emitting l v) a known one other = single base a (Item l v) k j one other
steps_same {base} {k = k} {j = j} (Ending l t) a known one other = single base a (End l t) k j one other
steps_same {base} {k = k} {j = j} (Aborting n code) a known one other = single base a (End n (Error code)) k j one other
steps_same {base} {k = k} {j = j} (Declining f) a known one other = single base a (Decline f) k j one other
steps_same {base} {k = k} {j = j} (Failing f code) a known one other = single base a (End f (Error code)) k j one other
steps_same {base} {k = k} {j = j} (Disposing n) a known one other = single base a (Close n) k j one other
steps_same {base} {k = k} {j = j} (Publishing mode) a known one other = single base a (Hub mode) k j one other
steps_same {base} {k = k} {j = j} (Connecting g) a known one other = single base a (Connect g) k j one other
steps_same {base} {k = k} {j = j} (Disconnecting g) a known one other = disconnecting base a g known k j one other
steps_same {base} {k = k} {j = j} (Taking q) a known one other = single base a (Take q) k j one other
