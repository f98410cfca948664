-- One order of what is forced: there is always one next, where anything is forced, and so one end of a step.
use Rattle.rx_event.proofs.Laws.Common.{◌≡◌, ℕ, ◌+◌, ◌<◌, Bool, true, false, List, [], ◌∷◌, length, Option, Some, None, cond, slice_get, refl, sym, ap, subst}
use Rattle.rx_event.proofs.Laws.Common.{◌∙◌, inl, inr, ◌⊎◌, nat_lt, arith, ◌&&◌, list_any, option_and_then, option_map_or, option_or, false≢true, and_parts}
use Rattle.rx_event.proofs.Laws.Common.{and_from, lt-ltb, eq-eqb, same_Some, none-some, slice_get_within, Terminal, Completed, Kept, Event, Connect, End, Close}
use Rattle.rx_event.proofs.Laws.Common.{is_mirroring, is_merging, is_until, is_auto_hub, is_subscriber_of, at, places, is_open, open_subscribers}
use Rattle.rx_event.proofs.Laws.Common.{open_connections, is_fired, mirrored, fired, cut, left, connecting, due, SourceEnded, IsDue, IsForced, IsConnectDue}
use Rattle.rx_event.proofs.Laws.Common.{IsConnected, IsSettled, child_terminal, marks_of, due_at, option_map, ltb-true, cond_some, hub_subscribed, first_forced}
use Rattle.rx_event.specs.Events.{hub_connected}
use Rattle.rx_event.specs.Marks.{first_some, is_over}
use Rattle.rx_event.specs.Canonical.{ends_connection, ends_source_at, source_end, is_nothing, is_nil, waits_at, Joining, Mirroring, Firing, Failing, Completing}
use Rattle.rx_event.specs.Canonical.{Cutting, Leaving, Rule, gives}
use Rattle.rx_event.proofs.Laws.Openness.{is_open_within}
use Rattle.rx_event.proofs.Laws.Places.{at_within}
use Rattle.rx_event.proofs.Laws.Hubs.{at_connect, subscriber_found}
use Rattle.rx_event.proofs.Laws.Searches.{first_found, first_none, list_any_found, list_any_holds}
use Rattle.rx_event.proofs.Laws.MarksFound.{child_terminal_some}
use Rattle.rx_event.proofs.Laws.MarksDue.{merging_due, settled_by_marks}
use Rattle.rx_event.proofs.Laws.Bases.{range_at}
use Rattle.std.proofs.Common.{rules}

pub place_get : (h : List Event) (i : ℕ) → i < length h → slice_get (places h) i ≡ Some i
place_get h i l = let same : 0 + i ≡ i = omega arith in range_at 0 (length h) i l ∙ ap (λ k. Some k) same

-- where nothing is found, nothing is given at a place
none_given : {Y : Type 0} (f : ℕ → Option Y) (h : List Event) → first_some f (places h) ≡ None → (n : ℕ) → n < length h → f n ≡ None
none_given f h none n l = first_none f (places h) none n n (place_get h n l)

-- a value under a test
if_some : {Y : Type 0} (b : Bool) (o : Option Y) (y : Y) → cond b o None ≡ Some y → (b ≡ true) × (o ≡ Some y)
if_some x0 o y same = search (rules, none-some)

-- how a source ended ---------------------------------------------------------------------------------------------------

connection_ends : (h : List Event) (g : ℕ) (e : Event) (t : Terminal) → ends_connection h g e ≡ Some t →
    (c : ℕ) × (e ≡ End c t) × (slice_get h c ≡ Some (Connect g))
connection_ends h g x2 t found = search (rules, cond_some, at_connect, none-some)

pub subscribed_event : (e : Event) (g : ℕ) → hub_subscribed e ≡ Some g → is_subscriber_of g e ≡ true
subscribed_event x0 g same = search (rules, eq-eqb, same_Some, none-some)

pub connected_event : (e : Event) (g : ℕ) → hub_connected e ≡ Some g → e ≡ Connect g
connected_event x0 g same = search (rules, same_Some, none-some)

source_found : {h : List Event} {s g place c : ℕ} {x : Event} (y : Event) (t : Terminal) → slice_get h s ≡ Some x → hub_subscribed x ≡ Some g → s < place →
    slice_get h place ≡ Some y → y ≡ End c t → slice_get h c ≡ Some (Connect g) → SourceEnded h s t
source_found {g} {place} {c} {x} y t at_s subscribes later at_place ends connects = record {
  hub = g;
  connection = c;
  place = place;
  subscribes = rw at_s (subscribed_event x g subscribes);
  connects = connects;
  later = later;
  ended = at_place ∙ ap (λ (z : Event). Some z) ends;
}

pub source_end_some : (h : List Event) (s : ℕ) (t : Terminal) → source_end h s ≡ Some t → SourceEnded h s t
unfolding source_end
source_end_some h s t found = search (rules, none-some, option_and_then, slice_get, first_found, if_some, nat_lt, connection_ends, source_found, ltb-true)

pub source_end_none : (h : List Event) (s : ℕ) (t : Terminal) → source_end h s ≡ None → ¬ SourceEnded h s t
unfolding source_end
source_end_none h s t none x =
    let found = subscriber_found x.hub (slice_get h s) x.subscribes in
    let hub : option_and_then hub_subscribed (slice_get h s) ≡ Some x.hub = ap (option_and_then hub_subscribed) found.1 in
    let rest : first_some (ends_source_at h s x.hub) (places h) ≡ None =
    sym (ap (option_and_then (λ g. first_some (ends_source_at h s g) (places h))) hub) ∙ none in
    let l : x.place < length h = slice_get_within h x.place _ x.ended in
    let here : ends_source_at h s x.hub x.place ≡ None = none_given (ends_source_at h s x.hub) h rest x.place l in
    let is : ends_source_at h s x.hub x.place ≡ Some t = rw (lt-ltb s x.place x.later, x.ended, x.connects, eq-eqb x.hub x.hub refl) refl in
    none-some t (sym here ∙ is)

nothing_none : {X : Type 0} (o : Option X) → is_nothing o ≡ true → o ≡ None
nothing_none o is = grind arith

nil_none : (xs : List ℕ) → is_nil xs ≡ true → xs ≡ []
nil_none xs is = grind arith

-- a hub that waits ---------------------------------------------------------------------------------------------------------

connecting_due : (base : Kept) → (h : List Event) (n : ℕ) (e : Event) → gives base h Joining n ≡ Some e → IsForced base h e
connecting_due base h n e found =
    let w : ((at is_auto_hub h n && list_any (waits_at h n) (places h) && is_nil (open_connections h n)) ≡ true) × (Some (Connect n) ≡ Some e) =
    if_some (at is_auto_hub h n && list_any (waits_at h n) (places h) && is_nil (open_connections h n)) (Some (Connect n)) e found in
    let parts : ((at is_auto_hub h n && list_any (waits_at h n) (places h)) ≡ true) × (is_nil (open_connections h n) ≡ true) =
    and_parts (at is_auto_hub h n && list_any (waits_at h n) (places h)) (is_nil (open_connections h n)) w.0 in
    let first : (at is_auto_hub h n ≡ true) × (list_any (waits_at h n) (places h) ≡ true) =
    and_parts (at is_auto_hub h n) (list_any (waits_at h n) (places h)) parts.0 in
    let waiting : (i : ℕ) × (s : ℕ) × (slice_get (places h) i ≡ Some s) × (waits_at h n s ≡ true) = list_any_found (waits_at h n) (places h) first.1 in
    let each : ((at (is_subscriber_of n) h waiting.1 && is_open h waiting.1) ≡ true) × (is_nothing (source_end h waiting.1) ≡ true) =
    and_parts (at (is_subscriber_of n) h waiting.1 && is_open h waiting.1) (is_nothing (source_end h waiting.1)) waiting.3 in
    let both : (at (is_subscriber_of n) h waiting.1 ≡ true) × (is_open h waiting.1 ≡ true) =
    and_parts (at (is_subscriber_of n) h waiting.1) (is_open h waiting.1) each.0 in
    let d : IsConnectDue h n =
    record {
      auto = first.0;
      subscriber = waiting.1;
      subscribes = both.0;
      subscribed = both.1;
      waits = λ t. source_end_none h waiting.1 t (nothing_none (source_end h waiting.1) each.1);
      unconnected = nil_none (open_connections h n) parts.1;
    } in
    subst (λ (x : Event). IsForced base h x) (same_Some (Connect n) e w.1) (connecting d)

unended : (h : List Event) (s : ℕ) → ((t : Terminal) → ¬ SourceEnded h s t) → is_nothing (source_end h s) ≡ true
unended h s none = by_end (source_end h s) refl where
  by_end : (o : Option Terminal) → source_end h s ≡ o → is_nothing o ≡ true
  by_end None found = refl
  by_end (Some t) found = absurd (none t (source_end_some h s t found))

pub none_connecting : (base : Kept) → (h : List Event) → first_some (gives base h Joining) (places h) ≡ None → IsConnected h
none_connecting base h none g d =
    let l : g < length h = at_within is_auto_hub h g d.auto in
    let here : gives base h Joining g ≡ None = none_given (gives base h Joining) h none g l in
    let k : d.subscriber < length h = is_open_within h d.subscriber d.subscribed in
    let waits : waits_at h g d.subscriber ≡ true = and_from _ _ (and_from _ _ d.subscribes d.subscribed) (unended h d.subscriber d.waits) in
    let any : list_any (waits_at h g) (places h) ≡ true =
    list_any_holds (waits_at h g) (places h) d.subscriber d.subscriber (place_get h d.subscriber k) waits in
    none-some (Connect g) (sym here ∙ rw (d.auto, any, d.unconnected) refl)

-- the other rules ------------------------------------------------------------------------------------------------------------

ends_at : (h : List Event) (n : ℕ) (b : Bool) (o : Option Terminal) (e : Event) → cond b (option_map (λ t. End n t) o) None ≡ Some e →
    (t : Terminal) × (b ≡ true) × (o ≡ Some t) × (End n t ≡ e)
ends_at h n x2 x3 e found = search (rules, same_Some, none-some)

mirroring_due : (base : Kept) → (h : List Event) (n : ℕ) (e : Event) → gives base h Mirroring n ≡ Some e → IsDue base h e
mirroring_due base h n e found = search (rules, ends_at, and_parts, mirrored, child_terminal_some)

firing_due : (base : Kept) → (h : List Event) (n : ℕ) (e : Event) → gives base h Firing n ≡ Some e → IsDue base h e
firing_due base h n e found = search (rules, if_some, and_parts, same_Some, fired)

failing_due : (base : Kept) → (h : List Event) (n : ℕ) (e : Event) → gives base h Failing n ≡ Some e → IsDue base h e
failing_due base h n e found = search (rules, ends_at, and_parts, merging_due, option_or)

completing_due : (base : Kept) → (h : List Event) (n : ℕ) (e : Event) → gives base h Completing n ≡ Some e → IsDue base h e
completing_due base h n e found = search (rules, if_some, and_parts, same_Some, merging_due, option_or, nothing_none)

cutting_due : (base : Kept) → (h : List Event) (n : ℕ) (e : Event) → gives base h Cutting n ≡ Some e → IsDue base h e
cutting_due base h n e found = search (rules, ends_at, cut, source_end_some)

connection_made : (o : Option Event) (g : ℕ) → option_and_then hub_connected o ≡ Some g → o ≡ Some (Connect g)
connection_made o g found = grind arith

leaving_due : (base : Kept) → (h : List Event) (n : ℕ) (e : Event) → gives base h Leaving n ≡ Some e → IsDue base h e
leaving_due base h n e found = by_hub (option_and_then hub_connected (slice_get h n)) refl parts.1 where
  unused : Option ℕ → Bool
  unused o = option_map_or (λ g. at is_auto_hub h g && is_nil (open_subscribers h g)) o false

  w : ((is_open h n && unused (option_and_then hub_connected (slice_get h n))) ≡ true) × (Some (Close n) ≡ Some e)
  w = if_some (is_open h n && unused (option_and_then hub_connected (slice_get h n))) (Some (Close n)) e found

  parts : (is_open h n ≡ true) × (unused (option_and_then hub_connected (slice_get h n)) ≡ true)
  parts = and_parts (is_open h n) (unused (option_and_then hub_connected (slice_get h n))) w.0

  by_hub : (o : Option ℕ) → option_and_then hub_connected (slice_get h n) ≡ o → unused o ≡ true → IsDue base h e
  by_hub None at_n is = absurd (false≢true is)
  by_hub (Some g) at_n is =
      let both = and_parts (at is_auto_hub h g) (is_nil (open_subscribers h g)) is in
      subst (λ (x : Event). IsDue base h x) (same_Some (Close n) e w.1)
      (left parts.0 (connection_made (slice_get h n) g at_n) both.0 (nil_none (open_subscribers h g) both.1))

-- what is found for a rule is due
found_due : (base : Kept) → (h : List Event) (rule : Rule) → ((n : ℕ) (e : Event) → gives base h rule n ≡ Some e → IsDue base h e) → (e : Event) →
    first_some (gives base h rule) (places h) ≡ Some e → IsDue base h e
found_due base h rule sound e found = let r = first_found (gives base h rule) (places h) e found in sound r.1 e r.3

-- the first of two answers
or_some : {Y : Type 0} (a b : Option Y) (y : Y) → option_or a b ≡ Some y → (a ≡ Some y) ⊎ ((a ≡ None) × (b ≡ Some y))
or_some x0 b y found = search rules

pub or_nothing_left : {Y : Type 0} (a b : Option Y) → option_or a b ≡ None → (a ≡ None) × (b ≡ None)
or_nothing_left x0 b none = search (rules, none-some)

abbrev search_by : (base : Kept) → (h : List Event) → Rule → Option Event
search_by base h rule = first_some (gives base h rule) (places h)

-- what comes first is forced
pub first_is_forced : (base : Kept) → (h : List Event) (e : Event) → first_forced base h ≡ Some e → IsForced base h e
unfolding first_forced
first_is_forced base h e found = by_connecting (or_some (first_some (gives base h Joining) (places h))
    (first_some (λ rule. first_some (gives base h rule) (places h)) (Mirroring ∷ Firing ∷ Failing ∷ Completing ∷ Cutting ∷ Leaving ∷ [])) e found)
  where
    by_leaving : option_or (first_some (gives base h Leaving) (places h)) None ≡ Some e → IsDue base h e
    by_leaving rest = by_or (or_some (first_some (gives base h Leaving) (places h)) None e rest) where
      by_or : (first_some (gives base h Leaving) (places h) ≡ Some e) ⊎ ((first_some (gives base h Leaving) (places h) ≡ None) × (None ≡ Some e)) →
          IsDue base h e
      by_or (inl here) = found_due base h Leaving (leaving_due base h) e here
      by_or (inr (none, no_more)) = absurd (none-some e no_more)

    by_rule : (rule : Rule) → ((n : ℕ) (x : Event) → gives base h rule n ≡ Some x → IsDue base h x) → (rest : Option Event) → (rest ≡ Some e → IsDue base h e) →
        option_or (first_some (gives base h rule) (places h)) rest ≡ Some e → IsDue base h e
    by_rule rule sound rest later given = by_or (or_some (first_some (gives base h rule) (places h)) rest e given) where
      by_or : (first_some (gives base h rule) (places h) ≡ Some e) ⊎ ((first_some (gives base h rule) (places h) ≡ None) × (rest ≡ Some e)) → IsDue base h e
      by_or (inl here) = found_due base h rule sound e here
      by_or (inr (none, more_here)) = later more_here

    by_connecting : (first_some (gives base h Joining) (places h) ≡ Some e) ⊎ ((first_some (gives base h Joining) (places h) ≡ None) ×
        (first_some (λ rule. first_some (gives base h rule) (places h)) (Mirroring ∷ Firing ∷ Failing ∷ Completing ∷ Cutting ∷ Leaving ∷ []) ≡ Some e)) →
        IsForced base h e
    by_connecting (inl here) = let r = first_found (gives base h Joining) (places h) e here in connecting_due base h r.1 e r.3
    by_connecting (inr (none, rest)) = due (none_connecting base h none) (by_rule Mirroring (mirroring_due base h) _ (by_rule Firing (firing_due base h) _
        (by_rule Failing (failing_due base h) _ (by_rule Completing (completing_due base h) _ (by_rule Cutting (cutting_due base h) _ by_leaving)))) rest)

-- nothing is given, so nothing is forced -----------------------------------------------------------------------------------------

no_end_at : (n : ℕ) (o : Option Terminal) → option_map (λ t. End n t) o ≡ None → o ≡ None
no_end_at n o none = grind arith

module _ (base : Kept) (h : List Event) (each : (rule : Rule) → first_some (gives base h rule) (places h) ≡ None) where
  at_node : (rule : Rule) (n : ℕ) → is_open h n ≡ true → gives base h rule n ≡ None
  at_node rule n o = none_given (gives base h rule) h (each rule) n (is_open_within h n o)

  no_source : (n : ℕ) (t : Terminal) → is_open h n ≡ true → ¬ SourceEnded h n t
  no_source n t o = source_end_none h n t
      (no_end_at n (source_end h n) (sym (ap (λ b. cond {A = Option Event} b (option_map (λ v. End n v) (source_end h n)) None) o) ∙ at_node Cutting n o))

  no_close : (c : ℕ) → ¬ IsDue base h (Close c)
  no_close c (left {g = g} o at_c auto none) = none-some (Close c) (sym (at_node Leaving c o) ∙ rw (o, at_c, auto, none) refl)

  no_mirrored : (n : ℕ) → is_open h n ≡ true → at is_mirroring h n ≡ true → child_terminal h n ≡ None
  no_mirrored n o m = no_end_at n (child_terminal h n)
      (sym (ap (λ b. cond {A = Option Event} b (option_map (λ v. End n v) (child_terminal h n)) None) (and_from _ _ o m)) ∙ at_node Mirroring n o)

  no_failed : (n : ℕ) → is_open h n ≡ true → at is_merging h n ≡ true → child_terminal h n ≡ None
  no_failed n o m = no_end_at n (child_terminal h n)
      (sym (ap (λ b. cond {A = Option Event} b (option_map (λ v. End n v) (child_terminal h n)) None) (and_from _ _ o m)) ∙ at_node Failing n o)

  no_fired : (n : ℕ) → is_open h n ≡ true → at is_until h n ≡ true → is_fired h n ≡ false
  no_fired n o u = by_test (is_fired h n) refl where
    by_test : (b : Bool) → is_fired h n ≡ b → b ≡ false
    by_test false is = refl
    by_test true is = absurd (none-some (End n Completed) (sym (at_node Firing n o) ∙ rw (o, u, is) refl))

  no_over : (n : ℕ) → is_open h n ≡ true → at is_merging h n ≡ true → is_over (marks_of base h n) ≡ false
  no_over n o m = by_test (is_over (marks_of base h n)) refl where
    by_test : (b : Bool) → is_over (marks_of base h n) ≡ b → b ≡ false
    by_test false is = refl
    by_test true is =
        let all : (is_open h n && at is_merging h n && is_nothing (child_terminal h n) && is_over (marks_of base h n)) ≡ true =
        and_from _ _ (and_from _ _ (and_from _ _ o m) (ap is_nothing (no_failed n o m))) is in
        absurd (none-some (End n Completed) (sym (at_node Completing n o) ∙ ap (λ b. cond {A = Option Event} b (Some (End n Completed)) None) all))

  quiet : (n : ℕ) (made : Event) → is_open h n ≡ true → slice_get h n ≡ Some made → due_at made (marks_of base h n) n ≡ None
  quiet n made o at_n = search (rules, option_map, slice_get, no_mirrored, option_or, no_fired, no_failed, no_over)

  settled_none : IsSettled base h
  settled_none = settled_by_marks base h (none_connecting base h (each Joining)) no_source no_close quiet

-- so nothing comes first only in a settled history
pub settled_by_order : (base : Kept) → (h : List Event) → first_forced base h ≡ None → IsSettled base h
unfolding first_forced
settled_by_order base h none = search (rules, settled_none, search_by, or_nothing_left)
