-- After an event that ends no node, declines nothing and fires none, no node is due to end that was not before. Where it closes none
-- either, nothing is forced that was not, but the connection of a new subscriber's hub.
use Rattle.rx_event.proofs.Laws.Common.{◌≡◌, ℕ, ◌<◌, Bool, true, false, List, [], ◌∷◌, ◌++◌, length, Option, Some, None, slice_get, refl, sym, ap, subst, ◌∙◌}
use Rattle.rx_event.proofs.Laws.Common.{inl, inr, ◌⊎◌, arith, length-append, not, ◌&&◌, list_any, false≢true, cases_order, both_ways, and_parts, and_from}
use Rattle.rx_event.proofs.Laws.Common.{eq-eqb, same_Some, none-some, Terminal, Completed, Error, Kept, Place, Kind, Sub, Event, Open, Connect, End}
use Rattle.rx_event.proofs.Laws.Common.{Close, is_auto_hub, is_manual_hub, is_subscriber_of, at, places, is_open, open_subscribers, open_connections}
use Rattle.rx_event.proofs.Laws.Common.{is_firing_of, stops_of, marks_of, due_at, mirrored, fired, failed, completed, cut, left, connecting, due, SourceEnded}
use Rattle.rx_event.proofs.Laws.Common.{IsDue, IsForced, IsConnectDue, IsConnected, IsSettled, forced, stays, more, MayFollow, IsLawful}
use Rattle.rx_event.proofs.Laws.Common.{IsForcedOn, option_map, hub_subscribed, terminal_due}
use Rattle.rx_event.specs.Claims.Stays.{ends_or_declines, FiresNone, ClosesNone, ConnectsAtMost, is_done, is_waiting_for}
use Rattle.rx_event.proofs.Laws.Lists.{first_passes, filter_nonempty}
use Rattle.rx_event.proofs.Laws.Places.{slice_get-append, slice_get_last, at-append, at_within}
use Rattle.rx_event.proofs.Laws.Openness.{shuts_none, is_open_within, is_open_kept, is_open_cut, self_cut, stays_closed_after}
use Rattle.rx_event.proofs.Laws.Lawful.{IsLawful-push}
use Rattle.rx_event.proofs.Laws.Steps.{may_close, forced_kind}
use Rattle.rx_event.proofs.Laws.Totals.{is_open_new}
use Rattle.rx_event.proofs.Laws.Hubs.{connection_hub}
use Rattle.rx_event.proofs.Laws.Waits.{closes_none, is_both, settled_connected, kept_unsubscribed, kept_subscribed, connected_first}
use Rattle.rx_event.proofs.Laws.MarksDue.{terminal_due_due}
use Rattle.rx_event.proofs.Laws.OneEnd.{ends_as, completes, ends_so, completes_one, fires_it, IsReason, due_before}
use Rattle.std.proofs.Common.{rules}

-- ends --------------------------------------------------------------------------------------------

-- no node is due to end
abbrev pub EndsNone : (base : Kept) → List Event → Type 0
EndsNone base h = (n : ℕ) (t : Terminal) → ¬ IsDue base h (End n t)

-- after such an event what is due to end was so before
pub due_calm : {base : Kept} {h : List Event} {e : Event} → IsLawful base h → MayFollow base h e → ends_or_declines e ≡ false → FiresNone h e →
    {n : ℕ} {t : Terminal} → IsDue base (h ++ e ∷ []) (End n t) → IsDue base h (End n t)
due_calm {base} {h} {e} law next calm unfired {n} {t} d = by_reason (due_before base h e law next n t d) where
  ends_calm : (x : Event) → ends_or_declines x ≡ false → ends_as x ≡ Some t → ⊥
  ends_calm (End c u) still now = false≢true (sym still)
  ends_calm _ still now = none-some t now

  completes_calm : (x : Event) → ends_or_declines x ≡ false → completes x ≡ true → ⊥
  completes_calm x0 still now = search (rules, false≢true)

  by_reason : IsDue base h (End n t) ⊎ IsReason h e n t → IsDue base h (End n t)
  by_reason (inl before) = before
  by_reason (inr (ends_so now)) = absurd (ends_calm e calm now)
  by_reason (inr (completes_one now whole)) = absurd (completes_calm e calm now)
  by_reason (inr (fires_it now whole)) = absurd (both_ways (list_any (is_firing_of n) (stops_of h e)) (unfired n) now)

-- so no node is, where none was
pub ends_none_on : (base : Kept) → (h : List Event) (e : Event) → IsLawful base h → MayFollow base h e → ends_or_declines e ≡ false → FiresNone h e →
    EndsNone base h → EndsNone base (h ++ e ∷ [])
ends_none_on base h e law next calm unfired ends_none n t d = ends_none n t (due_calm law next calm unfired d)

pub settled_ends_none : (base : Kept) → (h : List Event) → IsSettled base h → EndsNone base h
settled_ends_none base h settled n t d = settled.none (End n t) (due (settled_connected base h settled) d)

-- where no node is due to end, no marks of an open node give an event
quiet_ends_none : (base : Kept) → (h : List Event) → EndsNone base h → (n : ℕ) (made : Event) → is_open h n ≡ true → slice_get h n ≡ Some made →
    due_at made (marks_of base h n) n ≡ None
quiet_ends_none base h ends_none n made o at_n = by_terminal (terminal_due made (marks_of base h n)) refl where
  by_terminal : (u : Option Terminal) → terminal_due made (marks_of base h n) ≡ u → option_map (λ t. End n t) u ≡ None
  by_terminal None found = refl
  by_terminal (Some t) found = absurd (ends_none n t (terminal_due_due base h n made t o at_n found))

-- so none do after such an event
pub quiet_on : {base : Kept} {h : List Event} {e : Event} → IsLawful base h → MayFollow base h e → IsSettled base h → ends_or_declines e ≡ false →
    FiresNone h e → (n : ℕ) {made : Event} → is_open (h ++ e ∷ []) n ≡ true →
    slice_get (h ++ e ∷ []) n ≡ Some made → due_at made (marks_of base (h ++ e ∷ []) n) n ≡ None
quiet_on {base} {h} {e} law next settled calm unfired n {made} o at_n = search (rules, quiet_ends_none, ends_none_on, settled_ends_none)

-- connections that nobody uses ----------------------------------------------------------------------

-- an open connection of a RefCount hub that has no open subscriber
pub record IsUnused (h : List Event) (c g : ℕ) : Type 0 where
  pub alive : is_open h c ≡ true
  pub made : slice_get h c ≡ Some (Connect g)
  pub auto : at is_auto_hub h g ≡ true
  pub unsubscribed : open_subscribers h g ≡ []

abbrev pub HasNoUnused : List Event → Type 0
HasNoUnused h = (c g : ℕ) → ¬ IsUnused h c g

-- in a settled history there is none
pub settled_used : (base : Kept) → (h : List Event) → IsSettled base h → HasNoUnused h
settled_used base h settled c g u = settled.none (Close c) (due (settled_connected base h settled) (left u.alive u.made u.auto u.unsubscribed))

-- an open subscriber is among those of its hub
pub subscriber_listed : (h : List Event) (g s : ℕ) → at (is_subscriber_of g) h s ≡ true → is_open h s ≡ true → open_subscribers h g ≡ [] → ⊥
subscriber_listed h g s subscribes o none =
    let l : s < length h = is_open_within h s o in
    filter_nonempty (λ m. at (is_subscriber_of g) h m && is_open h m) 0 (length h) s (omega arith) (omega arith) (and_from _ _ subscribes o) none

-- a hub without an open one has none
pub none_subscribed : (h : List Event) (g : ℕ) → ((s : ℕ) → at (is_subscriber_of g) h s ≡ true → is_open h s ≡ true → ⊥) → open_subscribers h g ≡ []
none_subscribed h g none = by_list (open_subscribers h g) refl where
  passes : ℕ → Bool
  passes m = at (is_subscriber_of g) h m && is_open h m

  by_list : (ss : List ℕ) → open_subscribers h g ≡ ss → ss ≡ []
  by_list [] found = refl
  by_list (s ∷ ss) found =
      let parts = and_parts (at (is_subscriber_of g) h s) (is_open h s) (first_passes passes (places h) s ss found) in absurd (none s parts.0 parts.1)

-- what is open in a longer history was open
open_older : (h t : List Event) (n : ℕ) → n < length h → is_open (h ++ t) n ≡ true → is_open h n ≡ true
open_older h t n l o = search (rules, both_ways, stays_closed_after)

-- the subscribers of g that were open in h are open in k
abbrev pub KeepsSubscribers : List Event → List Event → ℕ → Type 0
KeepsSubscribers h k g = (s : ℕ) → at (is_subscriber_of g) h s ≡ true → is_open h s ≡ true → is_open k s ≡ true

-- then an older connection of g that nobody uses was so before
pub unused_older : {base : Kept} → (h t : List Event) {k : List Event} → k ≡ h ++ t → IsLawful base k → {c : ℕ} (g : ℕ) → IsUnused k c g → c < length h →
    KeepsSubscribers h k g → IsUnused h c g
unused_older {base} h t {k} grown law {c} g u l keeps = record {
  alive = open_older h t c l (ap (λ (q : List Event). is_open q c) (sym grown) ∙ u.alive);
  made = sym (slice_get-append h t c l) ∙ ap (λ (q : List Event). slice_get q c) (sym grown) ∙ u.made;
  auto = sym (at-append is_auto_hub h t g hub_older) ∙ ap (λ (q : List Event). at is_auto_hub q g) (sym grown) ∙ u.auto;
  unsubscribed = none_subscribed h g (λ s subscribes was. subscriber_listed k g s (ap (λ (q : List Event). at (is_subscriber_of g) q s) grown ∙
      at-append (is_subscriber_of g) h t s (is_open_within h s was) ∙ subscribes) (keeps s subscribes was) u.unsubscribed);
} where
  hub_older : g < length h
  hub_older = let older : g < c = connection_hub base k law g c u.made in omega arith

-- after an event that closes nothing only what it connects is unused that was not before
unused_new : {base : Kept} → (h : List Event) (e : Event) (c g : ℕ) → IsLawful base (h ++ e ∷ []) → ClosesNone h e → HasNoUnused h →
    IsUnused (h ++ e ∷ []) c g → e ≡ Connect g
unused_new h e c g law still used u = by_place (cases_order c (length h)) where
  by_place : (c ≡ length h) ⊎ ((c < length h) ⊎ (length h < c)) → e ≡ Connect g
  by_place (inl same) = same_Some e (Connect g) (sym (slice_get_last h e) ∙ ap (slice_get (h ++ e ∷ [])) (sym same) ∙ u.made)
  by_place (inr (inl l)) = absurd (used c g (unused_older h (e ∷ []) refl law g u l (λ s subscribes was. still s was)))
  by_place (inr (inr past)) = absurd (let w = is_open_within (h ++ e ∷ []) c u.alive in omega (arith, length-append h (e ∷ [])))

-- settled histories ---------------------------------------------------------------------------------

-- nothing is forced where no hub waits, no node is due to end and each connection is used
settled_undue : (base : Kept) → (h : List Event) → IsConnected h → EndsNone base h → HasNoUnused h → IsSettled base h
settled_undue base h none_waits ends_none used = record { none = none } where
  undue : {e : Event} → IsDue base h e → ⊥
  undue (mirrored {p = p} {t = t} o k e) = ends_none p t (mirrored o k e)
  undue (fired {u = u} o k e) = ends_none u Completed (fired o k e)
  undue (failed {f = f} {c = code} o k e) = ends_none f (Error code) (failed o k e)
  undue (completed {f = f} o k n e c w) = ends_none f Completed (completed o k n e c w)
  undue (cut {s = s} {t = t} o e) = ends_none s t (cut o e)
  undue (left {c = c} {g = g} o at_c a n) = used c g (record { alive = o; made = at_c; auto = a; unsubscribed = n })

  none : (e : Event) → IsForced base h e → ⊥
  none e (connecting {g = g} d) = none_waits g d
  none e (due n d) = undue d

-- what is connected after a settled history is a hub that a caller connects
connect_manual : (base : Kept) → {h : List Event} {g : ℕ} → IsSettled base h → MayFollow base h (Connect g) → at is_manual_hub h g ≡ true
connect_manual base settled x3 = search (rules)

-- what shuts nothing closes nothing
pub closes_none_kept : (h : List Event) (e : Event) → shuts_none e ≡ true → ClosesNone h e
closes_none_kept h e spares n was = is_open_kept h e n (is_open_within h n was) spares ∙ was

-- and what closes nothing is no closing
closes_none_by : (base : Kept) → (h : List Event) (e : Event) → MayFollow base h e → ends_or_declines e ≡ false → ClosesNone h e → closes_none e ≡ true
closes_none_by base h x2 next calm still = search (rules, false≢true, may_close, not, is_open_cut, is_open_within, both_ways, self_cut, eq-eqb)

-- After a calm event that closes nothing and subscribes to no hub nothing is forced, where nothing was before
pub settled_on : {base : Kept} {h : List Event} {e : Event} → IsLawful base h → MayFollow base h e → IsSettled base h → ends_or_declines e ≡ false →
    FiresNone h e → ClosesNone h e → hub_subscribed e ≡ None → IsSettled base (h ++ e ∷ [])
settled_on {base} {h} {e} law next settled calm unfired still unsubscribed =
    settled_undue base (h ++ e ∷ []) (kept_unsubscribed base h e law (settled_connected base h settled) (closes_none_by base h e next calm still) unsubscribed)
    (ends_none_on base h e law next calm unfired (settled_ends_none base h settled)) used
  where
    used : HasNoUnused (h ++ e ∷ [])
    used c g u =
        let is = unused_new h e c g (IsLawful-push base h e law next) still (settled_used base h settled) u in
        let manual = connect_manual base settled (subst (λ (x : Event). MayFollow base h x) is next) in
        is_both (slice_get h g) manual (sym (at-append is_auto_hub h (e ∷ []) g (at_within is_manual_hub h g manual)) ∙ u.auto)

-- to a settled history nothing is added
pub unforced : (base : Kept) → {h k : List Event} → IsForcedOn base h k → IsSettled base h → k ≡ h
unforced base stays settled = refl
unforced base (more {e = e} on f) settled = search (rules, unforced base on settled)

-- subscribers ---------------------------------------------------------------------------------------

-- where no other hub waits than that of s, and nothing else is due
connects_at_most : {base : Kept} → {h : List Event} (g s : ℕ) → IsLawful base h → EndsNone base h → HasNoUnused h → ((k : ℕ) → IsConnectDue h k → k ≡ g) →
    at (is_subscriber_of g) h s ≡ true → is_open h s ≡ true → ConnectsAtMost base h g
connects_at_most {base} {h} g s law ends_none used only subscribes o = by_test (at is_auto_hub h g) refl where
  still : ClosesNone h (Connect g)
  still = closes_none_kept h (Connect g) refl

  used_after : MayFollow base h (Connect g) → HasNoUnused (h ++ Connect g ∷ [])
  used_after next c k u =
      let is = unused_new h (Connect g) c k (IsLawful-push base h (Connect g) law next) still used u in
      let same : g ≡ k = cc in
      let subscribes_on = at-append (is_subscriber_of g) h (Connect g ∷ []) s (is_open_within h s o) ∙ subscribes in
      subscriber_listed (h ++ Connect g ∷ []) g s subscribes_on (still s o) (ap (open_subscribers (h ++ Connect g ∷ [])) same ∙ u.unsubscribed)

  alone : IsConnectDue h g → (e : Event) → IsForced base h e → e ≡ Connect g
  alone d e (connecting {g = k} w) = ap (λ q. Connect q) (only k w)
  alone d e (due none x) = absurd (none g d)

  waiting : IsConnectDue h g → ConnectsAtMost base h g
  waiting d =
      let next = forced (connecting d) in
      is_waiting_for (connecting d) (alone d)
      (settled_undue base (h ++ Connect g ∷ []) (connected_first base h g only) (ends_none_on base h (Connect g) law next refl (λ m. refl) ends_none)
      (used_after next))

  done : ((k : ℕ) → IsConnectDue h k → k ≡ g → ⊥) → ConnectsAtMost base h g
  done other = is_done (settled_undue base h (λ k d. other k d (only k d)) ends_none used)

  by_list : at is_auto_hub h g ≡ true → (cs : List ℕ) → open_connections h g ≡ cs → ConnectsAtMost base h g
  by_list auto [] found =
      let whole : (t : Terminal) → ¬ SourceEnded h s t = (λ t ended. ends_none s t (cut o ended)) in
      waiting (record { auto = auto; subscriber = s; subscribes = subscribes; subscribed = o; waits = whole; unconnected = found })
  by_list auto (c ∷ cs) found = done (λ k d same. let none : c ∷ cs ≡ [] = sym found ∙ ap (open_connections h) (sym same) ∙ d.unconnected in cc)

  by_test : (b : Bool) → at is_auto_hub h g ≡ b → ConnectsAtMost base h g
  by_test true auto = by_list auto (open_connections h g) refl
  by_test false manual = done (λ k d same. both_ways (at is_auto_hub h g) manual (ap (at is_auto_hub h) (sym same) ∙ d.auto))

-- what is opened is opened after a settled history
pub opened_settled : (base : Kept) → {h : List Event} {place : Place} {kind : Kind} → MayFollow base h (Open place kind) → IsSettled base h
opened_settled base x1 = search (rules, false≢true, forced_kind)

-- After the opening of a subscriber that closes nothing either nothing is forced, or just that its hub is connected, and then nothing
pub subscribed_on : {base : Kept} {h : List Event} {place : Place} {g : ℕ} → IsLawful base h → MayFollow base h (Open place (Sub g)) →
    ClosesNone h (Open place (Sub g)) → ConnectsAtMost base (h ++ Open place (Sub g) ∷ []) g
subscribed_on {base} {h} {place} {g} law next still =
    let settled = opened_settled base next in
    let law_on = IsLawful-push base h (Open place (Sub g)) law next in
    let ends_none = ends_none_on base h (Open place (Sub g)) law next refl (λ n. refl) (settled_ends_none base h settled) in
    let subscribes : at (is_subscriber_of g) (h ++ Open place (Sub g) ∷ []) (length h) ≡ true = rw (slice_get_last h (Open place (Sub g))) (eq-eqb g g refl) in
    connects_at_most g (length h) law_on ends_none
    (λ c k u. let is : Open place (Sub g) ≡ Connect k = unused_new h (Open place (Sub g)) c k law_on still (settled_used base h settled) u in cc)
    (kept_subscribed base h place g law (settled_connected base h settled)) subscribes (is_open_new base h (Open place (Sub g)) next)
