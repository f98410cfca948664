-- What is due in a history is due in one that is the same but for its numbers.
use Rattle.rx_event.proofs.Laws.Common.{arith, ◌≡◌, ℕ, Bool, true, false, List, [], Option, Some, map, slice_get, refl, ap, subst, ◌∙◌, option_map_or}
use Rattle.rx_event.proofs.Laws.Common.{false≢true, same_Some, none-some, Terminal, Completed, Error, Kept, Place, Sub, Auto, Event, Open, Hub, Connect, End}
use Rattle.rx_event.proofs.Laws.Common.{is_mirroring, is_merging, is_until, is_auto_hub, is_subscriber_of, at, is_open, open_subscribers, open_connections}
use Rattle.rx_event.proofs.Laws.Common.{mirrored, fired, failed, completed, cut, left, connecting, due, SourceEnded, IsDue, IsForced, IsConnectDue, IsConnected}
use Rattle.rx_event.proofs.Laws.Common.{IsSettled, marks_of, event_by, AreRead, option_map, Marks, terminal_due, AreRenumbered}
use Rattle.rx_event.proofs.Laws.Openness.{is_open_within}
use Rattle.rx_event.proofs.Laws.Lawful.{due_open}
use Rattle.rx_event.proofs.Laws.Steps.{named_below}
use Rattle.rx_event.proofs.Laws.TreeRead.{AreTreesRead, subscribers_by, connections_by, subscriber_by, test_there}
use Rattle.rx_event.proofs.Laws.Stands.{event_at}
use Rattle.rx_event.proofs.Laws.Hubs.{subscriber_found}
use Rattle.rx_event.proofs.Laws.MarksDue.{terminal_due_due}
use Rattle.rx_event.proofs.Laws.OneEnd.{due_by_marks_alone}
use Rattle.std.proofs.Common.{rules}

-- what is due by the same marks is the same
terminal_due_by : (r : ℕ → ℕ) (e : Event) (m : Marks) → terminal_due (event_by r e) m ≡ terminal_due e m
terminal_due_by r e m = grind arith

-- no node of another sort is a subscriber
subscribes_only : (q : Event → Bool) → ((place : Place) (g : ℕ) → q (Open place (Sub g)) ≡ false) → (h : List Event) (n g : ℕ) → at q h n ≡ true →
    at (is_subscriber_of g) h n ≡ true → ⊥
subscribes_only q other h n g holds subscribes = search (rules, subscriber_found, slice_get, false≢true, option_map_or)

ended_by : (n : ℕ) (o : Option Terminal) (t : Terminal) → option_map (λ u. End n u) o ≡ Some (End n t) → o ≡ Some t
ended_by n x1 t same = search (rules, none-some, same_Some)

pub auto_hub : (h : List Event) (g : ℕ) → at is_auto_hub h g ≡ true → slice_get h g ≡ Some (Hub Auto)
auto_hub h g = search (rules, slice_get, option_map_or, Auto)

-- as trees ----------------------------------------------------------------------------------------------------

pub trees_of : {b d : Kept} {r s : ℕ → ℕ} {h c : List Event} → AreRead b d r s h c → AreTreesRead r s h c
trees_of {b} {h = h} a = search (rules, named_below)

pub read_back : {b d : Kept} {r s : ℕ → ℕ} {h c : List Event} → AreRead b d r s h c → AreRead d b s r c h
read_back a = record { law = a.other_law; other_law = a.law; there = a.back; back = a.there }

-- hubs --------------------------------------------------------------------------------------------------------

module _ (r s : ℕ → ℕ) (h c : List Event) (a : AreTreesRead r s h c) where
  pub unsubscribed_by : (g : ℕ) → s (r g) ≡ g → open_subscribers h g ≡ [] → open_subscribers c (r g) ≡ []
  unsubscribed_by g undone none = subscribers_by r s h c a g undone ∙ ap (map r) none

  pub unconnected_by : (g : ℕ) → s (r g) ≡ g → open_connections h g ≡ [] → open_connections c (r g) ≡ []
  unconnected_by g undone none = connections_by r s h c a g undone ∙ ap (map r) none

  auto_read : (g : ℕ) → at is_auto_hub h g ≡ true → at is_auto_hub c (r g) ≡ true
  auto_read g auto = rw (a.there.hub g Auto (auto_hub h g auto)) refl

  auto_undone : (g : ℕ) → at is_auto_hub h g ≡ true → s (r g) ≡ g
  auto_undone g auto = a.there.hub_undone g Auto (auto_hub h g auto)

  pub connect_due_by : ((n : ℕ) (t : Terminal) → is_open c n ≡ true → SourceEnded c n t → SourceEnded h (s n) t) → (g : ℕ) → IsConnectDue h g →
      IsConnectDue c (r g)
  connect_due_by ended g d = record {
    auto = auto_read g d.auto;
    subscriber = r d.subscriber;
    subscribes = test_there r s h c a (is_subscriber_of g) (is_subscriber_of (r g)) (subscriber_by r g (r g) refl) d.subscriber d.subscribed d.subscribes;
    subscribed = a.there.alive d.subscriber d.subscribed;
    waits = λ t x. d.waits t (subst (λ (n : ℕ). SourceEnded h n t) (a.there.undone d.subscriber d.subscribed)
        (ended (r d.subscriber) t (a.there.alive d.subscriber d.subscribed) x));
    unconnected = unconnected_by g (auto_undone g d.auto) d.unconnected;
  }

-- what is due -------------------------------------------------------------------------------------------------

module _ (b d : Kept) (r s : ℕ → ℕ) (h c : List Event) (a : AreRead b d r s h c) where
  by_marks : (n : ℕ) (t : Terminal) → ((g : ℕ) → at (is_subscriber_of g) h n ≡ true → ⊥) → IsDue b h (End n t) → IsDue d c (End (r n) t)
  by_marks n t plain due_here =
      let o : is_open h n ≡ true = due_open b due_here in
      let made : (e : Event) × (slice_get h n ≡ Some e) = event_at h n (is_open_within h n o) in
      let by = due_by_marks_alone a.law o made.1 (λ x. plain x.hub x.subscribes) due_here in
      let terminal : terminal_due made.0 (marks_of b h n) ≡ Some t = ended_by n (terminal_due made.0 (marks_of b h n)) t by in
      terminal_due_due d c (r n) (event_by r made.0) t (a.there.alive n o) (a.there.made n made.0 o made.1)
      (terminal_due_by r made.0 (marks_of d c (r n)) ∙ ap (terminal_due made.0) (a.there.marks n o) ∙ terminal)

  pub due_read : {e : Event} → IsDue b h e → IsDue d c (event_by r e)
  due_read (mirrored {p = n} {t = t} o m child) = by_marks n t (λ g. subscribes_only is_mirroring (λ place k. refl) h n g m) (mirrored o m child)
  due_read (fired {u = n} o m f) = by_marks n Completed (λ g. subscribes_only is_until (λ place k. refl) h n g m) (fired o m f)
  due_read (failed {f = n} {c = code} o m child) = by_marks n (Error code) (λ g. subscribes_only is_merging (λ place k. refl) h n g m) (failed o m child)
  due_read (completed {f = n} o m x q below w) = by_marks n Completed (λ g. subscribes_only is_merging (λ place k. refl) h n g m) (completed o m x q below w)
  due_read (cut {s = n} {t = t} o x) = cut (a.there.alive n o) (a.there.ended n t o x)
  due_read (left {c = n} {g = g} o at_n auto none) = left (a.there.alive n o) (a.there.made n (Connect g) o at_n) (auto_read r s h c (trees_of a) g auto)
      (unsubscribed_by r s h c (trees_of a) g (auto_undone r s h c (trees_of a) g auto) none)

-- what is forced ------------------------------------------------------------------------------------------

pub connect_due_read : {b d : Kept} {r s : ℕ → ℕ} {h c : List Event} → AreRead b d r s h c → (g : ℕ) → IsConnectDue h g → IsConnectDue c (r g)
connect_due_read {r = r} {s = s} {h = h} {c = c} a = connect_due_by r s h c (trees_of a) a.back.ended

pub renumbered_back : (base : Kept) → {r s : ℕ → ℕ} {h c : List Event} → AreRenumbered base r s h c → AreRenumbered base s r c h
renumbered_back base a = read_back a

pub connected_read : {b d : Kept} {r s : ℕ → ℕ} {h c : List Event} → AreRead b d r s h c → IsConnected h → IsConnected c
connected_read {s = s} a whole g d = whole (s g) (connect_due_read (read_back a) g d)

pub forced_read : {b d : Kept} {r s : ℕ → ℕ} {h c : List Event} → AreRead b d r s h c → {e : Event} → IsForced b h e → IsForced d c (event_by r e)
forced_read a (connecting {g = g} due_here) = connecting (connect_due_read a g due_here)
forced_read {b} {d} {r} {s} {h} {c} a (due whole due_here) = due (connected_read a whole) (due_read b d r s h c a due_here)

pub settled_read : {b d : Kept} {r s : ℕ → ℕ} {h c : List Event} → AreRead b d r s h c → IsSettled b h → IsSettled d c
settled_read {s = s} a settled = record { none = λ e f. settled.none (event_by s e) (forced_read (read_back a) f) }
