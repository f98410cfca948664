-- What is kept of the nodes and the hubs: of no events, and with another list of what may be due.
use Rattle.rx_audit.proofs.Common.{Hubs, HasAll, hub_connected_at, hub_ended_at, nothing_kept, IsLawful, Event, ◌≡◌, ℕ, ◌<◌, ◌≤◌, Bool, List, [], length}
use Rattle.rx_audit.proofs.Common.{Option, Some, sym, ◌∙◌, arith, get_or, slice_get, option_and_then, both_ways, false≢true, cases_lt, none-some, is_open}
use Rattle.rx_audit.proofs.Common.{is_open_past, Nodes, AreChildren, last_below, keyed, AreLinked, AreHubs, IsFollowed, IsKnown, false_from_ne_true, ⊎_elim}
use Rattle.std.proofs.lemmas.List.{get_or_past}
use Rattle.rx_audit.specs.Latest.{IsLatest}
use Rattle.rx_audit.proofs.KeysInRange.{connected_below}
use Rattle.rx_audit.proofs.Neighbours.{last_unique}
use Rattle.rx_audit.proofs.Latest.{is_key_of}
use Rattle.rx_audit.proofs.DueLists.{acts_open}
use Rattle.std.proofs.Common.{rules}

pub followed_nothing : (size : ℕ) (nodes : Nodes) → AreChildren [] size nodes.children → AreLinked [] size nodes.subscribers → AreLinked [] size nodes.nested
    → AreHubs [] size nodes.hubs → length nodes.marks.items ≡ size → IsFollowed [] size nodes
followed_nothing size nodes children linked nested hubs marks = record {
  children = children;
  linked = linked;
  listed = λ g k y. absurd (false≢true y);
  nested_linked = nested;
  nested_listed = λ g k y. absurd (false≢true y);
  hubs = hubs;
  marks_size = marks;
  kept = λ n o. absurd (both_ways (is_open [] n) (is_open_past [] n (omega arith)) o);
  covered = λ n y. absurd (both_ways (is_open [] n) (is_open_past [] n (omega arith)) (acts_open [] n y));
}

-- with another list of what may be due
pub known_due : {h : List Event} {live : List Bool} (old new : Nodes) → IsKnown h live old → new.children ≡ old.children → new.subscribers ≡ old.subscribers
    → new.nested ≡ old.nested → new.hubs ≡ old.hubs → new.marks ≡ old.marks → HasAll h new.due.items → IsKnown h live new
known_due old new k children subscribers nested hubs marks covered =
    let w = k.followed in
    record {
      lawful = k.lawful;
      tied = k.tied;
      room = k.room;
      followed = record {
        children = rw children w.children;
        linked = rw subscribers w.linked;
        listed = rw subscribers w.listed;
        nested_linked = rw nested w.nested_linked;
        nested_listed = rw nested w.nested_listed;
        hubs = rw hubs w.hubs;
        marks_size = rw marks w.marks_size;
        kept = rw marks w.kept;
        covered = covered;
      };
    }

-- the words of the hubs, also of numbers past the lists
any_word : (table : List ℕ) (key : ℕ → Option ℕ) (bound g word : ℕ) → IsLatest table key bound → ((k : ℕ) → key k ≡ Some g → g < length table)
    → word ≡ get_or table g 0 → word ≡ last_below (keyed key g) bound
any_word table key bound g word tied inside is = is ∙ ⊎_elim (λ l. tied g l)
    (λ l. get_or_past table g 0 l ∙ sym (last_unique (keyed key g) bound 0 (omega arith)
    (λ j m n. false_from_ne_true (keyed key g j) (λ y. let i = inside j (is_key_of (key j) g y) in omega arith)) (λ j e. absurd (omega arith))))
    (cases_lt g (length table))

ended_below : (h : List Event) → IsLawful nothing_kept h → (k g : ℕ) → hub_ended_at h k ≡ Some g → g < length h
ended_below h law k g named = search (rules, slice_get, option_and_then, length, none-some, connected_below)

module _ (h : List Event) (law : IsLawful nothing_kept h) (size : ℕ) (known : Hubs) (w : AreHubs h size known) (room : length h ≤ size) where
  pub connection_word : (g word : ℕ) → word ≡ get_or known.connection.items g 0 → word ≡ last_below (keyed (hub_connected_at h) g) (length h)
  connection_word g word is = any_word known.connection.items (hub_connected_at h) (length h) g word w.connection
      (λ k e. let s = w.connection_size in let b = connected_below h law k g e in omega arith) is

  pub ended_word : (g word : ℕ) → word ≡ get_or known.ended.items g 0 → word ≡ last_below (keyed (hub_ended_at h) g) (length h)
  ended_word g word is = any_word known.ended.items (hub_ended_at h) (length h) g word w.ended
      (λ k e. let s = w.ended_size in let b = ended_below h law k g e in omega arith) is
