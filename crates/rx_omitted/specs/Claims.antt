-- What is promised of a history without what needs no engine: all else comes to the same.
use Rattle.std.specs.Prelude.{◌≡◌, ◌==◌, ◌&&◌, ◌<◌, ◌≤◌, ◌∷◌, ◌++◌}
use Rattle.rx_omitted.specs.Imports.{Option, [], ℕ, ℤ, Bool, true, false, List, None, Some, length, slice_get, take, map, filter, not, option_map, filter_map}
use Rattle.rx_omitted.specs.Imports.{IsTrue, Event, Item, Take}
use Rattle.rx_note.specs.declared.note.Note.{Note}
use Rattle.rx_event.specs.declared.mail.Mail.{Mail}
use Rattle.rx_event.specs.declared.refusal.Refusal.{Refusal}
use Rattle.rx_event.specs.declared.refusal.Refusal.TheVariants.{Full, TooMany}
use Rattle.rx_event.specs.Kept.{Kept, nothing_kept}
use Rattle.rx_event.specs.Bases.{base_of, accept_tag}
use Rattle.rx_event.specs.Tree.{is_open, open_nodes, open_connections, open_subscribers, hubs}
use Rattle.rx_event.specs.Resources.{is_owned, is_out, leases_of, leases_out, is_held, is_taken, is_waiting, held_resources, waiting_resources, uses}
use Rattle.rx_event.specs.Resources.{accepted_by}
use Rattle.rx_event.specs.Climb.{stops}
use Rattle.rx_event.specs.Notes.{notes, notes_to}
use Rattle.rx_event.specs.Marks.{marks_of}
use Rattle.rx_event.specs.Forced.{IsSettled}
use Rattle.rx_event.specs.Lawful.{IsLawful}
use Rattle.rx_event.specs.Calls.{Call, IsStepOf}
use Rattle.rx_event.specs.Refusals.{first_cause}
use Rattle.rx_event.specs.Causes.{causes}
use Rattle.rx_event.specs.Renumbered.{event_by, call_by}
use Rattle.rx_omitted.specs.Named.{named_in_call, Stay_all}
use Rattle.rx_omitted.specs.Omitted.{number, what_stays, reaches, MayOmit, HasOwnPlaces, IsOnlyHeard, IsLoneLeaf, is_at, is_of_leaf}

-- tags ------------------------------------------------------------------------------------------------------

-- the tag of the resource that the event takes
abbrev pub tag_taken : Kept → List Event → Event → Option ℕ
tag_taken b h (Take r) = option_map accept_tag (accepted_by b h r)
tag_taken b h _ = None

-- the tags that were released, in order
abbrev pub tags_released : Kept → List Event → List ℕ
tags_released b h = filter_map (tag_taken b h) h

-- notes -----------------------------------------------------------------------------------------------------

-- a note by the numbers of what stays, and whether its event stays
abbrev pub mail_by : (ℕ → Bool) → Mail → Mail
mail_by omit m = record { place = number omit m.place; to = number omit m.to; note = m.note }

abbrev pub is_kept_mail : (ℕ → Bool) → Mail → Bool
is_kept_mail omit m = not (omit m.place)

-- what n was told by the events that stay
abbrev pub notes_kept : (ℕ → Bool) → List Event → ℕ → List Note
notes_kept omit h n = map (λ m. m.note) (filter (λ m. (m.to == n) && is_kept_mail omit m) (notes h))

-- no item that is left out reaches n
abbrev pub HearsAll : (ℕ → Bool) → List Event → ℕ → Type 0
HearsAll omit h n = (i leaf : ℕ) (value : ℤ) → slice_get h i ≡ Some (Item leaf value) → IsTrue (omit i) → reaches n (stops (take i h) leaf) ≡ false

-- refusals ----------------------------------------------------------------------------------------------------

-- a cause of room: it may stand no more
abbrev pub is_of_room : Refusal → Bool
is_of_room Full = true
is_of_room TooMany = true
is_of_room _ = false

-- a call that names nothing left out is refused for the same causes, but for those of room, of which there are no more
pub record RefusedTheSame (base : Kept) (omit : ℕ → Bool) (h : List Event) (limit : ℕ) (is_fresh : Bool) (call : Call) : Type 0 where
  pub same : (why : Refusal) → is_of_room why ≡ false →
      causes base (what_stays omit h) limit is_fresh (call_by (number omit) call) why ≡ causes base h limit is_fresh call why
  pub no_more : (why : Refusal) → IsTrue (causes base (what_stays omit h) limit is_fresh (call_by (number omit) call) why) →
      IsTrue (causes base h limit is_fresh call why)
  -- so it is accepted where it was, and refused as it was but for want of room
  pub accepted : first_cause (causes base h limit is_fresh call) ≡ None →
      first_cause (causes base (what_stays omit h) limit is_fresh (call_by (number omit) call)) ≡ None
  pub refused : (why : Refusal) → is_of_room why ≡ false → first_cause (causes base h limit is_fresh call) ≡ Some why →
      first_cause (causes base (what_stays omit h) limit is_fresh (call_by (number omit) call)) ≡ Some why

-- all else ----------------------------------------------------------------------------------------------------

-- what stays is the same, by the numbers that are then its own
pub record ComesToTheSame (base : Kept) (omit : ℕ → Bool) (h : List Event) : Type 0 where
  pub lawful : IsLawful base (what_stays omit h)
  pub settled : IsSettled base h → IsSettled base (what_stays omit h)
  pub stands : (n : ℕ) → omit n ≡ false → slice_get (what_stays omit h) (number omit n) ≡ option_map (event_by (number omit)) (slice_get h n)
  pub long : length (what_stays omit h) ≡ number omit (length h)
  -- the same is open, connected and subscribed, and each node remembers the same
  pub same_open : (n : ℕ) → omit n ≡ false → is_open (what_stays omit h) (number omit n) ≡ is_open h n
  pub nodes : open_nodes (what_stays omit h) ≡ map (number omit) (filter (λ n. not (omit n)) (open_nodes h))
  pub all_hubs : hubs (what_stays omit h) ≡ map (number omit) (hubs h)
  pub connections : (g : ℕ) → omit g ≡ false → open_connections (what_stays omit h) (number omit g) ≡ map (number omit) (open_connections h g)
  pub subscribers : (g : ℕ) → omit g ≡ false → open_subscribers (what_stays omit h) (number omit g) ≡ map (number omit) (open_subscribers h g)
  pub marks : (n : ℕ) → omit n ≡ false → marks_of base (what_stays omit h) (number omit n) ≡ marks_of base h n
  -- the same is owned, leased, held, waits and was taken, each used as often
  pub owned : (r : ℕ) → omit r ≡ false → is_owned (what_stays omit h) (number omit r) ≡ is_owned h r
  pub leases : (r : ℕ) → omit r ≡ false → leases_of (what_stays omit h) (number omit r) ≡ leases_of h r
  pub held : (r : ℕ) → omit r ≡ false → is_held (what_stays omit h) (number omit r) ≡ is_held h r
  pub waiting : (r : ℕ) → omit r ≡ false → is_waiting (what_stays omit h) (number omit r) ≡ is_waiting h r
  pub taken : (r : ℕ) → omit r ≡ false → is_taken (what_stays omit h) (number omit r) ≡ is_taken h r
  pub used : (r : ℕ) → omit r ≡ false → uses base (what_stays omit h) (number omit r) ≡ uses base h r
  pub out : (l : ℕ) → omit l ≡ false → is_out (what_stays omit h) (number omit l) ≡ is_out h l
  pub all_held : held_resources (what_stays omit h) ≡ map (number omit) (held_resources h)
  pub all_waiting : waiting_resources (what_stays omit h) ≡ map (number omit) (waiting_resources h)
  pub all_out : leases_out (what_stays omit h) ≡ map (number omit) (leases_out h)
  -- the same tags were released, in the same order
  pub all_released : tags_released base (what_stays omit h) ≡ tags_released base h
  -- the notes are those of the events that stay, in order; so a node that no item left out reaches was told the same
  pub all_told : notes (what_stays omit h) ≡ map (mail_by omit) (filter (is_kept_mail omit) (notes h))
  pub told : (n : ℕ) → omit n ≡ false → notes_to (what_stays omit h) (number omit n) ≡ notes_kept omit h n
  pub told_all : (n : ℕ) → omit n ≡ false → HearsAll omit h n → notes_to (what_stays omit h) (number omit n) ≡ notes_to h n
  pub refusals : (limit : ℕ) (is_fresh : Bool) (call : Call) → Stay_all omit (named_in_call call) → RefusedTheSame base omit h limit is_fresh call

-- a lawful history without what may be left out
abbrev pub OmittingChangesNothingElse : Kept → Type 0
OmittingChangesNothingElse base = (omit : ℕ → Bool) (h : List Event) → HasOwnPlaces base → IsLawful base h → MayOmit base omit h → ComesToTheSame base omit h

-- calls one after another from h, and where they lead: of each all events are left out, or none
pub data RunsTo (base : Kept) (omit : ℕ → Bool) (h : List Event) : List Call → List Event → Type 0 where
  runs_none : RunsTo base omit h [] h
  call_stays : {calls : List Call} {k j : List Event} (call : Call) → RunsTo base omit h calls k → IsStepOf base k call j → Stay_all omit (named_in_call call) →
      ((i : ℕ) → length k ≤ i → i < length j → omit i ≡ false) → RunsTo base omit h (calls ++ call ∷ []) j
  call_goes : {calls : List Call} {k j : List Event} (call : Call) → RunsTo base omit h calls k → IsStepOf base k call j →
      ((i : ℕ) → length k ≤ i → i < length j → IsTrue (omit i)) → RunsTo base omit h calls j

-- so the calls that stay, by the new numbers, lead from what stays of h to what stays of k
abbrev pub CallsThatStayGoTheSame : Kept → Type 0
CallsThatStayGoTheSame base = (omit : ℕ → Bool) (h k : List Event) (calls : List Call) → HasOwnPlaces base → IsLawful base h → MayOmit base omit k →
    RunsTo base omit h calls k → RunsTo base (λ n. false) (what_stays omit h) (map (call_by (number omit)) calls) (what_stays omit k)

-- an item that is only heard may be left out
pub record ItemsMayBeOmitted (base : Kept) : Type 0 where
  pub may : (h : List Event) (k : ℕ) → HasOwnPlaces base → IsLawful base h → IsOnlyHeard base h k → MayOmit base (is_at k) h
  pub same : (h : List Event) (k : ℕ) → HasOwnPlaces base → IsLawful base h → IsOnlyHeard base h k → ComesToTheSame base (is_at k) h
  -- who is none of its stops was told the same
  pub others : (h : List Event) (k : ℕ) → HasOwnPlaces base → IsLawful base h → (heard : IsOnlyHeard base h k) → (n : ℕ) → is_at k n ≡ false →
      reaches n (stops (take k h) heard.leaf) ≡ false → notes_to (what_stays (is_at k) h) (number (is_at k) n) ≡ notes_to h n

-- and so may all of a root that is a leaf alone
pub record LeavesMayBeOmitted (base : Kept) : Type 0 where
  pub may : (h : List Event) (n : ℕ) → HasOwnPlaces base → IsLawful base h → IsLoneLeaf base h n → MayOmit base (is_of_leaf h n) h
  pub same : (h : List Event) (n : ℕ) → HasOwnPlaces base → IsLawful base h → IsLoneLeaf base h n → ComesToTheSame base (is_of_leaf h n) h
  -- each other node was told the same
  pub others : (h : List Event) (n : ℕ) → HasOwnPlaces base → IsLawful base h → IsLoneLeaf base h n → (m : ℕ) → is_of_leaf h n m ≡ false →
      notes_to (what_stays (is_of_leaf h n) h) (number (is_of_leaf h n) m) ≡ notes_to h m

-- the bases that there are
pub record BasesHaveOwnPlaces : Type 0 where
  pub empty : HasOwnPlaces nothing_kept
  pub checkpoint : (b : Kept) (h : List Event) → HasOwnPlaces (base_of b h)
