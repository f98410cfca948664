-- What each resource, lease and node met, by their numbers: what the lines are written from, with no event and no note kept.
use Rattle.std.specs.Prelude.{◌≡◌, ◌≤◌, ◌==◌, ℕ, [], ◌++◌, List, Option, None, nat_eq, slice_get}
use Rattle.std.specs.Prelude.{unwrap_or, option_and_then, map, filter, length, drop, count_by, if◌then◌else◌}
use Rattle.std.specs.List.{list_any}
use Rattle.std.specs.Option.{option_map_or}
use Rattle.std.specs.HashMap.{get}
use Rattle.std.specs.HashSet.{contains}
use Rattle.rx_event.specs.declared.event.Event.{Event}
use Rattle.rx_event.specs.declared.mail.Mail.{Mail}
use Rattle.rx_event.specs.Events.{makes_node, leased_of, is_take_of}
use Rattle.rx_event.specs.Kept.{nothing_kept}
use Rattle.rx_event.specs.Bases.{Agree}
use Rattle.rx_event.specs.Tree.{at}
use Rattle.rx_event.specs.Resources.{uses as uses_in, leases_of, is_out}
use Rattle.rx_event.specs.Notes.{notes as notes_in}
use Rattle.rx_event.specs.Lawful.{IsLawful}
use Rattle.rx_book.specs.State.{State, accepted_tag}
use Rattle.rx_script.specs.Lines.{is_told}
use Rattle.rx_script.specs.Repeated.{one_by_one}
use Rattle.rx_script.specs.declared.tallies.Tallies.{Tallies}

-- the resource of the lease, while that is out
abbrev pub leased_out : List Event → ℕ → Option ℕ
leased_out h l = if is_out h l then option_and_then leased_of (slice_get h l) else None

-- so many events and nodes, and by number: the nodes that are told something, the resources' tags, uses and leases out, each lease
-- that is out with its resource, and the resources that were handed out for their release
pub record AreCountsOf (h : List Event) (t : Tallies) : Type 0 where
  pub events : t.events ≡ length h
  pub nodes : t.nodes ≡ count_by makes_node h
  pub told : (n : ℕ) → contains nat_eq t.told n ≡ at is_told h n
  pub tags : (r : ℕ) → get nat_eq t.tags r ≡ option_and_then accepted_tag (slice_get h r)
  pub uses : (r : ℕ) → unwrap_or (get nat_eq t.uses r) 0 ≡ uses_in nothing_kept h r
  pub leases : (r : ℕ) → unwrap_or (get nat_eq t.leases r) 0 ≡ leases_of h r
  pub out : (l : ℕ) → get nat_eq t.out l ≡ leased_out h l
  pub taken : (r : ℕ) → contains nat_eq t.taken r ≡ list_any (is_take_of r) h

-- what each node was told by this mail, in order
abbrev pub AreNotesOf : List Mail → Tallies → Type 0
AreNotesOf mail t = (n : ℕ)
    → option_map_or (λ g. one_by_one g.items) (get nat_eq t.notes n) [] ≡ map (λ m. m.note) (filter (λ m. m.to == n) mail)

-- all that happened, and all that it told
pub record AreTalliesOf (h : List Event) (t : Tallies) : Type 0 where
  pub counts : AreCountsOf h t
  pub notes : AreNotesOf (notes_in h) t

-- h is the whole history of a book, from place 0, of which the front was counted: the events after that are all stored
pub record GoesOnFromFront (front h : List Event) (s : State) : Type 0 where
  pub stored : s.base.at_length ≤ length front
  pub rest : h ≡ front ++ drop (length front) s.history

-- counts of the front became those of the whole history, and notes those with all that the book had not handed out
pub record Gathers (old new : Tallies) (s : State) : Type 0 where
  pub counts : (front h : List Event) → AreCountsOf front old → GoesOnFromFront front h s → IsLawful nothing_kept h → AreCountsOf h new
  pub notes : (mail : List Mail) → AreNotesOf mail old → AreNotesOf (mail ++ drop s.given (notes_in s.history)) new

-- h is the whole history: these are its tallies, and what the book stores agrees with it
pub record IsWhole (h : List Event) (t : Tallies) (s : State) : Type 0 where
  pub tallies : AreTalliesOf h t
  pub agree : Agree nothing_kept h s.base s.history
