-- What is promised of checkpoints.
use Rattle.std.specs.Prelude.{◌≡◌, ◌↔◌, ◌-◌, ◌∷◌, ◌++◌}
use Rattle.rx_event.specs.Claims.Imports.{ℕ, List, [], slice_get, count_by, list_any, AllByRecursion, Terminal, Event, is_source_of}
use Rattle.rx_event.specs.Claims.Imports.{is_notifier_of, is_use_of, is_item, is_take, makes_resource, pays, source_opened, notifier_opened, uses}
use Rattle.rx_event.specs.Claims.Imports.{accepted_by, stops_of, moments, projections, owed, mail_of, completes_source, source_completed, item_count}
use Rattle.rx_event.specs.Claims.Imports.{accepted_count, taken_count, debt, IsConnectDue, IsForced, IsSettled, IsAllowed, Started, MayFollow, IsLawful, Kept}
use Rattle.rx_event.specs.Claims.Imports.{nothing_kept, shown, base_of, Mirrors, Fires, Fails, Completes, Cuts, Leaves, Agree}

-- two lawful stored histories that agree are followed by the same
pub record AgreeingGoOn (b : Kept) (h : List Event) (c : Kept) (k : List Event) (e : Event) : Type 0 where
  pub forced : IsForced b h e ↔ IsForced c k e
  pub allowed : IsAllowed b h e ↔ IsAllowed c k e
  pub follows : MayFollow b h e ↔ MayFollow c k e
  pub stops : MayFollow b h e → stops_of h e ≡ stops_of k e
  pub notes : MayFollow b h e → mail_of h e ≡ mail_of k e
  pub agree : MayFollow b h e → Agree b (h ++ e ∷ []) c (k ++ e ∷ [])

-- what each rule gives, by its own line alone
pub record EachRule (b : Kept) (h : List Event) (c : Kept) (k : List Event) : Type 0 where
  pub mirrors : (p : ℕ) (t : Terminal) → Mirrors h p t ↔ Mirrors k p t
  pub fires : (u : ℕ) → Fires h u ↔ Fires k u
  pub fails : (f code : ℕ) → Fails h f code ↔ Fails k f code
  pub completes : (f : ℕ) → Completes b h f ↔ Completes c k f
  pub cuts : (s : ℕ) (t : Terminal) → Cuts h s t ↔ Cuts k s t
  pub leaves : (n : ℕ) → Leaves h n ↔ Leaves k n
  pub connects : (g : ℕ) → IsConnectDue h g ↔ IsConnectDue k g

-- with nothing kept each word that reads a base is one of the list of events alone
pub record EmptyBase : Type 0 where
  pub shows : shown nothing_kept ≡ []
  pub started : Started nothing_kept
  pub sources : (h : List Event) (p : ℕ) → source_opened nothing_kept h p ≡ list_any (is_source_of p) h
  pub notifiers : (h : List Event) (p : ℕ) → notifier_opened nothing_kept h p ≡ list_any (is_notifier_of p) h
  pub completions : (h : List Event) (f : ℕ) → source_completed nothing_kept h f ≡ list_any (completes_source h f) h
  pub owes : (h : List Event) (f : ℕ) → owed nothing_kept h f ≡ projections h f - count_by (pays f) h
  pub used : (h : List Event) (r : ℕ) → uses nothing_kept h r ≡ count_by (is_use_of r) h
  pub accepts : (h : List Event) (r : ℕ) → accepted_by nothing_kept h r ≡ slice_get h r
  pub items : (h : List Event) → item_count nothing_kept h ≡ count_by is_item h
  pub accepted : (h : List Event) → accepted_count nothing_kept h ≡ count_by makes_resource h
  pub taken : (h : List Event) → taken_count nothing_kept h ≡ count_by is_take h
  pub lawful : (h : List Event) → IsLawful nothing_kept h ↔ AllByRecursion (λ m. MayFollow nothing_kept m.before m.event) (moments h)

pub record CheckpointsAgree : Type 0 where
  pub rules : (b : Kept) (h : List Event) (c : Kept) (k : List Event) → IsLawful b h → IsLawful c k → Agree b h c k → EachRule b h c k
  -- histories that agree owe the same to their closing
  pub debts : (b : Kept) (h : List Event) (c : Kept) (k : List Event) → Agree b h c k → debt b h ≡ debt c k
  -- and have one base
  pub one_base : (b : Kept) (h : List Event) (c : Kept) (k : List Event) → Agree b h c k → base_of b h ≡ base_of c k
  -- a history may begin with nothing: then it is the list of its events
  pub empty : EmptyBase
  -- and with the base of a lawful settled history, which agrees with it
  pub started : (b : Kept) (h : List Event) → IsLawful b h → IsSettled b h → Started (base_of b h)
  pub kept : (b : Kept) (h : List Event) → IsLawful b h → IsSettled b h → Agree b h (base_of b h) (shown (base_of b h))
  pub alike : (b : Kept) (h : List Event) (c : Kept) (k : List Event) → IsLawful b h → IsLawful c k → Agree b h c k → (e : Event) → AgreeingGoOn b h c k e
  -- so the history goes on lawfully by just the events by which its base does, and then they agree
  pub continued : (b : Kept) (h es : List Event) → IsLawful b h → IsSettled b h → IsLawful b (h ++ es) ↔ IsLawful (base_of b h) (shown (base_of b h) ++ es)
  pub after : (b : Kept) (h es : List Event) → IsLawful b h → IsSettled b h → IsLawful b (h ++ es) →
      Agree b (h ++ es) (base_of b h) (shown (base_of b h) ++ es)
