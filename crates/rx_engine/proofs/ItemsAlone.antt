-- An item that closed nothing stands last, and nothing waits behind it; behind one that closed something another event stands.
use Rattle.rx_event.proofs.Laws.Common.{◌≡◌, ℕ, ℤ, ◌-◌, ◌<◌, ◌≤◌, ◌&&◌, ◌||◌, ◌⊎◌, inl, inr, not, Bool, true, false}
use Rattle.rx_event.proofs.Laws.Common.{List, [], ◌∷◌, ◌++◌, length, map, refl, sym, ap, ◌∙◌, arith, subst}
use Rattle.rx_event.proofs.Laws.Common.{cases_order, false≢true, le-ltb, length-append, nat_lt}
use Rattle.rx_event.proofs.Laws.Common.{Kept, is_open, MayFollow}
use Rattle.std.proofs.Common.{if◌then◌else◌, None, slice_get}
use Rattle.rx_resource.specs.declared.Resource.{Ghosts}
use Rattle.rx_resource.specs.declared.token.Token.{Token}
use Rattle.rx_event.specs.declared.event.Event.{Event}
use Rattle.rx_event.specs.declared.event.Event.TheVariants.{Item, Take}
use Rattle.rx_event.specs.Events.{is_item}
use Rattle.rx_event.specs.Kept.{event_since}
use Rattle.rx_event.specs.Gone.{AreJust, goes}
use Rattle.rx_event.specs.Resources.{is_held, is_waiting}
use Rattle.rx_event.proofs.Laws.Dues.{IsDueOn, none_more, one_more, IsClosing, by_end, by_close, closing_of, was_open_on, forced_due_on}
use Rattle.rx_event.proofs.Laws.Openness.{open_before, is_open_unchanged, is_open_outside-end, is_open_outside-close}
use Rattle.rx_event.proofs.Laws.Places.{slice_get_last}
use Rattle.rx_event.proofs.Laws.Resources.{is_held_kept, is_waiting-unheld, is_waiting_new, is_waiting_past}
use Rattle.rx_event.proofs.Laws.Totals.{is_within_self}
use Rattle.rx_slots.specs.declared.Key.{Key}
use Rattle.rx_ground.specs.Shown.{Label}
use Rattle.rx_book.specs.State.{State as BookState, IsPromised as IsBookPromised}
use Rattle.rx_book.specs.Requests.{Request}
use Rattle.rx_roles.proofs.Laws.JustThose.{just_among}
use Rattle.rx_roles.proofs.Laws.NodesAfterStep.{first_follows, connected_after, taken_forces_none}
use Rattle.rx_roles.proofs.Laws.NodesGone.{goes_is}
use Rattle.rx_roles.specs.declared.roles.Role.{Role}
use Rattle.rx_roles.specs.declared.effect.Effect.{Effect}
use Rattle.rx_engine.specs.Handings.{is_some_item, is_item_last}
use Rattle.rx_engine.specs.Settlements.{all_given, Releases, none_released, one_released}
use Rattle.rx_engine.proofs.Laws.PlainCalls.{IsPlainCall, may_be, steps, tells}

-- where none passes the list is empty
none_just : {test : ℕ → Bool} (ns : List ℕ) → AreJust test ns → ((n : ℕ) → test n ≡ false) → ns ≡ []
none_just [] just none = refl
none_just {test} (n ∷ ns) just none = absurd (false≢true (sym (none n) ∙ just.each 0 0 (omega arith)))

none_mapped : {X : Type 0} (f : X → ℕ) (xs : List X) → map f xs ≡ [] → xs ≡ []
none_mapped f [] none = refl
none_mapped f (x ∷ xs) none = absurd (cc)

-- behind a closing its node is closed
closed_now : (base : Kept) {h : List Event} {e : Event} → IsClosing base h e → (c : ℕ) × (is_open h c ≡ true) × (is_open (h ++ e ∷ []) c ≡ false)
closed_now base {h} (by_end c {t = t} d o) = (c, o, is_open_outside-end h c t c ∙ rw (o, is_within_self h c) refl)
closed_now base {h} (by_close c g at_c none o) = (c, o, is_open_outside-close h c c ∙ rw (o, is_within_self h c) refl)

no_item : (base : Kept) {h : List Event} {e : Event} → IsClosing base h e → is_item e ≡ false
no_item base (by_end c d o) = refl
no_item base (by_close c g at_c none o) = refl

-- the last event
last_item : (base : Kept) (h : List Event) (e : Event) → is_item e ≡ false →
    is_some_item (event_since base (h ++ e ∷ []) (length (h ++ e ∷ []) - 1)) ≡ false
last_item base h e none = by_test (nat_lt (length (h ++ e ∷ []) - 1) base.at_length) where
  there : length (h ++ e ∷ []) - 1 ≡ length h
  there = let l = length-append h (e ∷ []) in omega (arith, l)

  by_test : (b : Bool) → is_some_item (if b then None else slice_get (h ++ e ∷ []) (length (h ++ e ∷ []) - 1)) ≡ false
  by_test true = refl
  by_test false = ap (λ (n : ℕ). is_some_item (slice_get (h ++ e ∷ []) n)) there ∙ ap is_some_item (slice_get_last h e) ∙ none

item_last : (base : Kept) (h : List Event) (leaf : ℕ) (value : ℤ) → base.at_length ≤ length h →
    is_some_item (event_since base (h ++ Item leaf value ∷ []) (length (h ++ Item leaf value ∷ []) - 1)) ≡ true
item_last base h leaf value begun =
    ap (λ (n : ℕ). is_some_item (event_since base (h ++ Item leaf value ∷ []) n)) there
    ∙ ap (λ (b : Bool). is_some_item (if b then None else slice_get (h ++ Item leaf value ∷ []) (length h))) (le-ltb (length h) base.at_length begun)
    ∙ ap is_some_item (slice_get_last h (Item leaf value)) where
      there : length (h ++ Item leaf value ∷ []) - 1 ≡ length h
      there = let l = length-append h (Item leaf value ∷ []) in omega (arith, l)

-- a taking puts no item last
released_last : {g : Ghosts Token} {by : ℕ} {s : BookState} {holds : List Role} {es : List Effect} {t : BookState} {holds' : List Role} {es' : List Effect} →
    Releases g by s holds es t holds' es' → is_item_last s ≡ false → is_item_last t ≡ false
released_last none_released none = none
released_last (one_released {t = m} {u = u} {number = number} before kept says) none =
    let forced = says.accepted.step.forced in
    let next = first_follows m.base m.history (Take number) u.history kept.lawful says.accepted.step.lawful forced in
    let grown = taken_forces_none m.base m.history number u.history kept.lawful kept.settled next forced in
    ap (λ (h : List Event). is_some_item (event_since u.base h (length h - 1))) grown ∙ last_item u.base m.history (Take number) refl

module _ {s mid : BookState} {asked : Request} {leaf : ℕ} {value : ℤ} (c : IsPlainCall s asked (Item leaf value) mid) where
  abbrev item : Event
  item = Item leaf value

  follows : MayFollow s.base s.history item
  follows = first_follows s.base s.history item mid.history c.promised.lawful c.accepts.step.lawful (steps c)

  due : IsDueOn s.base (s.history ++ item ∷ []) mid.history
  due = forced_due_on s.base (steps c)
      (connected_after s.base s.history item c.promised.lawful c.promised.settled (may_be s.base s.history item follows c.promised.settled refl) refl)

  gone : (n : ℕ) → goes s.history mid.history n ≡ (is_open s.history n && not (is_open mid.history n))
  gone = goes_is (tells c).makes

  -- nothing is forced, or the last event is no item, and its node is closed
  pub record IsClosedLast : Type 0 where
    pub none_last : is_item_last mid ≡ false
    pub node : ℕ
    pub goes_now : goes s.history mid.history node ≡ true

  pub alone_or_closed : (mid.history ≡ s.history ++ item ∷ []) ⊎ IsClosedLast
  alone_or_closed = by_due due refl where
    by_due : {k : List Event} → IsDueOn s.base (s.history ++ item ∷ []) k → mid.history ≡ k → (mid.history ≡ s.history ++ item ∷ []) ⊎ IsClosedLast
    by_due none_more is = inl is
    by_due (one_more {k = k} {e = e} on d) is =
        let closing = closing_of s.base d in
        let now = closed_now s.base closing in
        let was = open_before s.history item now.0 refl (was_open_on s.base on now.0 now.1) in
        inr (record {
          none_last = ap (λ (h : List Event). is_some_item (event_since mid.base h (length h - 1))) is ∙ last_item mid.base k e (no_item s.base closing);
          node = now.0;
          goes_now = gone now.0 ∙ rw (was, ap (λ (h : List Event). is_open h now.0) is ∙ now.2) refl;
        })

  both_not : (a b : Bool) → b ≡ a → (a && not b) ≡ false
  both_not true true same = refl
  both_not false b same = refl
  both_not true false same = absurd (false≢true same)

  none_closed : mid.history ≡ s.history ++ item ∷ [] → mid.closed ≡ []
  none_closed is = none_mapped (λ (k : Key). k.number) mid.closed (none_just (map (λ (k : Key). k.number) mid.closed) c.accepts.closed (λ n. gone n
      ∙ both_not (is_open s.history n) (is_open mid.history n) (ap (λ (h : List Event). is_open h n) is ∙ is_open_unchanged s.history item refl refl n)))

  -- where nothing was closed the item stands alone
  pub alone : mid.closed ≡ [] → mid.history ≡ s.history ++ item ∷ []
  alone none = by_case alone_or_closed where
    by_case : (mid.history ≡ s.history ++ item ∷ []) ⊎ IsClosedLast → mid.history ≡ s.history ++ item ∷ []
    by_case (inl is) = is
    by_case (inr other) =
        let just = subst (λ (ks : List Key). AreJust (goes s.history mid.history) (map (λ (k : Key). k.number) ks)) none c.accepts.closed in
        absurd (false≢true (just_among just other.node ∙ other.goes_now))

  -- and last
  pub alone_last : mid.closed ≡ [] → is_item_last (all_given mid) ≡ true
  alone_last none =
      ap (λ (h : List Event). is_some_item (event_since mid.base h (length h - 1))) (alone none)
      ∙ ap (λ (b : Kept). is_some_item (event_since b (s.history ++ item ∷ []) (length (s.history ++ item ∷ []) - 1))) c.accepts.base
      ∙ item_last s.base s.history leaf value c.promised.begun

  -- else another event does
  pub closed_last : (0 < length mid.closed) → is_item_last mid ≡ false
  closed_last some = by_case alone_or_closed where
    by_case : (mid.history ≡ s.history ++ item ∷ []) ⊎ IsClosedLast → is_item_last mid ≡ false
    by_case (inr other) = other.none_last
    by_case (inl is) = absurd (let z = ap (length {A = Key}) (none_closed is) in omega (arith, some, z))

  pub settled_last : {g : Ghosts Token} {by : ℕ} {holds : List Role} {es : List Effect} {t : BookState} {holds' : List Role} {es' : List Effect} →
      (0 < length mid.closed) → Releases g by (all_given mid) holds es t holds' es' → is_item_last t ≡ false
  settled_last some releases = released_last releases (closed_last some)

  -- nothing waits behind it, where nothing did
  none_lost : (w k l : Bool) → w ≡ false → l ≡ k → ((w || (k && not l)) && not false) ≡ false
  none_lost false true true none same = refl
  none_lost false false l none same = refl
  none_lost false true false none same = absurd (false≢true same)
  none_lost true k l none same = absurd (false≢true (sym none))

  waiting_same : ((r : ℕ) → is_waiting s.history r ≡ false) → (r : ℕ) → is_waiting (s.history ++ item ∷ []) r ≡ false
  waiting_same none r = by_place (cases_order r (length s.history)) where
    by_place : (r ≡ length s.history) ⊎ ((r < length s.history) ⊎ (length s.history < r)) → is_waiting (s.history ++ item ∷ []) r ≡ false
    by_place (inl same) = ap (is_waiting (s.history ++ item ∷ [])) same ∙ is_waiting_new s.base s.history item c.promised.lawful follows
    by_place (inr (inl l)) = is_waiting-unheld s.base s.history item c.promised.lawful follows r l
        ∙ none_lost (is_waiting s.history r) (is_held s.history r) (is_held (s.history ++ item ∷ []) r) (none r)
        (is_held_kept {base = s.base} {h = s.history} item c.promised.lawful r l refl refl refl refl)
    by_place (inr (inr g)) = is_waiting_past (s.history ++ item ∷ []) r (let l = length-append s.history (item ∷ []) in omega (arith, l, g))

  pub none_waits : IsBookPromised mid → mid.closed ≡ [] → s.waiting ≡ [] → mid.waiting ≡ []
  none_waits kept none was =
      let before = subst (λ (ls : List Label). AreJust (is_waiting s.history) (map (λ (l : Label). l.number) ls)) was c.promised.waiting in
      none_mapped (λ (l : Label). l.number) mid.waiting (none_just (map (λ (l : Label). l.number) mid.waiting) kept.waiting
      (λ r. ap (λ (h : List Event). is_waiting h r) (alone none) ∙ waiting_same (λ n. sym (just_among before n)) r))
