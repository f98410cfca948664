-- Taking, disposing, disconnecting and closing.
use Rattle.rx_book.proofs.Common.{◌≡◌, ◌<◌, ◌+◌, ◌-◌, ◌∷◌, [], ℕ, List, Bool, true, false, refl, sym, ap, subst, ◌∙◌, map, cond, length, filter, slice_get}
use Rattle.rx_book.proofs.Common.{⊎_elim, zero-add, arith, Some, None, count_by, All, Contains, list_all, option_and_then, option_map_or, and_parts}
use Rattle.rx_book.proofs.Common.{cases_order, false_from_ne_true, false≢true, both_ways, not, ◌++◌, ◌⊎◌, inl, inr, nat_lt, length-append, Kept}
use Rattle.rx_book.proofs.Common.{append_assoc, append-nil, sum_by-cons, All-cons, get_or-range_with_len, length-range_with_len, Event, Close}
use Rattle.rx_book.proofs.Common.{Refusal, makes_resource, makes_lease, is_take, is_manual_hub, at}
use Rattle.rx_book.proofs.Common.{places, is_open, open_connections, is_owned, is_out, is_held, waiting_resources, accepted_count, Key}
use Rattle.rx_book.proofs.Common.{taken_count, held_count, waiting_count, IsForcedOn, stays, more, Call, GivingBack, Disposing, Disconnecting, Taking, State}
use Rattle.rx_book.proofs.Common.{outside_of, IsStepOf, first_cause, is_open_root, IsLetGo, makes_neither, at_within, slice_get_last, held_is, is_open_past}
use Rattle.rx_book.proofs.Common.{may_be_forced, forced_kind, accepted_count-parts, nothing_open, has_connection, connects_none, connects_one, LeaseKey}
use Rattle.rx_book.proofs.Common.{is_connected_manual, AreJust, IsPromised, has_key, has_lease_key, Request, stands, give_back_request, dispose_request}
use Rattle.rx_book.proofs.Common.{disconnect_request, Accepts, Takes, none_taken, next_taken, LetsGo, none_let_go, next_let_go}
use Rattle.std.specs.Prelude.{find}
use Rattle.std.proofs.lemmas.Bool.{cases_lt, and_left}
use Rattle.rx_event.proofs.Laws.Leases.{is_out-push, is_out_within, is_out_past, out_lease, none_leased}
use Rattle.rx_event.proofs.Laws.Closings.{OpensNoneUpTo, makes_neither_opens, roots_before, let_go_after, manual_hub}
use Rattle.rx_book.proofs.Laws.StepsContinue.{count_by-append, step_longer}
use Rattle.std.proofs.Common.{rules}

-- counting -----------------------------------------------------------------------------------------

forced_no_take : (e : Event) → may_be_forced e ≡ true → is_take e ≡ false
forced_no_take x0 m = search rules

forced_no_accept : (e : Event) → may_be_forced e ≡ true → makes_resource e ≡ false
forced_no_accept x0 m = search rules

forced_count : (base : Kept) → (p : Event → Bool) → ((e : Event) → may_be_forced e ≡ true → p e ≡ false) → {h k : List Event} → IsForcedOn base h k →
    count_by p k ≡ count_by p h
forced_count base p never stays = refl
forced_count base p never (more {h} {k} {e} before is_forced) =
    search (rules, count_by, cond, forced_kind, base, count_by-append, forced_count base p never before)

step_count : (base : Kept) → (p : Event → Bool) → ((e : Event) → may_be_forced e ≡ true → p e ≡ false) → (h k : List Event) (call : Call) →
    IsStepOf base h call k → count_by p k ≡ count_by p h + count_by p (outside_of h call)
step_count base p never h k call step = forced_count base p never step.forced ∙ count_by-append p h (outside_of h call)

pub disposed_taken : (base : Kept) → (h k : List Event) (n : ℕ) → IsStepOf base h (Disposing n) k → taken_count base k ≡ taken_count base h
disposed_taken base h k n step = let e = step_count base is_take forced_no_take h k (Disposing n) step in omega arith

pub disposed_accepted : (base : Kept) → (h k : List Event) (n : ℕ) → IsStepOf base h (Disposing n) k → accepted_count base k ≡ accepted_count base h
disposed_accepted base h k n step = let e = step_count base makes_resource forced_no_accept h k (Disposing n) step in omega arith

pub taken_one : (base : Kept) → (h k : List Event) (r : ℕ) → IsStepOf base h (Taking r) k → taken_count base k ≡ taken_count base h + 1
taken_one base h k r step = let e = step_count base is_take forced_no_take h k (Taking r) step in omega arith

pub takes_accepted : (base : Kept) → {h k : List Event} → Takes base h k → accepted_count base k ≡ accepted_count base h
takes_accepted base none_taken = refl
takes_accepted base (next_taken {m} {k} {r} before step) =
    let e = step_count base makes_resource forced_no_accept m k (Taking r) step in let rest = takes_accepted base before in omega arith

pub returned_taken : (base : Kept) → (h k : List Event) (l : ℕ) → IsStepOf base h (GivingBack l) k → taken_count base k ≡ taken_count base h
returned_taken base h k l step = let e = step_count base is_take forced_no_take h k (GivingBack l) step in omega arith

pub returned_accepted : (base : Kept) → (h k : List Event) (l : ℕ) → IsStepOf base h (GivingBack l) k → accepted_count base k ≡ accepted_count base h
returned_accepted base h k l step = let e = step_count base makes_resource forced_no_accept h k (GivingBack l) step in omega arith

-- leases ---------------------------------------------------------------------------------------------

-- an event that gives out no lease
abbrev lends_none : Event → Bool
lends_none e = not (makes_lease e)

-- brings none anew
out_before : (h : List Event) (e : Event) → lends_none e ≡ true → (l : ℕ) → is_out (h ++ e ∷ []) l ≡ true → is_out h l ≡ true
out_before h e none l out = by_place (cases_order l (length h)) where
  no_lease : (b : Bool) → not b ≡ true → b ≡ false
  no_lease false n = refl
  no_lease true n = absurd (false≢true n)

  by_place : (l ≡ length h) ⊎ ((l < length h) ⊎ (length h < l)) → is_out h l ≡ true
  by_place (inl same) =
      let made : at makes_lease (h ++ e ∷ []) (length h) ≡ true = ap (at makes_lease (h ++ e ∷ [])) (sym same) ∙ out_lease (h ++ e ∷ []) l out in
      absurd (both_ways (makes_lease e) (no_lease (makes_lease e) none) (sym (ap (λ o. option_map_or makes_lease o false) (slice_get_last h e)) ∙ made))
  by_place (inr (inl less)) = (and_parts (is_out h l) _ (sym (is_out-push h e l less) ∙ out)).0
  by_place (inr (inr above)) = absurd (let w = is_out_within (h ++ e ∷ []) l out in omega (arith, length-append h (e ∷ [])))

out_before_all : (h es : List Event) → list_all lends_none es ≡ true → (l : ℕ) → is_out (h ++ es) l ≡ true → is_out h l ≡ true
out_before_all h [] none l out = subst (λ (k : List Event). is_out k l ≡ true) (append-nil h) out
out_before_all h (e ∷ es) none l out =
    let parts = and_parts (lends_none e) (list_all lends_none es) none in
    let later = subst (λ (k : List Event). is_out k l ≡ true) (sym (append_assoc h (e ∷ []) es)) out in
    out_before h e parts.0 l (out_before_all (h ++ e ∷ []) es parts.1 l later)

forced_no_lease : (e : Event) → may_be_forced e ≡ true → lends_none e ≡ true
forced_no_lease x0 m = search rules

forced_out : (base : Kept) → {h k : List Event} → IsForcedOn base h k → (l : ℕ) → is_out k l ≡ true → is_out h l ≡ true
forced_out base stays l out = out
forced_out base (more {h} {k} {e} before is_forced) l out = forced_out base before l (out_before k e (forced_no_lease e (forced_kind base is_forced)) l out)

step_out : (base : Kept) → {h k : List Event} (call : Call) → IsStepOf base h call k → list_all lends_none (outside_of h call) ≡ true →
    (l : ℕ) → is_out k l ≡ true → is_out h l ≡ true
step_out base {h} {k} call step none l out = out_before_all h (outside_of h call) none l (forced_out base step.forced l out)

takes_out : (base : Kept) → {h k : List Event} → Takes base h k → (l : ℕ) → is_out k l ≡ true → is_out h l ≡ true
takes_out base none_taken l out = out
takes_out base (next_taken {m} {k} {r} before step) l out = takes_out base before l (step_out base (Taking r) step refl l out)

pub disposed_out : (base : Kept) → {h k : List Event} (n : ℕ) → IsStepOf base h (Disposing n) k → (l : ℕ) → is_out k l ≡ true → is_out h l ≡ true
disposed_out base n step = step_out base (Disposing n) step refl

closings_lend_none : (cs : List ℕ) → list_all lends_none (map (λ c. Close c) cs) ≡ true
closings_lend_none [] = refl
closings_lend_none (c ∷ cs) = closings_lend_none cs

pub disconnected_out : (base : Kept) → {h k : List Event} (g : ℕ) → IsStepOf base h (Disconnecting g) k → (l : ℕ) → is_out k l ≡ true → is_out h l ≡ true
disconnected_out base {h} g step = step_out base (Disconnecting g) step (closings_lend_none (open_connections h g))

-- what a caller lets go --------------------------------------------------------------------------------

step_neither : (base : Kept) → {h k : List Event} (call : Call) → IsStepOf base h call k → list_all makes_neither (outside_of h call) ≡ true → OpensNoneUpTo h k
step_neither base {h} {k} call step neither = search (rules, makes_neither_opens, base)

takes_let_go : (base : Kept) → {h k : List Event} → Takes base h k → IsLetGo h → IsLetGo k
takes_let_go base none_taken free = free
takes_let_go base (next_taken {m} {k} {r} before step) free = let_go_after (step_neither base (Taking r) step refl) (takes_let_go base before free)

closings_neither : (cs : List ℕ) → list_all makes_neither (map (λ c. Close c) cs) ≡ true
closings_neither [] = refl
closings_neither (c ∷ cs) = closings_neither cs

-- a disconnection opens no root
pub roots_older : (base : Kept) → {h k : List Event} (g : ℕ) → IsStepOf base h (Disconnecting g) k → (n : ℕ) → is_open_root k n ≡ true → is_open_root h n ≡ true
roots_older base {h} g step = roots_before (step_neither base (Disconnecting g) step (closings_neither (open_connections h g)))

none_owned : (h : List Event) → ((n : ℕ) → is_open h n ≡ false) → (r : ℕ) → is_owned h r ≡ false
unfolding is_owned
none_owned h closed r = search (rules, option_map_or, and_left, option_and_then, slice_get)

counted_none : (p : ℕ → Bool) → ((n : ℕ) → p n ≡ false) → (ns : List ℕ) → count_by p ns ≡ 0
counted_none p never [] = refl
counted_none p never (n ∷ ns) = search (rules, cond, sum_by-cons, counted_none p never ns)

-- where nothing is open and no lease is out nothing is held
none_held : (h : List Event) → ((n : ℕ) → is_open h n ≡ false) → ((l : ℕ) → is_out h l ≡ false) → (r : ℕ) → is_held h r ≡ false
none_held h closed returned r = search (rules, none_leased, counted_none, held_is, none_owned, nat_lt)

-- a list whose numbers pass a test that nothing passes
none_listed : {A : Type 0} (number : A → ℕ) (test : ℕ → Bool) (xs : List A) → AreJust test (map number xs) → ((n : ℕ) → test n ≡ false) → xs ≡ []
none_listed number test [] just never = refl
none_listed number test (x ∷ xs) just never = absurd (both_ways _ (never (number x)) (just.each 0 (number x) (omega arith)))

-- a book that was closed --------------------------------------------------------------------------

pub closed_book : (mid new : State) → IsLetGo mid.history → ((l : ℕ) → is_out mid.history l ≡ false) → Takes mid.base mid.history new.history → IsPromised new →
    (new.keys ≡ []) × (new.held ≡ []) × (new.lease_keys ≡ [])
closed_book mid new free returned takes kept =
    let closed = nothing_open new.base new.history kept.lawful kept.settled (takes_let_go mid.base takes free) in
    let out : (l : ℕ) → is_out new.history l ≡ false =
    λ l. false_from_ne_true _ (λ found. both_ways (is_out mid.history l) (returned l) (takes_out mid.base takes l found)) in (
      none_listed (λ k. k.number) (is_open new.history) new.keys kept.keys closed,
      none_listed (λ b. b.number) (is_held new.history) new.held kept.held (none_held new.history closed out),
      none_listed (λ k. k.number) (is_out new.history) new.lease_keys kept.lease_keys out,
    )

-- what waited was taken, and so many were released
pub record IsDrainedTo (mid new : State) (released : ℕ) : Type 0 where
  pub base : new.base ≡ mid.base
  pub takes : Takes mid.base mid.history new.history
  pub none_waits : new.waiting ≡ []
  pub taken : taken_count new.base new.history ≡ taken_count mid.base mid.history + released

-- what was accepted and not yet taken is taken at last
pub closed_released : {old : State} (mid : State) {new : State} {released : ℕ} → IsPromised old → IsPromised new →
    accepted_count mid.base mid.history ≡ accepted_count old.base old.history → taken_count mid.base mid.history ≡ taken_count old.base old.history →
    IsDrainedTo mid new released → new.held ≡ [] → released ≡ held_count old.history + waiting_count old.history
closed_released {old} mid {new} before after accepted taken drained none_held =
    let parts = accepted_count-parts old.base old.history before.lawful in
    let all_accepted = takes_accepted mid.base drained.takes in
    let over = ap (λ (b : Kept). accepted_count b new.history) drained.base in
    let held_none : length new.held ≡ 0 = ap length none_held in
    let waits_none : length new.waiting ≡ 0 = ap length drained.none_waits in
    let rose = drained.taken in
    let whole = after.in_one_place in omega arith

filter_none : {A : Type 0} (p : A → Bool) (xs : List A) → ((x : A) → p x ≡ false) → filter p xs ≡ []
filter_none p [] never = refl
filter_none p (x ∷ xs) never = ap (λ b. cond b (x ∷ filter p xs) (filter p xs)) (never x) ∙ filter_none p xs never

-- letting go, and then more
pub lets_all : {s t u : State} → LetsGo s t → LetsGo t u → LetsGo s u
lets_all before none_let_go = before
lets_all before (next_let_go rest kept lets accepted) = next_let_go (lets_all before rest) kept lets accepted

none_numbered : {A : Type 0} (number : A → ℕ) (test : ℕ → Bool) (xs : List A) → AreJust test (map number xs) → xs ≡ [] → (n : ℕ) → test n ≡ false
none_numbered number test xs just empty n = search (rules, false_from_ne_true, length, map)

-- where no key is left nothing is open, and so a caller holds nothing open
pub shut_let_go : (s : State) → IsPromised s → s.keys ≡ [] → IsLetGo s.history
shut_let_go s kept none = search (rules, none_numbered, filter_none)

pub shut_none_out : (s : State) → IsPromised s → s.lease_keys ≡ [] → (l : ℕ) → is_out s.history l ≡ false
shut_none_out s kept none = none_numbered (λ k. k.number) (is_out s.history) s.lease_keys kept.lease_keys none

place_listed : (h : List Event) (n : ℕ) → n < length h → Contains (places h) n
place_listed h n within = search (rules, length, length-range_with_len, get_or-range_with_len, zero-add)

-- what a search finds ------------------------------------------------------------------------------

find_holds : {A : Type 0} (p : A → Bool) (xs : List A) (x : A) → find p xs ≡ Some x → p x ≡ true
find_holds p [] x found = absurd (cc)
find_holds p (y ∷ ys) x found =
    let branch : (b : Bool) → p y ≡ b → cond b (Some y) (find p ys) ≡ Some x → p x ≡ true =
    λ b. elim b as (λ b. p y ≡ b → cond b (Some y) (find p ys) ≡ Some x → p x ≡ true)
    [ true ↦ λ is here. let same : y ≡ x = cc in subst (λ z. p z ≡ true) same is | false ↦ λ is rest. find_holds p ys x rest ] in branch (p y) refl found

find_none : {A : Type 0} (p : A → Bool) (xs : List A) → find p xs ≡ None → All (λ x. p x ≡ false) xs
find_none p [] missing = λ k d lt. absurd (omega arith)
find_none p (x ∷ xs) missing =
    let branch : (b : Bool) → p x ≡ b → cond b (Some x) (find p xs) ≡ None → All (λ y. p y ≡ false) (x ∷ xs) =
    λ b. elim b as (λ b. p x ≡ b → cond b (Some x) (find p xs) ≡ None → All (λ y. p y ≡ false) (x ∷ xs))
    [ true ↦ λ is here. absurd (cc) | false ↦ λ is rest. All-cons (λ y. p y ≡ false) x xs is (find_none p xs rest) ] in branch (p x) refl missing

-- giving leases back -------------------------------------------------------------------------------

pub lease_found : (h : List Event) (l : ℕ) → Some l ≡ find (is_out h) (places h) → is_out h l ≡ true
lease_found h l found = find_holds (is_out h) (places h) l (sym found)

pub lease_missing : (h : List Event) → None ≡ find (is_out h) (places h) → (l : ℕ) → is_out h l ≡ false
lease_missing h missing l = ⊎_elim
    (λ within. let listed = place_listed h l within in ap (is_out h) (sym listed.2) ∙ find_none (is_out h) (places h) (sym missing) listed.0 l listed.1)
    (λ past. is_out_past h l past) (cases_lt l (length h))

-- no cause stands against giving back a lease that is out
pub returnable : (s : State) (k : LeaseKey) (why : Refusal) → has_lease_key s.lease_keys k ≡ true → is_out s.history k.number ≡ true →
    first_cause (stands s (give_back_request s k)) ≡ Some why → ⊥
returnable s k why known out cause = search rules

-- disposing of roots -------------------------------------------------------------------------------

pub root_found : (h : List Event) (n : ℕ) → Some n ≡ find (is_open_root h) (places h) → is_open_root h n ≡ true
root_found h n found = find_holds (is_open_root h) (places h) n (sym found)

pub root_missing : (h : List Event) → None ≡ find (is_open_root h) (places h) → (n : ℕ) → is_open_root h n ≡ false
root_missing h missing n = ⊎_elim (λ within. let listed = place_listed h n within in
    ap (is_open_root h) (sym listed.2) ∙ find_none (is_open_root h) (places h) (sym missing) listed.0 n listed.1)
    (λ past. and_left _ _ (is_open_past h n past)) (cases_lt n (length h))

-- no cause stands against the disposal of an open root
pub disposable : (s : State) (k : Key) (why : Refusal) → has_key s.keys k ≡ true → is_open_root s.history k.number ≡ true →
    first_cause (stands s (dispose_request s k)) ≡ Some why → ⊥
disposable s k why known root cause = search (rules, and_parts)

-- disconnecting ------------------------------------------------------------------------------------

no_closing_counted : (p : Event → Bool) → ((c : ℕ) → p (Close c) ≡ false) → (cs : List ℕ) → count_by p (map (λ c. Close c) cs) ≡ 0
no_closing_counted p never [] = refl
no_closing_counted p never (c ∷ cs) = search (rules, count_by, cond, map, count_by-append, no_closing_counted p never cs)

pub disconnected_taken : (base : Kept) → (h k : List Event) (g : ℕ) → IsStepOf base h (Disconnecting g) k → taken_count base k ≡ taken_count base h
disconnected_taken base h k g step =
    let e = step_count base is_take forced_no_take h k (Disconnecting g) step in
    let none = no_closing_counted is_take (λ c. refl) (open_connections h g) in omega arith

pub disconnected_accepted : (base : Kept) → (h k : List Event) (g : ℕ) → IsStepOf base h (Disconnecting g) k → accepted_count base k ≡ accepted_count base h
disconnected_accepted base h k g step =
    let e = step_count base makes_resource forced_no_accept h k (Disconnecting g) step in
    let none = no_closing_counted makes_resource (λ c. refl) (open_connections h g) in omega arith

pub hub_found : (h : List Event) (g : ℕ) → Some g ≡ find (is_connected_manual h) (places h) → is_connected_manual h g ≡ true
hub_found h g found = find_holds (is_connected_manual h) (places h) g (sym found)

-- where none is found each hub that a caller connects is disconnected
pub hub_missing : (h : List Event) → None ≡ find (is_connected_manual h) (places h) → (g : ℕ) → at is_manual_hub h g ≡ true → open_connections h g ≡ []
hub_missing h missing g manual =
    let within = at_within is_manual_hub h g manual in
    let listed = place_listed h g within in
    let out : is_connected_manual h g ≡ false =
    ap (is_connected_manual h) (sym listed.2) ∙ find_none (is_connected_manual h) (places h) (sym missing) listed.0 g listed.1 in
    let here : has_connection h g ≡ is_connected_manual h g = rw manual refl in connects_none h g (here ∙ out)

-- no cause stands against the disconnection of such a hub
pub disconnectable : (s : State) (g : ℕ) (why : Refusal) → is_connected_manual s.history g ≡ true → first_cause (stands s (disconnect_request g)) ≡ Some why → ⊥
disconnectable s g why found cause = search (rules, and_parts, manual_hub)

-- it closes something
pub closes_some : (h : List Event) (g : ℕ) → is_connected_manual h g ≡ true → 0 < length (outside_of h (Disconnecting g))
closes_some h g found = search (rules, connects_one, and_parts)

-- each step leaves less room
pub less_room : (old new : State) (asked : Request) → Accepts old asked new → IsPromised new → 0 < length (outside_of old.history asked.call) →
    new.base.at_length + new.limit - length new.history < old.base.at_length + old.limit - length old.history
less_room old new asked accepts kept some = search (rules, step_longer)

-- nothing waits where the list of what waits is empty
pub none_waits : (s : State) → IsPromised s → s.waiting ≡ [] → waiting_resources s.history ≡ []
none_waits s kept empty = search (rules, filter_none, false_from_ne_true, map, length)
