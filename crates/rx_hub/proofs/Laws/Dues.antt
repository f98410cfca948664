-- What is due at hubs is forced in every history whose hubs they are.
use Rattle.rx_hub.proofs.Common.{◌≡◌, ℕ, zero, suc, ◌<◌, ◌≤◌, ◌+◌, ◌==◌, ◌&&◌, ◌||◌, cond, Bool, true, false, List, [], ◌∷◌, length, slice_get, filter, Some}
use Rattle.rx_hub.proofs.Common.{Option, None, is_none, IfSome, refl, sym, ap, subst, ◌∙◌, inl, inr, ◌⊎◌, arith, true≢false, nat_lt, if◌then◌else◌, list_any}
use Rattle.rx_hub.proofs.Common.{range_with_len, AllByRecursion, option_map_or, option_or, option_to_list, not, cases_order, false≢true, or_right, nat_tests}
use Rattle.rx_hub.proofs.Common.{same_Some, none-some, Kept, Terminal, Mode, Auto, Event, Connect, Close, makes_hub, is_auto_hub, at, due}
use Rattle.rx_hub.proofs.Common.{is_subscriber_of, is_connect_of, places, is_open, open_subscribers, open_connections, IsForced, connecting, IsSettled, IsDue}
use Rattle.rx_hub.proofs.Common.{IsConnected, IsConnectDue, cut, left, SourceEnded, at_connect, filtered, first_passes, filter_nonempty, is_open_within, Key}
use Rattle.rx_hub.proofs.Common.{is_on, Slots, Node, AreRecordsOf, HubDue, LastEnd, IsDueIn, connects, acts, IsQuiet, NoneWaits, is_auto, is_cut, connect_of}
use Rattle.rx_hub.proofs.Common.{cut_of, left_of, due_of, Hub, Hubs, IsPromised, numbers, EndsConnection, IsUpTo, IsHubOf, AreHubsOf}
use Rattle.rx_event.specs.declared.event.Event.TheVariants.{Hub as Publish}
use Rattle.rx_event.proofs.Laws.Searches.{list_any_found}
use Rattle.rx_hub.specs.Operators.{IsQuiet as IsQuietTree}
use Rattle.rx_hub.proofs.Laws.DuesInTree.{quiet_settled}
use Rattle.rx_hub.specs.declared.hub.HubDue.TheVariants.{Connect as ConnectDue, End as EndDue, Close as CloseDue}
use Rattle.rx_hub.specs.Due.{event_of, IsOf, ConcernsHub, waits}
use Rattle.rx_hub.proofs.HubsByNumber.{find_at}
use Rattle.std.proofs.Common.{rules}

-- tests -------------------------------------------------------------------------------------------

both_parts : (a b : Bool) → (a && b) ≡ true → (a ≡ true) × (b ≡ true)
both_parts x0 x1 e = search (rules, false≢true)

both_hold : (a b : Bool) → a ≡ true → b ≡ true → (a && b) ≡ true
both_hold a b e f = ap (λ x. x && b) e ∙ f

if_some : {X : Type 0} (b : Bool) (x y : X) → (if b then Some x else None) ≡ Some y → (b ≡ true) × (x ≡ y)
if_some x0 x y e = search (rules, same_Some, none-some)

if_none : {X : Type 0} (b : Bool) (x : X) → (if b then Some x else None) ≡ None → b ≡ false
if_none x0 x e = search (rules, none-some)

or_none : {X : Type 0} (o : Option X) → option_or o None ≡ o
or_none x0 = search rules

lt_of : (a b : ℕ) → nat_lt a b ≡ true → a < b
lt_of a b e = grind (arith, nat_tests, e)

of_lt : (a b : ℕ) → a < b → nat_lt a b ≡ true
of_lt a b e = grind (arith, nat_tests, e)

-- two hubs that one node subscribes to are one
same_hub : (g k : ℕ) (o : Option Event) → option_map_or (is_subscriber_of g) o false ≡ true → option_map_or (is_subscriber_of k) o false ≡ true → g ≡ k
same_hub g k x2 a b = search (rules, false≢true, nat_tests)

all_at : {X : Type 0} (P : X → Type 0) (xs : List X) (i : ℕ) (x : X) → AllByRecursion P xs → slice_get xs i ≡ Some x → P x
all_at P [] i x all got = absurd (none-some x got)
all_at P (y ∷ xs) zero x all got = subst P (same_Some y x got) all.0
all_at P (y ∷ xs) (suc i) x all got = all_at P xs i x all.1 got

passes_at : (p : ℕ → Bool) (xs : List ℕ) (i n : ℕ) → slice_get (filter p xs) i ≡ Some n → p n ≡ true
passes_at p xs i n got = all_at (λ x. p x ≡ true) (filter p xs) i n (filtered p (λ x. p x ≡ true) (λ x e. e) xs) got

any_filtered : (p q : ℕ → Bool) (s n : ℕ) {k : ℕ} → s ≤ k → k < s + n → p k ≡ true → q k ≡ true → list_any q (filter p (range_with_len s n)) ≡ true
any_filtered p q s zero above below pk qk = absurd (omega arith)
any_filtered p q s (suc n) {k} above below pk qk = search (rules, cases_order, list_any, cond, filter, range_with_len, true≢false, or_right, any_filtered p q (s + 1) n)

-- the first that is left is the least that passes
first_least : (p : ℕ → Bool) (s n : ℕ) {k x : ℕ} (rest : List ℕ) → s ≤ k → k < s + n → p k ≡ true → filter p (range_with_len s n) ≡ x ∷ rest → x ≤ k
first_least p s zero rest above below pk is = absurd (omega arith)
first_least p s (suc n) {k} {x} rest above below pk is = by_test (first_least p (s + 1) n rest) (p s) refl is where
  head_same : (a b : ℕ) (xs ys : List ℕ) → a ∷ xs ≡ b ∷ ys → a ≡ b
  head_same a b xs ys e = ap (λ (zs : List ℕ). first a zs) e where
    first : ℕ → List ℕ → ℕ
    first d [] = d
    first d (z ∷ zs) = z

  by_test : (s + 1 ≤ k → k < s + 1 + n → p k ≡ true → filter p (range_with_len (s + 1) n) ≡ x ∷ rest → x ≤ k) → (b : Bool) → p s ≡ b →
      cond b (s ∷ filter p (range_with_len (s + 1) n)) (filter p (range_with_len (s + 1) n)) ≡ x ∷ rest → x ≤ k
  by_test later true e is2 = let same : s ≡ x = head_same s x (filter p (range_with_len (s + 1) n)) rest is2 in omega (arith, same, above)
  by_test later false e is2 = by_place (cases_order s k) where
    by_place : (s ≡ k) ⊎ ((s < k) ⊎ (k < s)) → x ≤ k
    by_place (inl same) = absurd (true≢false (sym pk ∙ ap p (sym same) ∙ e))
    by_place (inr (inl l)) = later (omega arith) (omega arith) pk is2
    by_place (inr (inr l)) = absurd (omega arith)

-- a hub's record and its history ------------------------------------------------------------------

-- an open subscriber of g
abbrev opens : List Event → ℕ → ℕ → Bool
opens h g n = at (is_subscriber_of g) h n && is_open h n

-- a number that is not older than the last end
abbrev stays_at : Option LastEnd → ℕ → Bool
stays_at last n = not (option_map_or (λ (e : LastEnd). nat_lt n e.place) last false)

stays_numbers : (last : Option LastEnd) (ks : List Key) → list_any (λ key. not (is_cut last key)) ks ≡ list_any (stays_at last) (numbers ks)
stays_numbers last [] = refl
stays_numbers last (k ∷ ks) = ap (λ b. stays_at last k.number || b) (stays_numbers last ks)

mode_auto : (mode : Mode) → is_auto_hub (Publish mode) ≡ is_auto mode
mode_auto x0 = search rules

auto_same : (h : List Event) (hub : Hub) → IsHubOf h hub → at is_auto_hub h hub.number ≡ is_auto hub.mode
auto_same h hub is = ap (λ (o : Option Event). option_map_or is_auto_hub o false) is.made ∙ mode_auto hub.mode

auto_makes : (o : Option Event) → option_map_or is_auto_hub o false ≡ true → option_map_or makes_hub o false ≡ true
auto_makes x0 e = search (rules, false≢true)

-- a younger subscriber is not ended by any connection
stays_uncut : (h : List Event) (hub : Hub) → IsHubOf h hub → (s : ℕ) → at (is_subscriber_of hub.number) h s ≡ true → stays_at hub.last_end s ≡ true →
    (t : Terminal) → ¬ SourceEnded h s t
stays_uncut h hub is s subscribes stays t ended = search (rules, same_hub, stays_at, of_lt, false≢true)

-- an older one is
old_cut : (h : List Event) (hub : Hub) → IsHubOf h hub → (s : ℕ) (e : LastEnd) → at (is_subscriber_of hub.number) h s ≡ true → hub.last_end ≡ Some e →
    s < e.place → SourceEnded h s e.terminal
old_cut h hub is s e subscribes last older =
    let end = subst (λ (o : Option LastEnd). IfSome o (EndsConnection h hub.number)) last is.ended in search (rules, connects)

no_connection : (o : Option Key) → numbers (option_to_list o) ≡ [] → is_none o ≡ true
no_connection x0 e = search rules

-- no hub waits ------------------------------------------------------------------------------------

hub_waits : (h : List Event) (hub : Hub) → IsHubOf h hub → IsConnectDue h hub.number → waits hub ≡ true
hub_waits h hub is d =
    let s = d.subscriber in
    let passes : opens h hub.number s ≡ true = both_hold (at (is_subscriber_of hub.number) h s) (is_open h s) d.subscribes d.subscribed in
    let inside = is_open_within h s d.subscribed in
    let stays : stays_at hub.last_end s ≡ true = uncut hub.last_end refl in
    let any : list_any (λ key. not (is_cut hub.last_end key)) hub.subscribers ≡ true =
    stays_numbers hub.last_end hub.subscribers ∙ ap (list_any (stays_at hub.last_end)) is.subscribers ∙
    any_filtered (opens h hub.number) (stays_at hub.last_end) 0 (length h) (omega arith) (omega (arith, inside)) passes stays in
    let auto : is_auto hub.mode ≡ true = sym (auto_same h hub is) ∙ d.auto in
    let unconnected = no_connection hub.connection (is.connection ∙ d.unconnected) in
    both_hold (is_auto hub.mode && is_none hub.connection) (list_any (λ key. not (is_cut hub.last_end key)) hub.subscribers)
    (both_hold (is_auto hub.mode) (is_none hub.connection) auto unconnected) any
  where
    uncut : (last : Option LastEnd) → hub.last_end ≡ last → stays_at last d.subscriber ≡ true
    uncut None e = refl
    uncut (Some x) e = by_test (nat_lt d.subscriber x.place) refl where
      by_test : (b : Bool) → nat_lt d.subscriber x.place ≡ b → not b ≡ true
      by_test true older = absurd (d.waits x.terminal (old_cut h hub is d.subscriber x d.subscribes e (lt_of d.subscriber x.place older)))
      by_test false older = refl

pub none_waits : (h : List Event) (hubs : List Hub) → AreHubsOf h hubs → NoneWaits hubs → IsConnected h
none_waits h hubs are none g d =
    let has = are.every g (auto_makes (slice_get h g) d.auto) in
    let is = are.each has.index has.hub has.there in
    let quiet = if_none (waits has.hub) (ConnectDue has.hub.number) (none has.index has.hub has.there) in
    true≢false (sym (hub_waits h has.hub is (subst (λ k. IsConnectDue h k) (sym has.numbered) d)) ∙ quiet)

-- what is due is forced ---------------------------------------------------------------------------

connect_due : (h : List Event) (hub : Hub) → IsHubOf h hub → waits hub ≡ true → IsConnectDue h hub.number
connect_due h hub is waiting =
    let parts = both_parts (is_auto hub.mode && is_none hub.connection) (list_any (λ key. not (is_cut hub.last_end key)) hub.subscribers) waiting in
    let rest = both_parts (is_auto hub.mode) (is_none hub.connection) parts.0 in
    let any : list_any (stays_at hub.last_end) (open_subscribers h hub.number) ≡ true =
    ap (list_any (stays_at hub.last_end)) (sym is.subscribers) ∙ sym (stays_numbers hub.last_end hub.subscribers) ∙ parts.1 in
    let found = list_any_found (stays_at hub.last_end) (open_subscribers h hub.number) any in
    let passes : opens h hub.number found.1 ≡ true = passes_at (opens h hub.number) (places h) found.0 found.1 found.2 in
    let open_both = both_parts (at (is_subscriber_of hub.number) h found.1) (is_open h found.1) passes in
    record {
      auto = auto_same h hub is ∙ rest.0;
      subscriber = found.1;
      subscribes = open_both.0;
      subscribed = open_both.1;
      waits = stays_uncut h hub is found.1 open_both.0 found.3;
      unconnected = sym is.connection ∙ none_connected hub.connection rest.1;
    } where
      none_connected : (o : Option Key) → is_none o ≡ true → numbers (option_to_list o) ≡ []
      none_connected None e = refl
      none_connected (Some c) e = absurd (false≢true e)

hub_due : (base : Kept) → (h : List Event) (hub : Hub) → IsHubOf h hub → (d : HubDue) → due_of hub ≡ Some d → IsDue base h (event_of d)
hub_due base h hub is d gives = by_lists hub.subscribers refl hub.last_end refl gives where
  by_left : (auto : Bool) → is_auto hub.mode ≡ auto → (c : Option Key) → hub.connection ≡ c → numbers hub.subscribers ≡ [] → left_of auto c [] ≡ Some d →
      IsDue base h (event_of d)
  by_left true auto (Some c) has empty is_due =
      let listed : open_connections h hub.number ≡ c.number ∷ [] = sym is.connection ∙ ap (λ (o : Option Key). numbers (option_to_list o)) has in
      let first = first_passes (λ n. at (is_connect_of hub.number) h n && is_open h n) (places h) c.number [] listed in
      let parts = both_parts (at (is_connect_of hub.number) h c.number) (is_open h c.number) first in
      subst (λ x. IsDue base h (event_of x)) (same_Some (CloseDue c) d is_due)
      (left parts.1 (at_connect h hub.number c.number parts.0) (auto_same h hub is ∙ auto) (sym is.subscribers ∙ empty))
  by_left true auto None has empty is_due = absurd (none-some d is_due)
  by_left false auto c has empty is_due = absurd (none-some d is_due)

  by_lists : (ks : List Key) → hub.subscribers ≡ ks → (last : Option LastEnd) → hub.last_end ≡ last →
      option_or (cut_of last ks) (left_of (is_auto hub.mode) hub.connection ks) ≡ Some d → IsDue base h (event_of d)
  by_lists [] empty None l is_due = by_left (is_auto hub.mode) refl hub.connection refl (ap numbers empty) is_due
  by_lists [] empty (Some x) l is_due = by_left (is_auto hub.mode) refl hub.connection refl (ap numbers empty) is_due
  by_lists (k ∷ ks) some None l is_due = absurd (none-some d is_due)
  by_lists (k ∷ ks) some (Some x) l is_due =
      let told = if_some (nat_lt k.number x.place) (EndDue k x.terminal) d
      (sym (or_none (if nat_lt k.number x.place then Some (EndDue k x.terminal) else None)) ∙ is_due) in
      let first = first_passes (opens h hub.number) (places h) k.number (numbers ks) (sym is.subscribers ∙ ap numbers some) in
      let parts = both_parts (at (is_subscriber_of hub.number) h k.number) (is_open h k.number) first in
      subst (λ y. IsDue base h (event_of y)) told.1 (cut parts.1 (old_cut h hub is k.number x parts.0 l (lt_of k.number x.place told.0)))

pub hubs_forced : (base : Kept) → (h : List Event) (hubs : List Hub) (d : HubDue) → AreHubsOf h hubs → IsDueIn hubs d → IsForced base h (event_of d)
hubs_forced base h hubs d are (connects i hub there gives) =
    let told = if_some (waits hub) (ConnectDue hub.number) d gives in
    subst (λ x. IsForced base h (event_of x)) told.1 (connecting (connect_due h hub (are.each i hub there) told.0))
hubs_forced base h hubs d are (acts i hub none there gives) = due (none_waits h hubs are none) (hub_due base h hub (are.each i hub there) d gives)

-- what is due is of a hub --------------------------------------------------------------------------

on_first : (k : Key) (ks : List Key) → is_on k (k ∷ ks) ≡ true
on_first k ks = search (rules, both_hold, nat_tests)

connect_own : (hub : Hub) (d : HubDue) → connect_of hub ≡ Some d → IsOf hub d
connect_own hub d gives = search (rules, if_some, both_parts, Auto, false≢true)

due_own : (hub : Hub) (d : HubDue) → due_of hub ≡ Some d → IsOf hub d
due_own hub d gives = search (rules, same_Some, none-some, if_some, or_none, on_first)

concerns_one : (s : Hubs) → IsPromised s → (d : HubDue) → IsDueIn s.hubs d → ConcernsHub s.hubs d
concerns_one s promised d (connects i hub there gives) = record { hub = hub; there = find_at s promised i hub there; own = connect_own hub d gives }
concerns_one s promised d (acts i hub none there gives) = record { hub = hub; there = find_at s promised i hub there; own = due_own hub d gives }

pub concerns_hub : (s : Hubs) → IsPromised s → (r : Option HubDue) → IfSome r (IsDueIn s.hubs) → IfSome r (ConcernsHub s.hubs)
concerns_hub s promised x2 is_due = search (rules, concerns_one)

-- where nothing is due ----------------------------------------------------------------------------

-- the oldest subscriber is not older than the last end
quiet_first : (hub : Hub) (k : Key) (ks : List Key) (x : LastEnd) → hub.subscribers ≡ k ∷ ks → hub.last_end ≡ Some x → due_of hub ≡ None →
    nat_lt k.number x.place ≡ false
quiet_first hub k ks x some last none = search (rules, if_none, or_none)

pub none_cut : (h : List Event) (hubs : List Hub) → AreHubsOf h hubs → IsQuiet hubs → (n : ℕ) (t : Terminal) → is_open h n ≡ true → ¬ SourceEnded h n t
none_cut h hubs are quiet n t o ended =
    let has = are.subscribed ended.hub n ended.subscribes in
    let hub = has.hub in
    let is = are.each has.index hub has.there in
    let subscribes : at (is_subscriber_of hub.number) h n ≡ true = subst (λ g. at (is_subscriber_of g) h n ≡ true) (sym has.numbered) ended.subscribes in
    let passes : opens h hub.number n ≡ true = both_hold (at (is_subscriber_of hub.number) h n) (is_open h n) subscribes o in
    by_lists is subscribes passes (is_open_within h n o) (quiet.quiet has.index hub has.there) refl refl
    (is.latest ended.connection ended.place t (ended.connects ∙ ap (λ g. Some (Connect g)) (sym has.numbered)) ended.ended)
  where
    by_lists : {hub : Hub} → IsHubOf h hub → at (is_subscriber_of hub.number) h n ≡ true → opens h hub.number n ≡ true → n < length h → due_of hub ≡ None →
        {ks : List Key} → hub.subscribers ≡ ks → {last : Option LastEnd} → hub.last_end ≡ last → IsUpTo ended.place last → ⊥
    by_lists is subscribes passes inside none some {last = None} l up = up
    by_lists {hub} is subscribes passes inside none {ks = []} some {last = Some x} l up =
        filter_nonempty (opens h hub.number) 0 (length h) n (omega arith) (omega (arith, inside)) passes (sym is.subscribers ∙ ap numbers some)
    by_lists {hub} is subscribes passes inside none {ks = k ∷ ks} some {last = Some x} l up =
        let least = first_least (opens h hub.number) 0 (length h) (numbers ks) (omega arith) (omega (arith, inside)) passes
        (sym is.subscribers ∙ ap numbers some) in
        let later = ended.later in
        true≢false (sym (of_lt k.number x.place (omega (arith, least, later, up))) ∙ quiet_first hub k ks x some l none)

pub none_left : (base : Kept) → (h : List Event) (hubs : List Hub) → AreHubsOf h hubs → IsQuiet hubs → (c : ℕ) → ¬ IsDue base h (Close c)
none_left base h hubs are quiet c (left {g = g} o at_c auto none) =
    let has = are.every g (auto_makes (slice_get h g) auto) in
    let hub = has.hub in
    let is = are.each has.index hub has.there in
    let empty : numbers hub.subscribers ≡ [] = is.subscribers ∙ ap (open_subscribers h) has.numbered ∙ none in
    let is_auto_mode : is_auto hub.mode ≡ true = sym (auto_same h hub is) ∙ ap (at is_auto_hub h) has.numbered ∙ auto in
    let at_own : at (is_connect_of hub.number) h c ≡ true =
    ap (λ (o : Option Event). option_map_or (is_connect_of hub.number) o false) (at_c ∙ ap (λ k. Some (Connect k)) (sym has.numbered)) ∙ own hub.number in
    let passes : (at (is_connect_of hub.number) h c && is_open h c) ≡ true = both_hold (at (is_connect_of hub.number) h c) (is_open h c) at_own o in
    by_connection is (is_open_within h c o) passes is_auto_mode refl empty refl (quiet.quiet has.index hub has.there)
  where
    own : (k : ℕ) → (k == k) ≡ true
    own k = grind (arith, nat_tests)

    by_connection : {hub : Hub} → IsHubOf h hub → c < length h → (at (is_connect_of hub.number) h c && is_open h c) ≡ true → is_auto hub.mode ≡ true →
        {ks : List Key} → hub.subscribers ≡ ks → numbers ks ≡ [] → {o : Option Key} → hub.connection ≡ o → due_of hub ≡ None → ⊥
    by_connection is inside passes auto_mode {ks = k ∷ ks} some empty {o = connection} has quiet_hub =
        let long : suc (length (numbers ks)) ≡ 0 = ap length empty in omega (arith, long)
    by_connection {hub} is inside passes auto_mode {ks = []} some empty {o = None} has quiet_hub =
        filter_nonempty (λ n. at (is_connect_of hub.number) h n && is_open h n) 0 (length h) c (omega arith) (omega (arith, inside)) passes
        (sym is.connection ∙ ap (λ (x : Option Key). numbers (option_to_list x)) has)
    by_connection {hub} is inside passes auto_mode {ks = []} some empty {o = Some k} has quiet_hub = none-some (CloseDue k) (sym (sym (no_cut hub.last_end) ∙
        (λ i. option_or (cut_of hub.last_end (sym some i)) (left_of (sym auto_mode i) (sym has i) (sym some i))) ∙ quiet_hub))
      where
        no_cut : (last : Option LastEnd) → option_or (cut_of last []) (left_of true (Some k) []) ≡ Some (CloseDue k)
        no_cut None = refl
        no_cut (Some x) = refl

pub quiet_settles : (base : Kept) → (h : List Event) (nodes : Slots Node) (hubs : List Hub) → AreRecordsOf base h nodes → AreHubsOf h hubs →
    IsQuietTree nodes → IsQuiet hubs → IsSettled base h
quiet_settles base h nodes hubs records are quiet_tree quiet = search (rules, quiet_settled, none_waits, none_cut, none_left)
