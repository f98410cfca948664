-- What a hub has to do is told by its oldest and its youngest subscriber.
use Rattle.rx_hub.proofs.Common.{◌≡◌, ℕ, ◌<◌, ◌≤◌, ◌==◌, ◌||◌, cond, Bool, true, false, List, [], ◌∷◌, length, slice_get, Option, Some, None, sym, option_map}
use Rattle.rx_hub.proofs.Common.{is_some, refl, ap, ◌∙◌, arith, true≢false, IfSome, list_any, option_map_or, option_and_then, not, nat_tests}
use Rattle.rx_hub.proofs.Common.{same_Some, none-some, Key, first_of, is_key, HubDue, LastEnd, Published}
use Rattle.rx_hub.proofs.Common.{Hub, Rule, IsCalm, IsChain, IsLinked, IsAt, IsDueIn, IsQuiet, IsSteady}
use Rattle.rx_hub.proofs.Common.{NoneWaits, connects, acts, is_cut, cut_of, left_of, is_auto, ◌++◌, option_or, connect_of}
use Rattle.rx_hub.proofs.Common.{due_of, Hubs, IsPromised, AreAbove, Rises, published_of, last_from, subscribed}
use Rattle.rx_hub.proofs.Common.{unsubscribed, without_key, Lists, list_at, is_in, take_out, head_of, connect_by, cut_by, due_by, given_by}
use Rattle.std.specs.List.{filter}
use Rattle.rx_hub.specs.declared.forcing.Rule.TheVariants.{Connect, Other}
use Rattle.std.proofs.Common.{rules}

-- the youngest tells ------------------------------------------------------------------------------

abbrev stays_on : Option LastEnd → Key → Bool
stays_on last key = not (is_cut last key)

-- a younger one stays where an older one does
younger : (last : Option LastEnd) (a b : Key) → a.number < b.number → stays_on last a ≡ true → stays_on last b ≡ true
younger x0 a b less e = search (rules, nat_tests)

any_last : (last : Option LastEnd) (before : Key) (ks : List Key) → AreAbove before.number ks → Rises ks →
    (stays_on last before || list_any (stays_on last) ks) ≡ option_map_or (stays_on last) (last_from (Some before) ks) false
any_last last before [] above rises = search (rules, stays_on)
any_last last before (k ∷ ks) above rises =
    shape (stays_on last before) (stays_on last k) (list_any (stays_on last) ks) (younger last before k above.0) ∙ any_last last k ks rises.0 rises.1 where
      shape : (a b c : Bool) → (a ≡ true → b ≡ true) → (a || (b || c)) ≡ (b || c)
      shape true b c up = ap (λ t. t || c) (sym (up refl))
      shape false b c up = refl

youngest_tells : (last : Option LastEnd) (ks : List Key) → Rises ks → list_any (stays_on last) ks ≡ option_map_or (stays_on last) (last_from None ks) false
youngest_tells last [] rises = refl
youngest_tells last (k ∷ ks) rises = any_last last k ks rises.0 rises.1

connect_told : (hub : Hub) → Rises hub.subscribers → connect_by (published_of hub) (last_from None hub.subscribers) ≡ connect_of hub
connect_told hub rises = search (rules, youngest_tells)

due_told : (hub : Hub) → due_by (published_of hub) (first_of hub.subscribers) ≡ due_of hub
due_told hub = search rules

-- a subscriber that comes or leaves ----------------------------------------------------------------

-- one that comes behind another makes nothing else due
pub due_behind : (key : Key) (hub : Hub) → is_some (first_of hub.subscribers) ≡ true → due_of hub ≡ None → due_of (subscribed key hub) ≡ None
due_behind key hub among none = search (rules, due_told, true≢false)

-- no end cuts a younger one that cuts no older one
uncut_on : (last : Option LastEnd) (a b : Key) → a.number < b.number → cut_by last a ≡ None → cut_by last b ≡ None
uncut_on x0 a b less none = search (rules, nat_tests, none-some, true≢false)

first_uncut : (last : Option LastEnd) (key : Key) (ks : List Key) → Rises ks → IfSome (first_of ks) (λ k. cut_by last k ≡ None) →
    IfSome (first_of (without_key key ks)) (λ k. cut_by last k ≡ None)
first_uncut last key [] rises first = tt
first_uncut last key (k ∷ ks) rises first = of (is_key key k) (first_uncut last key ks rises.1 (next ks rises.0)) where
  next : (zs : List Key) → AreAbove k.number zs → IfSome (first_of zs) (λ z. cut_by last z ≡ None)
  next [] above = tt
  next (z ∷ zs) above = uncut_on last k z above.0 first

  of : (b : Bool) → IfSome (first_of (without_key key ks)) (λ z. cut_by last z ≡ None) →
      IfSome (first_of (cond (not b) (k ∷ without_key key ks) (without_key key ks))) (λ z. cut_by last z ≡ None)
  of true rest = rest
  of false rest = first

-- one that leaves others makes nothing else due
pub due_left : (key : Key) (hub : Hub) → Rises hub.subscribers → is_some (first_of (without_key key hub.subscribers)) ≡ true → due_of hub ≡ None →
    due_of (unsubscribed key hub) ≡ None
due_left key hub rises among none = sym (due_told (unsubscribed key hub)) ∙ tail (first_of (without_key key hub.subscribers)) among
    (search (rules, first_uncut, due_told)) where
      head : (o : Option Key) → due_by (published_of hub) o ≡ None → IfSome o (λ k. cut_by hub.last_end k ≡ None)
      head None e = tt
      head (Some k) e = e

      tail : (o : Option Key) → is_some o ≡ true → IfSome o (λ k. cut_by hub.last_end k ≡ None) → due_by (published_of hub) o ≡ None
      tail None some first = absurd (true≢false (sym some))
      tail (Some k) some first = first

any_fewer : (p q : Key → Bool) (ks : List Key) → list_any p ks ≡ false → list_any p (filter q ks) ≡ false
any_fewer p q [] none = refl
any_fewer p q (k ∷ ks) none = search (rules, true≢false, any_fewer p q ks)

-- one that leaves lets no hub wait for a connection
pub wait_left : (key : Key) (hub : Hub) → connect_of hub ≡ None → connect_of (unsubscribed key hub) ≡ None
wait_left key hub none = search (rules, stays_on, any_fewer, none-some)

-- a hub that has a connection and keeps no end waits for none by one that comes, and nothing else is due at it
pub steady_waits_not : (key : Key) (hub : Hub) → IsSteady (published_of hub) → connect_of (subscribed key hub) ≡ None
steady_waits_not key hub steady = search (rules, stays_on, true≢false)

none_left_of : (auto : Bool) (connection : Option Key) (ks : List Key) (key : Key) → left_of auto connection (ks ++ key ∷ []) ≡ None
none_left_of auto connection [] key = refl
none_left_of auto connection (k ∷ ks) key = refl

pub steady_due_not : (key : Key) (hub : Hub) → IsSteady (published_of hub) → due_of (subscribed key hub) ≡ None
steady_due_not key hub steady =
    ap (λ (o : Option LastEnd). option_or (cut_of o (hub.subscribers ++ key ∷ [])) (left_of (is_auto hub.mode) hub.connection (hub.subscribers ++ key ∷ [])))
    steady.1 ∙ none_left_of (is_auto hub.mode) hub.connection hub.subscribers key

-- at an index
pub at_none : (rule : Rule) (hubs : List Hub) (index : ℕ) → option_map published_of (slice_get hubs index) ≡ None →
    option_and_then (given_by rule) (slice_get hubs index) ≡ None
at_none rule hubs index none = search (rules, none-some)

pub connect_found : (s : Hubs) (index : ℕ) (p : Published) (youngest : Option Key) → IsPromised s → option_map published_of (slice_get s.hubs index) ≡ Some p →
    IfSome (slice_get s.hubs index) (λ hub. youngest ≡ last_from None hub.subscribers) →
    connect_by p youngest ≡ option_and_then (given_by Connect) (slice_get s.hubs index)
connect_found s index p youngest promised some last = search (rules, none-some, same_Some, connect_told)

-- the chain ---------------------------------------------------------------------------------------

eq_self : (a : ℕ) → (a == a) ≡ true
eq_self a = grind (arith, nat_tests)

pub head_in : (xs : List ℕ) (index : ℕ) → head_of xs ≡ Some index → is_in index xs ≡ true
head_in x0 index e = search (rules, none-some, same_Some, eq_self)

fewer : (m : ℕ) (xs : List ℕ) → length (take_out m xs) ≤ length xs
fewer m [] = omega arith
fewer m (x ∷ xs) = search (rules, fewer m xs)

pub one_fewer : (xs : List ℕ) (index : ℕ) → head_of xs ≡ Some index → length (take_out index xs) < length xs
one_fewer x0 index e = search (rules, none-some, same_Some, eq_self, fewer)

-- what is off a chain from which one index was taken is that index, or was off it
still_off : (i index : ℕ) (xs : List ℕ) → is_in i (take_out index xs) ≡ false → (index == i) ≡ false → is_in i xs ≡ false
still_off i index [] off apart = refl
still_off i index (x ∷ xs) off apart = search (rules, nat_tests, true≢false, eq_self, still_off i index xs)

pub calm_dropped : (due : Hub → Option HubDue) (hubs : List Hub) (old new : Lists) (index : ℕ) → list_at new 0 ≡ take_out index (list_at old 0) →
    option_and_then due (slice_get hubs index) ≡ None → IsCalm due hubs old → IsCalm due hubs new
calm_dropped due hubs old new index left none calm i hub got off = search (rules, nat_tests, still_off)

pub found_at : (due : Hub → Option HubDue) (hubs : List Hub) (index : ℕ) (d : HubDue) → option_and_then due (slice_get hubs index) ≡ Some d → IsAt due hubs d
found_at due hubs index d some = search (rules, none-some)

-- of an answer
pub found_if : (due : Hub → Option HubDue) (hubs : List Hub) (index : ℕ) (r : Option HubDue) → r ≡ option_and_then due (slice_get hubs index) →
    IfSome r (IsAt due hubs)
found_if due hubs index x3 e = search (rules, found_at)

pub none_of : {X : Type 0} (o : Option X) (b : Bool) → b ≡ is_some o → b ≡ false → o ≡ None
none_of x0 b e f = search (rules, true≢false)

-- where nothing stands on the chains nothing is due at any hub
off_chain : (indices : List ℕ) → head_of indices ≡ None → (i : ℕ) → is_in i indices ≡ false
off_chain x0 none i = search (rules, none-some)

pub quiet_chains : (hubs : List Hub) (waiting due : Lists) → IsCalm connect_of hubs waiting → IsCalm due_of hubs due →
    head_of (list_at waiting 0) ≡ None → head_of (list_at due 0) ≡ None → IsQuiet hubs
quiet_chains hubs waiting due no_wait no_act none_waits none_due = search (rules, off_chain)

pub quiet_unnoted : {store : Hubs} {waiting due : Lists} {noted : Bool} → IsLinked store waiting due noted → noted ≡ false → IsQuiet store.hubs
quiet_unnoted {store} {waiting} {due} linked unnoted =
    let bare = linked.empty unnoted in quiet_chains store.hubs waiting due linked.waits linked.acts bare.0 bare.1

pub chain_left : (old new : Lists) → length new.lists ≡ length old.lists → new.members ≡ old.members → IsChain old → IsChain new
chain_left old new count members chain = search rules

-- of the two chains
pub connects_if : (hubs : List Hub) (r : Option HubDue) → IfSome r (IsAt (given_by Connect) hubs) → IfSome r (IsDueIn hubs)
connects_if hubs x1 at = search (rules, connects)

pub acts_if : (hubs : List Hub) (r : Option HubDue) → NoneWaits hubs → IfSome r (IsAt (given_by Other) hubs) → IfSome r (IsDueIn hubs)
acts_if hubs None none at = tt
acts_if hubs (Some e) none at = acts at.index at.hub none at.there at.gives
