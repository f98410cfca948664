-- The list of what a call closes: begun anew it changes nothing else, and what goes on it has gone.
use Rattle.rx_book.proofs.Common.{◌≡◌, ℕ, List, [], ◌++◌, map, ap, ◌∙◌, Ok, Ghosts, Kept, Event, IsForcedOn, Wanted, goes}
use Rattle.rx_book.proofs.Common.{Gathers, Ground, IsStanding, HasRoomBeside, IsFurther, gone_on, gone_forced, Key, State, AreJust, Request, Accepts, Answers}
use Rattle.rx_book.proofs.Common.{IsOpened, IsOpenedUsing, Opened, OpenedUsing, At, OpenedHolding, AnswersOpenedHolding, Kind}
use Rattle.rx_book.proofs.Common.{◌<◌, ◌≤◌, ◌⊎◌, inl, inr, length, sym, subst, arith, length-append, IsSome, Contains, find, keys_of, Closes, GoesFirst}
use Rattle.std.specs.List.{AllPairs}
use Rattle.rx_ground.proofs.Laws.Members.{Contains-none}
use Rattle.rx_book.proofs.ShownKeys.{finding_key}
use Rattle.rx_book.proofs.AnswersOkOrErr.{answers_ok}
use Rattle.std.proofs.Common.{rules}

-- the list begun ----------------------------------------------------------------------------------

-- the ground stands and has room as before
pub standing_begun : {T : Type 0} {g : Ghosts T} {b : Ground T} → IsStanding g b → IsStanding g (record b { closed = [] })
standing_begun s = record { tied = s.tied; leased = s.leased; settled = s.settled; paid = s.paid }

pub room_begun : {T : Type 0} {b : Ground T} {wanted : Wanted} → HasRoomBeside b wanted → HasRoomBeside (record b { closed = [] }) wanted
room_begun has = search rules

-- and what is accepted then is accepted from before
pub accepts_begun : {s new : State} {asked : Request} → Accepts (record s { closed = [] }) asked new → Accepts s asked new
accepts_begun a = search rules

pub answers_begun : {A E : Type 0} {gives tells : A → Type 0} {refuses denies : E → Type 0} {s new : State} {asked : Request} {x : A} →
    (gives x → tells x) → Answers gives refuses (record s { closed = [] }) asked new (Ok x) → Answers tells denies s asked new (Ok x)
answers_begun also a = answers_ok (also a.ok) (accepts_begun a.accepted)

pub opened_begun : {s new : State} {o : Opened} → IsOpened (record s { closed = [] }) new o → IsOpened s new o
opened_begun o = record { key = o.key; connection = o.connection; connected = o.connected }

pub opened_using_begun : {s new : State} {o : OpenedUsing} → IsOpenedUsing (record s { closed = [] }) new o → IsOpenedUsing s new o
opened_using_begun o = record { key = o.key; res = o.res }

pub holding_begun : {T : Type 0} {g : Ghosts T} {s new : State} {at : At} {kind : Kind} {x : T} {o : OpenedHolding} →
    AnswersOpenedHolding g (record s { closed = [] }) at kind x new (Ok o) → AnswersOpenedHolding g s at kind x new (Ok o)
holding_begun a = search (rules, accepts_begun, opened_begun)

-- the state that a caller sees has the list begun
pub begun_at : {s t u : State} → t ≡ record s { closed = [] } → s ≡ u → t ≡ record u { closed = [] }
begun_at begun seen = begun ∙ ap (λ (s : State). record s { closed = [] }) seen

-- what goes on it ---------------------------------------------------------------------------------

-- a step goes further
pub further_step : (base : Kept) → (h es : List Event) {k : List Event} → IsForcedOn base (h ++ es) k → IsFurther h k
further_step base h es forced n gone = gone_forced base forced n (gone_on h es n gone)

-- a list that was begun has just what has gone since
pub just_gone : {h k : List Event} {list longer : List Key} → list ≡ [] → Gathers h list k longer →
    AreJust (goes h k) (map (λ (j : Key). j.number) longer)
just_gone {h} {k} {list} {longer} begun gathers = search rules

-- in the order in which it went
pub gone_in_order : {h k : List Event} {list longer : List Key} → list ≡ [] → Gathers h list k longer →
    AllPairs (GoesFirst k) (map (λ (j : Key). j.number) longer)
gone_in_order {h} {k} {list} {longer} begun gathers = subst (λ (keys : List Key). AllPairs (GoesFirst k) (map (λ (j : Key). j.number) keys))
    (sym (gathers.listed ∙ ap (λ (keys : List Key). keys ++ gathers.gone) begun)) gathers.order

-- under the key that it had
pub gone_keys : {T : Type 0} {b new : Ground T} → b.closed ≡ [] → Closes b new → (k : Key) → Contains new.closed k →
    k.number < length b.register.history → Contains (keys_of b.tree) k
gone_keys {b = b} begun closes k here older = by (closes.found k here older) where
  by : Contains b.closed k ⊎ IsSome (find b.tree.nodes k) → Contains (keys_of b.tree) k
  by (inl listed) = absurd (Contains-none k (subst (λ (keys : List Key). Contains keys k) begun listed))
  by (inr there) = finding_key b.tree k there

pub gathers_just : {h k : List Event} {longer : List Key} → AreJust (goes h k) (map (λ (j : Key). j.number) longer) →
    AllPairs (GoesFirst k) (map (λ (j : Key). j.number) longer) → Gathers h [] k longer
gathers_just {h} {k} {longer} just order = search rules

-- where one part of a call comes after the other
pub grown_by : (h : List Event) {k : List Event} → ((es : List Event) × (k ≡ h ++ es)) → length h ≤ length k
grown_by h adds = let l = ap (λ (j : List Event). length j) adds.1 in let n = length-append h adds.0 in omega arith

pub either_known : {T : Type 0} {number : ℕ} (mid : Ground T) (keys : List Key) →
    ((k : Key) → Contains mid.closed k → k.number < number → Contains keys k) →
    ((k : Key) → Contains (keys_of mid.tree) k → k.number < number → Contains keys k) →
    (k : Key) → Contains mid.closed k ⊎ IsSome (find mid.tree.nodes k) → k.number < number → Contains keys k
either_known mid keys listed there k (inl here) older = listed k here older
either_known mid keys listed there k (inr found) older = there k (finding_key mid.tree k found) older
