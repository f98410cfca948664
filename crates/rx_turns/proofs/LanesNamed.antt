-- What a command leaves in lanes was left before, or is due with its answer.
use Rattle.std.proofs.Common.{◌≡◌, ℕ, ◌==◌, ◌&&◌, ◌||◌, ◌⊎◌, inl, inr, Bool, true, false, List, [], ◌∷◌, Option, Some, None, Result, Ok, Err, pos, refl, sym, ap, subst, ◌∙◌}
use Rattle.std.proofs.lemmas.Bool.{false≢true}
use Rattle.std.specs.Prelude.{option_map}
use Rattle.rx_resource.specs.declared.Resource.{Ghosts}
use Rattle.rx_resource.specs.declared.token.Token.{Token}
use Rattle.rx_note.specs.declared.note.Terminal.TheVariants.{Completed, Error}
use Rattle.rx_event.specs.declared.refusal.Refusal.{Refusal}
use Rattle.rx_event.specs.declared.refusal.Refusal.TheVariants.{Full, NoHub}
use Rattle.rx_slots.specs.declared.Key.{Key}
use Rattle.rx_book.specs.declared.answer.At.{At}
use Rattle.rx_book.specs.Requests.{Request}
use Rattle.rx_lanes.specs.declared.names.LaneName.{LaneName}
use Rattle.rx_lanes.specs.declared.names.Due.{Due}
use Rattle.rx_lanes.specs.Courses.{is_name, is_named}
use Rattle.rx_lanes.specs.State.{IsLeft}
use Rattle.rx_pool.specs.declared.search.Share.{Share}
use Rattle.rx_roles.specs.declared.effect.Effect.{Effect as Sent}
use Rattle.rx_engine.specs.declared.parts.User.{User}
use Rattle.rx_engine.specs.declared.sharing.Subscribed.{Subscribed}
use Rattle.rx_engine.specs.declared.sharing.Connected.{Connected as NewConnection}
use Rattle.rx_engine.specs.States.{State, IsPromised}
use Rattle.rx_engine.specs.Commands.{IsMade as IsCommandOfBook}
use Rattle.rx_engine.specs.Handings.{IsNextHanded}
use Rattle.rx_engine.specs.LettingGo.{IsClosingMade}
use Rattle.rx_engine.specs.Plain.{IsPlain, emits, ends, aborts, declines, fails, disposes, applies, removes, leases, gives_back, disconnects}
use Rattle.rx_engine.specs.Servings.{IsTake}
use Rattle.rx_engine.specs.Sharings.{IsSubscribeMade, IsConnectMade, IsDisconnectMade, none_serves, one_serves}
use Rattle.rx_engine.proofs.Laws.EffectsInLanes.{same_name}
use Rattle.rx_engine.proofs.Laws.PlainCalls.{next_plain}
use Rattle.rx_courses.specs.Courses.{IsCommand, is_refused, has_done, has_held, has_used, has_opened, has_put, has_subscribed, has_connected, has_made_hubs, has_checkpointed}
use Rattle.rx_courses.specs.Serving.{answered}
use Rattle.rx_courses.specs.LeftNamed.{IsServedBy, AreThere, CommandsNameWhatIsLeft}
use Rattle.rx_cellar.specs.declared.making.Made.{Made}
use Rattle.rx_cellar.specs.declared.asked.OwnKind.TheVariants.{Pass as OwnPass}
use Rattle.rx_cellar.specs.declared.asked.Asked.{Asked}
use Rattle.rx_cellar.specs.declared.asked.Asked.TheVariants.{Open, Subscribe, Using, Hold, Next, Complete, Error as Fails, Fail, Decline, Dispose, Connect, Disconnect}
use Rattle.rx_cellar.specs.declared.asked.Asked.TheVariants.{Put, Shut, Abort, Apply, Remove, Lease, GiveBack}
use Rattle.rx_cellar.specs.declared.cellar.Cellar.{Cellar}
use Rattle.rx_cellar.specs.declared.shapes.Answer.{Answer}
use Rattle.rx_cellar.specs.declared.shapes.Effect.{Effect}
use Rattle.rx_cellar.specs.Asking.{kind_of}
use Rattle.rx_cellar.specs.Cellars.{is_due, Tidies, IsTidyIf, IsTried, at_once, once_more, IsTriedAgain, behind_one, behind_none, IsAskedMade, is_done, is_refused as is_not_done, IsCommandMade}
use Rattle.rx_cellar.specs.Crossings.{effect_of, no_answer}
use Rattle.rx_cellar.specs.Makings.{shown, Shows, WithHubs, found_one as found_hub, made_none, made_all, IsPerformed, Outcome, of_made, of_given, ComesTo}
use Rattle.rx_turns.proofs.CommandsAreCourses.{alone}
use Rattle.rx_turns.proofs.CommandsTold.{not_done}
use Rattle.rx_turns.proofs.LanesTaken.{take_fresh, take_left, take_clears, take_served, take_due}

-- from s to t, where no lane got something before: what is left was left, or is among these; who serves a lane served it; these are there
pub record Names (s t : State) (due : List Due) : Type 0 where
  pub left : (n : LaneName) → IsLeft t.parts.lanes n → IsLeft s.parts.lanes n ⊎ (is_named n due ≡ true)
  pub served : (n : LaneName) (by : ℕ) → IsServedBy t.parts.lanes n by → IsServedBy s.parts.lanes n by
  pub named : AreThere t.parts.lanes due
  pub settled : t.parts.lanes.fresh ≡ []

-- the same of a command of which an effect is handed out: its lane, which alone is due, is served then
pub record Hands (by : ℕ) (s t : State) : Type 0 where
  pub name : LaneName
  pub due : t.parts.lanes.due ≡ record { lane = name; inside = false } ∷ []
  pub left : (n : LaneName) → IsLeft t.parts.lanes n → IsLeft s.parts.lanes n
  pub served : (n : LaneName) (word : ℕ) → IsServedBy t.parts.lanes n word → IsServedBy s.parts.lanes n word ⊎ ((n ≡ name) × (word ≡ by))
  pub settled : t.parts.lanes.fresh ≡ []

quiet_is : (s t : State) → t ≡ s → s.parts.lanes.fresh ≡ [] → Names s t []
quiet_is s t same none = subst (λ (x : State). Names s x []) (sym same) (record { left = λ n is. inl is; served = λ n by is. is; named = tt; settled = none })

-- behind what names nothing
then_names : {s t u : State} {due : List Due} → Names s t [] → Names t u due → Names s u due
then_names {s} {t} {u} {due} p q = record {
  left = λ n is. by_left n (q.left n is);
  served = λ n by is. p.served n by (q.served n by is);
  named = q.named;
  settled = q.settled;
} where
  was : (n : LaneName) → IsLeft s.parts.lanes n ⊎ (false ≡ true) → IsLeft s.parts.lanes n
  was n (inl is) = is
  was n (inr nay) = absurd (false≢true nay)

  by_left : (n : LaneName) → IsLeft t.parts.lanes n ⊎ (is_named n due ≡ true) → IsLeft s.parts.lanes n ⊎ (is_named n due ≡ true)
  by_left n (inl is) = inl (was n (p.left n is))
  by_left n (inr named) = inr named

-- commands -----------------------------------------------------------------------------------------------

-- what an answer names: of one that was refused nothing
abbrev due_if : {A : Type 0} → Result A Refusal → State → List Due
due_if (Ok a) t = t.parts.lanes.due
due_if (Err why) t = []

abbrev pub HandsIf : (by : ℕ) (s t : State) → Option Sent → Type 0
HandsIf by s t None = Names s t t.parts.lanes.due
HandsIf by s t (Some e) = Hands by s t

abbrev Came : (by : ℕ) (s t : State) → Result Outcome Refusal → Type 0
Came by s t (Ok o) = HandsIf by s t o.given
Came by s t (Err why) = Names s t []

-- what is given crosses
pub record GivesOut (by : ℕ) (s t : State) (given : Option Effect) : Type 0 where
  pub sent : Option Sent
  pub crosses : given ≡ option_map effect_of sent
  pub came : HandsIf by s t sent

pub data Leaves (by : ℕ) (s t : State) (given : Option Effect) (status : ℕ) : Type 0 where
  was_done : status ≡ 0 → GivesOut by s t given → Leaves by s t given status
  was_refused : (status == 0) ≡ false → given ≡ None → Names s t [] → Leaves by s t given status

module _ (g : Ghosts Token) (law : CommandsNameWhatIsLeft g) where
  by_command : (s t : State) → IsPromised s → s.parts.lanes.fresh ≡ [] → (c : IsCommand g s t) → Names s t (answered c)
  by_command s t kept none c =
      let is = law s t kept none c in record { left = is.left; served = is.served; named = is.named; settled = is.settled }

  plain : {A : Type 0} (refuses : Refusal → Type 0) (asked : Request) (by value : ℕ) (s t : State) (r : Result A Refusal) → IsPromised s →
      s.parts.lanes.fresh ≡ [] → IsPlain s.book asked → IsCommandOfBook g refuses asked by value s t r → Names s t (due_if r t)
  plain refuses asked by value s t (Ok a) kept none is made = by_command s t kept none (has_done by value is made.done)
  plain refuses asked by value s t (Err why) kept none is made = by_command s t kept none (is_refused made.kept)

  disconnected : {A : Type 0} (word by : ℕ) (s t : State) (r : Result A Refusal) → IsPromised s → s.parts.lanes.fresh ≡ [] →
      IsDisconnectMade g word by s t r → Names s t (due_if r t)
  disconnected word by s t _ kept none (none_serves other seen) = by_command s t kept none (is_refused seen)
  disconnected word by s t r kept none (one_serves place hub last there made) = plain _ _ by 0 s t r kept none (disconnects hub.number) made

  let_go : {A : Type 0} (by : ℕ) (s t : State) (r : Result A Refusal) → IsPromised s → s.parts.lanes.fresh ≡ [] → IsClosingMade g by s t r →
      Names s t (due_if r t)
  let_go by s t (Ok a) kept none made = by_command s t kept none (has_done by 0 (next_plain s.book made.done.asked made.done.next) made.done.done)
  let_go by s t (Err why) kept none made = quiet_is s t made.kept none

  subscribed : (at : At) (share : Share) (user : User) (by : ℕ) (s t : State) (r : Result Subscribed Refusal) → IsPromised s → s.parts.lanes.fresh ≡ [] →
      IsSubscribeMade g at share user by s t r → Names s t (due_if r t)
  subscribed at share user by s t (Ok u) kept none made = by_command s t kept none (has_subscribed at share user by u.place made.done.0)
  subscribed at share user by s t (Err why) kept none made = by_command s t kept none (is_refused made.kept)

  connected : (share : Share) (user : User) (by : ℕ) (s t : State) (r : Result NewConnection Refusal) → IsPromised s → s.parts.lanes.fresh ≡ [] →
      IsConnectMade g share user by s t r → Names s t (due_if r t)
  connected share user by s t (Ok u) kept none made = by_command s t kept none (has_connected share user by u.place made.done)
  connected share user by s t (Err why) kept none made = by_command s t kept none (is_refused made.kept)

  -- as it crosses
  crossed : {A B : Type 0} (made : A → B) (s t : State) (a : Result B Refusal) (r : Result A Refusal) → Names s t (due_if r t) → a ≡ shown made r →
      Names s t (due_if a t)
  crossed made s t a (Ok x) p same = subst (λ (y : _). Names s t (due_if y t)) (sym same) p
  crossed made s t a (Err why) p same = subst (λ (y : _). Names s t (due_if y t)) (sym same) p

  with_hubs : (by : ℕ) (is : State → State → Result Made Refusal → Type 0) →
      ((s t : State) (a : Result Made Refusal) → IsPromised s → s.parts.lanes.fresh ≡ [] → is s t a → Names s t (due_if a t)) →
      (s t : State) (a : Result Made Refusal) → IsPromised s → s.parts.lanes.fresh ≡ [] → WithHubs g by is s t a → Names s t (due_if a t)
  with_hubs by is once s t a kept none (found_hub other says) = once s t a kept none says
  with_hubs by is once s t _ kept none (made_none u first stands hubs) =
      let before = once s u (Err NoHub) kept none first in then_names before (by_command u t stands before.settled (has_made_hubs by hubs.makes))
  with_hubs by is once s t a kept none (made_all u v ok first stands hubs still again) =
      let before = once s u (Err NoHub) kept none first in
      let more = then_names before (by_command u v stands before.settled (has_made_hubs by hubs.makes)) in
      then_names more (once v t a still more.settled again)

  by_show : {A : Type 0} (is : Result A Refusal → Type 0) (made : A → Made) (s t : State) (a : Result Made Refusal) → Shows is made a →
      ((x : A) → is (Ok x) → Names s t t.parts.lanes.due) → ((why : Refusal) → is (Err why) → Names s t []) → Names s t (due_if a t)
  by_show {A} is made s t a sh done refused = crossed made s t a sh.engine_answer (by_answer sh.engine_answer sh.made_so) sh.is_shown where
    by_answer : (r : Result A Refusal) → is r → Names s t (due_if r t)
    by_answer (Ok x) so = done x so
    by_answer (Err why) so = refused why so

  performed : (asked : Asked) (by : ℕ) (s t : State) (a : Result Made Refusal) → IsPromised s → s.parts.lanes.fresh ≡ [] → IsPerformed g asked by s t a →
      Names s t (due_if a t)
  performed (Open at kind user) by s t a kept none sh =
      by_show _ _ s t a sh (λ x so. by_command s t kept none (has_opened at (kind_of kind) user by (alone kind) so.done))
      (λ why so. by_command s t kept none (is_refused so.kept))
  performed (Subscribe at share hint user) by s t a kept none hubs =
      with_hubs by _
      (λ s' t' a' kept' none' sh. crossed _ s' t' a' sh.engine_answer (subscribed at share user by s' t' sh.engine_answer kept' none' sh.made_so) sh.is_shown)
      s t a kept none hubs
  performed (Using at user tag) by s t a kept none sh =
      by_show _ _ s t a sh (λ x so. by_command s t kept none (has_used at (kind_of OwnPass) user tag by refl so.done.0))
      (λ why so. by_command s t kept none (is_refused so.kept))
  performed (Hold node tag) by s t a kept none sh =
      by_show _ _ s t a sh (λ x so. by_command s t kept none (has_held node tag by so.done)) (λ why so. by_command s t kept none (is_refused so.kept))
  performed (Next leaf value may_hand) by s t a kept none sh =
      crossed _ s t a sh.engine_answer (plain _ _ by value s t sh.engine_answer kept none (emits leaf (pos 0)) sh.made_so) sh.is_shown
  performed (Complete leaf) by s t a kept none sh =
      crossed _ s t a sh.engine_answer (plain _ _ by 0 s t sh.engine_answer kept none (ends leaf Completed) sh.made_so) sh.is_shown
  performed (Fails leaf value) by s t a kept none sh =
      crossed _ s t a sh.engine_answer (plain _ _ by value s t sh.engine_answer kept none (ends leaf (Error 0)) sh.made_so) sh.is_shown
  performed (Fail merging value) by s t a kept none sh =
      crossed _ s t a sh.engine_answer (plain _ _ by value s t sh.engine_answer kept none (fails merging 0) sh.made_so) sh.is_shown
  performed (Decline merging) by s t a kept none sh =
      crossed _ s t a sh.engine_answer (plain _ _ by 0 s t sh.engine_answer kept none (declines merging) sh.made_so) sh.is_shown
  performed (Dispose root) by s t a kept none sh =
      crossed _ s t a sh.engine_answer (plain _ _ by 0 s t sh.engine_answer kept none (disposes root) sh.made_so) sh.is_shown
  performed (Connect share hint user) by s t a kept none hubs =
      with_hubs by _
      (λ s' t' a' kept' none' sh. crossed _ s' t' a' sh.engine_answer (connected share user by s' t' sh.engine_answer kept' none' sh.made_so) sh.is_shown)
      s t a kept none hubs
  performed (Disconnect word hint) by s t a kept none sh =
      crossed _ s t a sh.engine_answer (disconnected word by s t sh.engine_answer kept none sh.made_so) sh.is_shown
  performed (Put to user value) by s t a kept none sh =
      by_show _ _ s t a sh (λ x so. by_command s t kept none (has_put to user value by so.done)) (λ why so. by_command s t kept none (is_refused so.kept))
  performed Shut by s t a kept none sh = crossed _ s t a sh.engine_answer (let_go by s t sh.engine_answer kept none sh.made_so) sh.is_shown
  performed (Abort node value) by s t a kept none sh =
      crossed _ s t a sh.engine_answer (plain _ _ by value s t sh.engine_answer kept none (aborts node 0) sh.made_so) sh.is_shown
  performed (Apply res) by s t a kept none sh =
      crossed _ s t a sh.engine_answer (plain _ _ by 0 s t sh.engine_answer kept none (applies res) sh.made_so) sh.is_shown
  performed (Remove res) by s t a kept none sh =
      crossed _ s t a sh.engine_answer (plain _ _ by 0 s t sh.engine_answer kept none (removes res) sh.made_so) sh.is_shown
  performed (Lease res) by s t a kept none sh =
      crossed _ s t a sh.engine_answer (plain _ _ by 0 s t sh.engine_answer kept none (leases res) sh.made_so.0) sh.is_shown
  performed (GiveBack lease) by s t a kept none sh =
      crossed _ s t a sh.engine_answer (plain _ _ by 0 s t sh.engine_answer kept none (gives_back lease) sh.made_so) sh.is_shown

  -- with what is handed out --------------------------------------------------------------------------------

  none_handed : (asked : Asked) (by : ℕ) (s t : State) (o : Result Outcome Refusal) → IsPromised s → s.parts.lanes.fresh ≡ [] →
      Shows (IsPerformed g asked by s t) of_made o → Came by s t o
  none_handed asked by s t o kept none sh = by_answer sh.engine_answer (performed asked by s t sh.engine_answer kept none sh.made_so) sh.is_shown where
    by_answer : (r : Result Made Refusal) → Names s t (due_if r t) → o ≡ shown of_made r → Came by s t o
    by_answer (Ok made) p same = subst (λ (y : Result Outcome Refusal). Came by s t y) (sym same) p
    by_answer (Err why) p same = subst (λ (y : Result Outcome Refusal). Came by s t y) (sym same) p

  -- the lane of an item that is given is served then, and nothing else changed
  only_named : (name n : LaneName) → is_named n (record { lane = name; inside = false } ∷ []) ≡ true → name ≡ n
  only_named name n is = by_name (is_name n name) refl is where
    by_name : (b : Bool) → is_name n name ≡ b → ((b && true) || false) ≡ true → name ≡ n
    by_name true same so = sym (same_name n name same)
    by_name false differs so = absurd (false≢true so)

  taken_then : (by : ℕ) (e : Sent) (s m t : State) → Names s m m.parts.lanes.due → m.parts.lanes.due ≡ record { lane = e.lane; inside = false } ∷ [] →
      IsTake e.lane false by m t (Some e) → Hands by s t
  taken_then by e s m t p alone_due take = record {
    name = e.lane;
    due = take_due e.lane false by m t (Some e) take refl ∙ alone_due;
    left = λ n is. was n is (p.left n (take_left e.lane false by m t (Some e) take n is));
    served = λ n word is. elim (take_served e.lane false by m t (Some e) take n word is) [
      | inl before ↦ inl (p.served n word before)
      | inr now ↦ inr (now.0, now.1)
    ];
    settled = take_fresh e.lane false by m t (Some e) take p.settled;
  } where
    was : (n : LaneName) → IsLeft t.parts.lanes n → IsLeft s.parts.lanes n ⊎ (is_named n m.parts.lanes.due ≡ true) → IsLeft s.parts.lanes n
    was n is (inl before) = before
    was n is (inr named) =
        let at = only_named e.lane n (ap (is_named n) (sym alone_due) ∙ named) in
        absurd (take_clears e.lane false by m t (Some e) take refl (subst (IsLeft t.parts.lanes) (sym at) is))

  handed : (leaf : Key) (by value : ℕ) (s t : State) (r : Result (Option Sent) Refusal) → IsPromised s → s.parts.lanes.fresh ≡ [] →
      IsNextHanded g leaf by value s t r → Came by s t (shown of_given r)
  handed leaf by value s t (Ok None) kept none made =
      subst (λ (x : State). Names s x x.parts.lanes.due) (sym made.done.hands)
      (by_command s made.done.between kept none (has_done by value (emits leaf (pos 0)) made.done.made))
  handed leaf by value s t (Ok (Some e)) kept none made =
      taken_then by e s made.done.between t (by_command s made.done.between kept none (has_done by value (emits leaf (pos 0)) made.done.made))
      made.done.hands.0 made.done.hands.1
  handed leaf by value s t (Err why) kept none made = by_command s t kept none (is_refused made.kept)

  one_handed : (leaf : Key) (value by : ℕ) (s t : State) (o : Result Outcome Refusal) → IsPromised s → s.parts.lanes.fresh ≡ [] →
      Shows (IsNextHanded g leaf by value s t) of_given o → Came by s t o
  one_handed leaf value by s t o kept none sh =
      subst (λ (y : Result Outcome Refusal). Came by s t y) (sym sh.is_shown) (handed leaf by value s t sh.engine_answer kept none sh.made_so)

  comes : (asked : Asked) (by : ℕ) (s t : State) (o : Result Outcome Refusal) → IsPromised s → s.parts.lanes.fresh ≡ [] → ComesTo g asked by s t o →
      Came by s t o
  comes (Next leaf value true) by s t o kept none c = one_handed leaf value by s t o kept none c
  comes (Next leaf value false) by s t o kept none c = none_handed (Next leaf value false) by s t o kept none c
  comes asked by s t o kept none c = none_handed asked by s t o kept none c

  -- behind a checkpoint ------------------------------------------------------------------------------------

  behind : (by : ℕ) (s t u : State) (o : Result Outcome Refusal) → Names s t [] → Came by t u o → Came by s u o
  behind by s t u (Err why) p q = then_names p q
  behind by s t u (Ok o) p q = by_given o.given q where
    was : (n : LaneName) → IsLeft s.parts.lanes n ⊎ (false ≡ true) → IsLeft s.parts.lanes n
    was n (inl is) = is
    was n (inr nay) = absurd (false≢true nay)

    by_given : (given : Option Sent) → HandsIf by t u given → HandsIf by s u given
    by_given None more = then_names p more
    by_given (Some e) more = record {
      name = more.name;
      due = more.due;
      left = λ n is. was n (p.left n (more.left n is));
      served = λ n word is. elim (more.served n word is) [ inl before ↦ inl (p.served n word before) | inr now ↦ inr now ];
      settled = more.settled;
    }

  tidied : (s t : Cellar) (answer : Result ℕ Refusal) → s.engine.parts.lanes.fresh ≡ [] → Tidies s t answer → Names s.engine t.engine []
  tidied s t (Ok at) none tidies = by_command s.engine t.engine tidies.stood none (has_checkpointed tidies.made.made)
  tidied s t (Err why) none tidies = quiet_is s.engine t.engine tidies.made.kept none

  tidy : (b : Bool) (s u : Cellar) → IsPromised s.engine → s.engine.parts.lanes.fresh ≡ [] → IsTidyIf b s u →
      Names s.engine u.engine [] × IsPromised u.engine
  tidy true s u kept none is = (tidied s u is.answer none is.tidies, is.tidies.stands)
  tidy false s u kept none same =
      (quiet_is s.engine u.engine (ap (λ (x : Cellar). x.engine) same) none, subst (λ (x : Cellar). IsPromised x.engine) (sym same) kept)

  tried_again : (asked : Asked) (by : ℕ) (s t : Cellar) (o : Result Outcome Refusal) → s.engine.parts.lanes.fresh ≡ [] → IsTriedAgain g asked by s t o →
      Came by s.engine t.engine o
  tried_again asked by s t o none (behind_one at u tidies made) =
      let before = tidied s u (Ok at) none tidies in
      behind by s.engine u.engine t.engine o before (comes asked by u.engine t.engine o tidies.stands before.settled made.performed)
  tried_again asked by s t _ none (behind_none {why = why} tidies) = tidied s t (Err why) none tidies

  tried : (asked : Asked) (by : ℕ) (s t : Cellar) (o : Result Outcome Refusal) → IsPromised s.engine → s.engine.parts.lanes.fresh ≡ [] →
      IsTried g asked by s t o → Came by s.engine t.engine o
  tried asked by s t o kept none (at_once other made) = comes asked by s.engine t.engine o kept none made.performed
  tried asked by s t o kept none (once_more u first again) =
      let before = comes asked by s.engine u.engine (Err Full) kept none first.performed in
      behind by s.engine u.engine t.engine o before (tried_again asked by u t o before.settled again)

  -- of a command of numbers ----------------------------------------------------------------------------------

  asked_leaves : (asked : Asked) (by : ℕ) (s t : Cellar) (a b : Answer) (given : Option Effect) (status : ℕ) → IsPromised s.engine →
      s.engine.parts.lanes.fresh ≡ [] → IsAskedMade g asked by s t a b given status → Leaves by s.engine t.engine given status
  asked_leaves asked by s t a b given _ kept none (is_done o u v tidies made counts tells gives) =
      let before = tidy (is_due s) s u kept none tidies in
      was_done refl (record {
        sent = o.given;
        crosses = gives;
        came = subst (λ (x : State). HandsIf by s.engine x o.given) (sym (ap (λ (c : Cellar). c.engine) counts))
            (behind by s.engine u.engine v.engine (Ok o) before.0 (tried asked by u v (Ok o) before.1 before.0.settled made));
      })
  asked_leaves asked by s t a b given _ kept none (is_not_done why u tidies made same nothing) =
      let before = tidy (is_due s) s u kept none tidies in
      was_refused (not_done why) nothing (then_names before.0 (tried asked by u t (Err why) before.1 before.0.settled made))

  pub command_leaves : (asked : Option Asked) (by : ℕ) (s t : Cellar) (a b : Answer) (given : Option Effect) (status : ℕ) → IsPromised s.engine →
      s.engine.parts.lanes.fresh ≡ [] → IsCommandMade g asked by s t a b given status → Leaves by s.engine t.engine given status
  command_leaves None by s t a b given status kept none (five, same, stays, nothing) =
      was_refused (ap (λ (n : ℕ). n == 0) five) nothing (quiet_is s.engine t.engine (ap (λ (c : Cellar). c.engine) same) none)
  command_leaves (Some asked) by s t a b given status kept none made = asked_leaves asked by s t (no_answer a) b given status kept none made
