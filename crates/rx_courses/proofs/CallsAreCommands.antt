-- Each contract of a call says that it is a command.
use Rattle.std.proofs.Common.{◌≡◌, ℕ, true, Option, Some, None, Ok, Err, Result, pos, refl, sym, arith, subst}
use Rattle.std.specs.Prelude.{OnOk, OnErr}
use Rattle.rx_resource.specs.declared.Resource.{Ghosts}
use Rattle.rx_resource.specs.declared.token.Token.{Token}
use Rattle.rx_event.specs.declared.refusal.Refusal.{Refusal}
use Rattle.rx_book.specs.State.{State as BookState}
use Rattle.rx_book.specs.Requests.{Request}
use Rattle.rx_event.specs.declared.event.Kind.{Kind}
use Rattle.rx_book.specs.declared.answer.At.{At}
use Rattle.rx_slots.specs.declared.Key.{Key}
use Rattle.rx_roles.specs.declared.effect.Effect.{Effect}
use Rattle.rx_pool.specs.declared.search.Share.{Share}
use Rattle.rx_engine.specs.declared.parts.User.{User}
use Rattle.rx_engine.specs.declared.parts.Used.{Used}
use Rattle.rx_engine.specs.declared.sharing.Subscribed.{Subscribed}
use Rattle.rx_engine.specs.declared.sharing.Connected.{Connected}
use Rattle.rx_engine.specs.States.{State, IsSeenAs}
use Rattle.rx_engine.specs.Openings.{connects_none}
use Rattle.rx_engine.specs.Usings.{IsUsingMade}
use Rattle.rx_engine.specs.Checkpoints.{IsCheckpointMade}
use Rattle.rx_engine.specs.Commands.{IsMade}
use Rattle.rx_engine.specs.LettingGo.{IsNext, next_lease, next_root, next_hub, IsClosingMade}
use Rattle.rx_engine.specs.Handings.{IsNextHanded}
use Rattle.rx_engine.specs.Plain.{IsPlain, emits, gives_back, disposes, disconnects}
use Rattle.rx_engine.specs.Sharings.{IsSubscribeMade, IsConnectMade, IsDisconnectMade, none_serves, one_serves}
use Rattle.rx_courses.specs.Courses.{IsCommand, is_refused, has_done, has_held, has_used, has_opened, has_put, has_subscribed, has_connected, has_made_hubs, has_checkpointed}
use Rattle.rx_courses.specs.Calls.{IsMadeAndTaken, hands_none, hands_one, AreCommands}

pub seen_same : (s : State) → IsSeenAs s s
seen_same s = record {
  book = refl;
  parts = record {
    homes = refl;
    hears = refl;
    merges = refl;
    holds = refl;
    effects = refl;
    shares = refl;
    hubs = refl;
    lanes = record { lanes = λ name. refl; fresh_is = refl; next_turn = refl; due = refl };
    copies = refl;
    room = omega arith;
    spare = omega arith;
  };
  wishes = refl;
  closings = refl;
}

-- nothing at all changed
unchanged : (g : Ghosts Token) (s t : State) → t ≡ s → IsCommand g s t
unchanged g s t same = is_refused (subst (λ (x : State). IsSeenAs s x) (sym same) (seen_same s))

plain_command : {A : Type 0} (g : Ghosts Token) (refuses : Refusal → Type 0) (asked : Request) (by value : ℕ) (s t : State) (answer : Result A Refusal) →
    IsPlain s.book asked → IsMade g refuses asked by value s t answer → IsCommand g s t
plain_command g refuses asked by value s t (Ok a) plain made = has_done by value plain made.done
plain_command g refuses asked by value s t (Err why) plain made = is_refused made.kept

disconnect_command : {A : Type 0} (g : Ghosts Token) (word by : ℕ) (s t : State) (answer : Result A Refusal) → IsDisconnectMade g word by s t answer →
    IsCommand g s t
disconnect_command g word by s t answer (none_serves none seen) = is_refused seen
disconnect_command g word by s t answer (one_serves place hub last there made) = plain_command g _ _ by 0 s t answer (disconnects hub.number) made

next_plain : (b : BookState) (asked : Request) → IsNext b asked → IsPlain b asked
next_plain b asked (next_lease k first known) = gives_back k
next_plain b asked (next_root k none first known) = disposes k
next_plain b asked (next_hub hub none none_open first) = disconnects hub

closing_command : {A : Type 0} (g : Ghosts Token) (by : ℕ) (s t : State) (answer : Result A Refusal) → IsClosingMade g by s t answer → IsCommand g s t
closing_command g by s t (Ok a) made = has_done by 0 (next_plain s.book made.done.asked made.done.next) made.done.done
closing_command g by s t (Err why) made = unchanged g s t made.kept

-- one that was done, or refused with nothing changed but room
done_or_kept : {A : Type 0} {Done : Type 0} (g : Ghosts Token) (s t : State) (answer : Result A Refusal) → OnOk answer Done → OnErr answer (IsSeenAs s t) →
    (Done → IsCommand g s t) → IsCommand g s t
done_or_kept g s t (Ok a) done kept command = command done
done_or_kept g s t (Err why) done kept command = is_refused kept

used_command : (g : Ghosts Token) (at : At) (kind : Kind) (user : User) (tag by : ℕ) (s t : State) (answer : Result Used Refusal) → connects_none kind ≡ true →
    IsUsingMade g at kind user tag by s t answer → IsCommand g s t
used_command g at kind user tag by s t (Ok used) alone made = has_used at kind user tag by alone made.done.0
used_command g at kind user tag by s t (Err why) alone made = is_refused made.kept

subscribed_command : (g : Ghosts Token) (at : At) (share : Share) (user : User) (by : ℕ) (s t : State) (answer : Result Subscribed Refusal) →
    IsSubscribeMade g at share user by s t answer → IsCommand g s t
subscribed_command g at share user by s t (Ok u) made = has_subscribed at share user by u.place made.done.0
subscribed_command g at share user by s t (Err why) made = is_refused made.kept

connected_command : (g : Ghosts Token) (share : Share) (user : User) (by : ℕ) (s t : State) (answer : Result Connected Refusal) →
    IsConnectMade g share user by s t answer → IsCommand g s t
connected_command g share user by s t (Ok u) made = has_connected share user by u.place made.done
connected_command g share user by s t (Err why) made = is_refused made.kept

checkpoint_command : (g : Ghosts Token) (s t : State) (answer : Result ℕ Refusal) → IsCheckpointMade s t answer → IsCommand g s t
checkpoint_command g s t (Ok at) made = has_checkpointed made.made
checkpoint_command g s t (Err why) made = unchanged g s t made.kept

handed_out : (g : Ghosts Token) (leaf : Key) (by value : ℕ) (s t : State) (answer : Result (Option Effect) Refusal) → IsNextHanded g leaf by value s t answer →
    IsMadeAndTaken g by s t
handed_out g leaf by value s t (Ok None) made =
    hands_none (subst (λ (x : State). IsCommand g s x) (sym made.done.hands) (has_done by value (emits leaf (pos 0)) made.done.made))
handed_out g leaf by value s t (Ok (Some e)) made =
    hands_one made.done.between e (has_done by value (emits leaf (pos 0)) made.done.made) made.done.promised made.done.hands.1
handed_out g leaf by value s t (Err why) made = hands_none (is_refused made.kept)

pub are_commands : (A : Type 0) (g : Ghosts Token) → AreCommands A g
are_commands A g = record {
  plain_free = λ asked by value s t answer plain made. plain_command g _ asked by value s t answer plain made;
  plain_costly = λ asked by value s t answer plain made. plain_command g _ asked by value s t answer plain made;
  opens = λ at kind user by s t answer alone made. done_or_kept g s t answer made.done made.kept (λ d. has_opened at kind user by alone d);
  holds = λ node tag by s t answer made. done_or_kept g s t answer made.done made.kept (λ d. has_held node tag by d);
  uses = λ at kind user tag by s t answer alone made. used_command g at kind user tag by s t answer alone made;
  puts = λ to user value by s t answer made. done_or_kept g s t answer made.done made.kept (λ d. has_put to user value by d);
  subscribes = λ at share user by s t answer made. subscribed_command g at share user by s t answer made;
  connects = λ share user by s t answer made. connected_command g share user by s t answer made;
  disconnects = λ word by s t answer made. disconnect_command g word by s t answer made;
  makes_hubs = λ by s t answer made. has_made_hubs by made.makes;
  checkpoints = λ s t answer made. checkpoint_command g s t answer made;
  hands_out = λ leaf by value s t answer made. handed_out g leaf by value s t answer made;
  lets_go = λ by s t answer made. closing_command g by s t answer made;
}
