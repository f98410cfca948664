-- A command, with the checkpoint and the hubs that are made for it and what is handed out with it, is a course of the engine.
use Rattle.std.proofs.Common.{◌≡◌, ℕ, ◌++◌, Bool, true, false, List, [], ◌∷◌, Option, Some, None, Result, Ok, Err, pos, refl, sym, ap, subst, ◌∙◌, append-nil}
use Rattle.rx_resource.specs.declared.Resource.{Ghosts}
use Rattle.rx_resource.specs.declared.token.Token.{Token}
use Rattle.rx_note.specs.declared.note.Terminal.TheVariants.{Completed, Error}
use Rattle.rx_event.specs.declared.refusal.Refusal.{Refusal}
use Rattle.rx_event.specs.declared.refusal.Refusal.TheVariants.{Full, NoHub}
use Rattle.rx_slots.specs.declared.Key.{Key}
use Rattle.rx_book.specs.Requests.{Request}
use Rattle.rx_lanes.specs.declared.names.LaneName.{LaneName}
use Rattle.rx_lanes.specs.declared.names.Due.{Due}
use Rattle.rx_lanes.specs.Lane.{Lane}
use Rattle.rx_lanes.specs.State.{lane}
use Rattle.rx_roles.specs.declared.effect.Effect.{Effect as Sent}
use Rattle.rx_engine.specs.States.{State, IsPromised}
use Rattle.rx_engine.specs.Commands.{IsMade as IsCommandOfBook}
use Rattle.rx_engine.specs.Handings.{IsNextHanded}
use Rattle.rx_engine.specs.LettingGo.{IsClosingMade}
use Rattle.rx_engine.specs.Openings.{connects_none}
use Rattle.rx_engine.specs.Plain.{IsPlain, emits, ends, aborts, declines, fails, disposes, applies, removes, leases, gives_back, disconnects}
use Rattle.rx_engine.specs.Servings.{IsTake}
use Rattle.rx_engine.specs.Sharings.{IsSubscribeMade, IsConnectMade, IsDisconnectMade, none_serves, one_serves}
use Rattle.rx_engine.specs.declared.parts.User.{User}
use Rattle.rx_engine.specs.declared.sharing.Subscribed.{Subscribed}
use Rattle.rx_engine.specs.declared.sharing.Connected.{Connected as NewConnection}
use Rattle.rx_engine.proofs.Laws.PlainCalls.{next_plain}
use Rattle.rx_pool.specs.declared.search.Share.{Share}
use Rattle.rx_book.specs.declared.answer.At.{At}
use Rattle.rx_courses.specs.Courses.{is_refused, has_done, has_held, has_used, has_opened, has_put, has_subscribed, has_connected, has_made_hubs, has_checkpointed}
use Rattle.rx_cellar.specs.declared.making.Made.{Made}
use Rattle.rx_cellar.specs.declared.asked.OwnKind.{OwnKind}
use Rattle.rx_cellar.specs.declared.asked.OwnKind.TheVariants.{Leaf as OwnLeaf, Pass as OwnPass, Flat as OwnFlat, Switch as OwnSwitch, Until as OwnUntil}
use Rattle.rx_cellar.specs.declared.asked.Asked.{Asked}
use Rattle.rx_cellar.specs.declared.asked.Asked.TheVariants.{Open, Subscribe, Using, Hold, Next, Complete, Error as Fails, Fail, Decline, Dispose, Connect, Disconnect}
use Rattle.rx_cellar.specs.declared.asked.Asked.TheVariants.{Put, Shut, Abort, Apply, Remove, Lease, GiveBack}
use Rattle.rx_cellar.specs.declared.cellar.Cellar.{Cellar}
use Rattle.rx_cellar.specs.declared.shapes.Effect.{Effect}
use Rattle.rx_cellar.specs.Asking.{kind_of}
use Rattle.rx_cellar.specs.Cellars.{Tidies, IsTidyIf, IsTried, at_once, once_more, IsTriedAgain, behind_one, behind_none}
use Rattle.rx_cellar.specs.Crossings.{effect_of}
use Rattle.rx_cellar.specs.Makings.{shown, Shows, WithHubs, found_one as found_hub, made_none, made_all, IsPerformed, Outcome, of_made, of_given, ComesTo}
use Rattle.rx_turns.specs.Courses.{Seen, handed_in, was_told, tag_asked}
use Rattle.rx_turns.specs.Courses.{IsEngineCourse}
use Rattle.rx_turns.proofs.Laws.CoursesTold.{unchanged, by_command, by_take, and_then}

-- commands -----------------------------------------------------------------------------------------------

abbrev if_ok : {A : Type 0} → List Seen → Result A Refusal → List Seen
if_ok acts (Ok a) = acts
if_ok acts (Err why) = []

no_tag : (g : Ghosts Token) (s t : State) (a : Result Made Refusal) → IsEngineCourse g s t [] → IsEngineCourse g s t (if_ok [] a)
no_tag g s t (Ok made) p = p
no_tag g s t (Err why) p = p

plain : {A : Type 0} (g : Ghosts Token) (refuses : Refusal → Type 0) (asked : Request) (by value : ℕ) (s t : State) (r : Result A Refusal) → IsPromised s →
    IsPlain s.book asked → IsCommandOfBook g refuses asked by value s t r → IsEngineCourse g s t []
plain g refuses asked by value s t (Ok a) kept is made = by_command g s t kept (has_done by value is made.done)
plain g refuses asked by value s t (Err why) kept is made = by_command g s t kept (is_refused made.kept)

disconnected : {A : Type 0} (g : Ghosts Token) (word by : ℕ) (s t : State) (r : Result A Refusal) → IsPromised s → IsDisconnectMade g word by s t r →
    IsEngineCourse g s t []
disconnected g word by s t r kept (none_serves none seen) = by_command g s t kept (is_refused seen)
disconnected g word by s t r kept (one_serves place hub last there made) = plain g _ _ by 0 s t r kept (disconnects hub.number) made

let_go : {A : Type 0} (g : Ghosts Token) (by : ℕ) (s t : State) (r : Result A Refusal) → IsPromised s → IsClosingMade g by s t r → IsEngineCourse g s t []
let_go g by s t (Ok a) kept made = by_command g s t kept (has_done by 0 (next_plain s.book made.done.asked made.done.next) made.done.done)
let_go g by s t (Err why) kept made = unchanged g s t made.kept

subscribed : (g : Ghosts Token) (at : At) (share : Share) (user : User) (by : ℕ) (s t : State) (r : Result Subscribed Refusal) → IsPromised s →
    IsSubscribeMade g at share user by s t r → IsEngineCourse g s t []
subscribed g at share user by s t (Ok u) kept made = by_command g s t kept (has_subscribed at share user by u.place made.done.0)
subscribed g at share user by s t (Err why) kept made = by_command g s t kept (is_refused made.kept)

connected : (g : Ghosts Token) (share : Share) (user : User) (by : ℕ) (s t : State) (r : Result NewConnection Refusal) → IsPromised s →
    IsConnectMade g share user by s t r → IsEngineCourse g s t []
connected g share user by s t (Ok u) kept made = by_command g s t kept (has_connected share user by u.place made.done)
connected g share user by s t (Err why) kept made = by_command g s t kept (is_refused made.kept)

with_hubs : (g : Ghosts Token) (by : ℕ) (is : State → State → Result Made Refusal → Type 0) →
    ((s t : State) (a : Result Made Refusal) → IsPromised s → is s t a → IsEngineCourse g s t []) →
    (s t : State) (a : Result Made Refusal) → IsPromised s → WithHubs g by is s t a → IsEngineCourse g s t []
with_hubs g by is once s t a kept (found_hub other says) = once s t a kept says
with_hubs g by is once s t a kept (made_none u first stands hubs) =
    and_then (once s u (Err NoHub) kept first) (by_command g u t stands (has_made_hubs by hubs.makes))
with_hubs g by is once s t a kept (made_all u v ok first stands hubs still again) =
    and_then (once s u (Err NoHub) kept first) (and_then (by_command g u v stands (has_made_hubs by hubs.makes)) (once v t a still again))

-- of a command that hands in a tag
with_tag : {A : Type 0} (is : Result A Refusal → Type 0) (made : A → Made) (g : Ghosts Token) (s t : State) (acts : List Seen) (a : Result Made Refusal) →
    Shows is made a → ((x : A) → is (Ok x) → IsEngineCourse g s t acts) → ((why : Refusal) → is (Err why) → IsEngineCourse g s t []) →
    IsEngineCourse g s t (if_ok acts a)
with_tag {A} is made g s t acts a sh done kept = by_answer sh.engine_answer sh.made_so sh.is_shown where
  by_answer : (r : Result A Refusal) → is r → a ≡ shown made r → IsEngineCourse g s t (if_ok acts a)
  by_answer (Ok x) so same = subst (λ (y : Result Made Refusal). IsEngineCourse g s t (if_ok acts y)) (sym same) (done x so)
  by_answer (Err why) so same = subst (λ (y : Result Made Refusal). IsEngineCourse g s t (if_ok acts y)) (sym same) (kept why so)

pub alone : (kind : OwnKind) → connects_none (kind_of kind) ≡ true
alone OwnLeaf = refl
alone OwnPass = refl
alone OwnFlat = refl
alone OwnSwitch = refl
alone OwnUntil = refl

performed : (g : Ghosts Token) (asked : Asked) (by : ℕ) (s t : State) (a : Result Made Refusal) → IsPromised s → IsPerformed g asked by s t a →
    IsEngineCourse g s t (if_ok (tag_asked (Some asked)) a)
performed g (Open at kind user) by s t a kept sh =
    with_tag _ _ g s t [] a sh (λ x so. by_command g s t kept (has_opened at (kind_of kind) user by (alone kind) so.done))
    (λ why so. by_command g s t kept (is_refused so.kept))
performed g (Subscribe at share hint user) by s t a kept hubs =
    no_tag g s t a (with_hubs g by _ (λ s' t' a' kept' sh. subscribed g at share user by s' t' sh.engine_answer kept' sh.made_so) s t a kept hubs)
performed g (Using at user tag) by s t a kept sh =
    with_tag _ _ g s t (handed_in tag ∷ []) a sh (λ x so. by_command g s t kept (has_used at (kind_of OwnPass) user tag by refl so.done.0))
    (λ why so. by_command g s t kept (is_refused so.kept))
performed g (Hold node tag) by s t a kept sh =
    with_tag _ _ g s t (handed_in tag ∷ []) a sh (λ x so. by_command g s t kept (has_held node tag by so.done))
    (λ why so. by_command g s t kept (is_refused so.kept))
performed g (Next leaf value may_hand) by s t a kept sh = no_tag g s t a (plain g _ _ by value s t sh.engine_answer kept (emits leaf (pos 0)) sh.made_so)
performed g (Complete leaf) by s t a kept sh = no_tag g s t a (plain g _ _ by 0 s t sh.engine_answer kept (ends leaf Completed) sh.made_so)
performed g (Fails leaf value) by s t a kept sh = no_tag g s t a (plain g _ _ by value s t sh.engine_answer kept (ends leaf (Error 0)) sh.made_so)
performed g (Fail merging value) by s t a kept sh = no_tag g s t a (plain g _ _ by value s t sh.engine_answer kept (fails merging 0) sh.made_so)
performed g (Decline merging) by s t a kept sh = no_tag g s t a (plain g _ _ by 0 s t sh.engine_answer kept (declines merging) sh.made_so)
performed g (Dispose root) by s t a kept sh = no_tag g s t a (plain g _ _ by 0 s t sh.engine_answer kept (disposes root) sh.made_so)
performed g (Connect share hint user) by s t a kept hubs =
    no_tag g s t a (with_hubs g by _ (λ s' t' a' kept' sh. connected g share user by s' t' sh.engine_answer kept' sh.made_so) s t a kept hubs)
performed g (Disconnect word hint) by s t a kept sh = no_tag g s t a (disconnected g word by s t sh.engine_answer kept sh.made_so)
performed g (Put to user value) by s t a kept sh =
    with_tag _ _ g s t [] a sh (λ x so. by_command g s t kept (has_put to user value by so.done)) (λ why so. by_command g s t kept (is_refused so.kept))
performed g Shut by s t a kept sh = no_tag g s t a (let_go g by s t sh.engine_answer kept sh.made_so)
performed g (Abort node value) by s t a kept sh = no_tag g s t a (plain g _ _ by value s t sh.engine_answer kept (aborts node 0) sh.made_so)
performed g (Apply res) by s t a kept sh = no_tag g s t a (plain g _ _ by 0 s t sh.engine_answer kept (applies res) sh.made_so)
performed g (Remove res) by s t a kept sh = no_tag g s t a (plain g _ _ by 0 s t sh.engine_answer kept (removes res) sh.made_so)
performed g (Lease res) by s t a kept sh = no_tag g s t a (plain g _ _ by 0 s t sh.engine_answer kept (leases res) sh.made_so.0)
performed g (GiveBack lease) by s t a kept sh = no_tag g s t a (plain g _ _ by 0 s t sh.engine_answer kept (gives_back lease) sh.made_so)

-- what is handed out -------------------------------------------------------------------------------------

-- of the first lane that is due
abbrev pub told_first : List Due → Effect → List Seen
told_first [] e = []
told_first (d ∷ ds) e = was_told d.lane e ∷ []

abbrev pub told_due : List Due → Option Sent → List Seen
told_due due None = []
told_due due (Some sent) = told_first due (effect_of sent)

abbrev told_if : List Due → Result (Option Sent) Refusal → List Seen
told_if due (Ok given) = told_due due given
told_if due (Err why) = []

-- a lane that gave something was there, so what is due stays
due_kept : (name : LaneName) (by : ℕ) (s t : State) (e : Sent) → IsTake name false by s t (Some e) → t.parts.lanes.due ≡ s.parts.lanes.due
due_kept name by s t e take = by_lane (lane s.parts.lanes name) refl where
  by_lane : (o : Option (Lane Sent)) → lane s.parts.lanes name ≡ o → t.parts.lanes.due ≡ s.parts.lanes.due
  by_lane None gone = absurd (let none = take.absent gone in cc)
  by_lane (Some l) found = (take.takes l found).due

handed_out : (g : Ghosts Token) (leaf : Key) (by value : ℕ) (s t : State) (r : Result (Option Sent) Refusal) → IsPromised s →
    IsNextHanded g leaf by value s t r → IsEngineCourse g s t (told_if t.parts.lanes.due r)
handed_out g leaf by value s t (Ok None) kept made =
    and_then (by_command g s made.done.between kept (has_done by value (emits leaf (pos 0)) made.done.made))
    (unchanged g made.done.between t made.done.hands)
handed_out g leaf by value s t (Ok (Some e)) kept made =
    subst (λ (due : List Due). IsEngineCourse g s t (told_first due (effect_of e)))
    (sym (due_kept e.lane by made.done.between t e made.done.hands.1 ∙ made.done.hands.0))
    (and_then (by_command g s made.done.between kept (has_done by value (emits leaf (pos 0)) made.done.made))
    (by_take g made.done.between t e.lane false by (Some e) made.done.promised made.done.hands.1))
handed_out g leaf by value s t (Err why) kept made = by_command g s t kept (is_refused made.kept)

abbrev acts_come : Asked → List Due → Result Outcome Refusal → List Seen
acts_come asked due (Ok o) = tag_asked (Some asked) ++ told_due due o.given
acts_come asked due (Err why) = []

none_handed : (g : Ghosts Token) (asked : Asked) (by : ℕ) (s t : State) (o : Result Outcome Refusal) → IsPromised s →
    Shows (IsPerformed g asked by s t) of_made o → IsEngineCourse g s t (acts_come asked t.parts.lanes.due o)
none_handed g asked by s t o kept sh = by_answer sh.engine_answer (performed g asked by s t sh.engine_answer kept sh.made_so) sh.is_shown where
  by_answer : (r : Result Made Refusal) → IsEngineCourse g s t (if_ok (tag_asked (Some asked)) r) → o ≡ shown of_made r →
      IsEngineCourse g s t (acts_come asked t.parts.lanes.due o)
  by_answer (Ok made) p same =
      subst (λ (y : Result Outcome Refusal). IsEngineCourse g s t (acts_come asked t.parts.lanes.due y)) (sym same)
      (subst (λ (xs : List Seen). IsEngineCourse g s t xs) (sym (append-nil (tag_asked (Some asked)))) p)
  by_answer (Err why) p same = subst (λ (y : Result Outcome Refusal). IsEngineCourse g s t (acts_come asked t.parts.lanes.due y)) (sym same) p

one_handed : (g : Ghosts Token) (leaf : Key) (value by : ℕ) (s t : State) (o : Result Outcome Refusal) → IsPromised s →
    Shows (IsNextHanded g leaf by value s t) of_given o → IsEngineCourse g s t (acts_come (Next leaf value true) t.parts.lanes.due o)
one_handed g leaf value by s t o kept sh = by_answer sh.engine_answer (handed_out g leaf by value s t sh.engine_answer kept sh.made_so) sh.is_shown where
  by_answer : (r : Result (Option Sent) Refusal) → IsEngineCourse g s t (told_if t.parts.lanes.due r) → o ≡ shown of_given r →
      IsEngineCourse g s t (acts_come (Next leaf value true) t.parts.lanes.due o)
  by_answer (Ok given) p same =
      subst (λ (y : Result Outcome Refusal). IsEngineCourse g s t (acts_come (Next leaf value true) t.parts.lanes.due y)) (sym same) p
  by_answer (Err why) p same =
      subst (λ (y : Result Outcome Refusal). IsEngineCourse g s t (acts_come (Next leaf value true) t.parts.lanes.due y)) (sym same) p

comes : (g : Ghosts Token) (asked : Asked) (by : ℕ) (s t : State) (o : Result Outcome Refusal) → IsPromised s → ComesTo g asked by s t o →
    IsEngineCourse g s t (acts_come asked t.parts.lanes.due o)
comes g (Next leaf value true) by s t o kept c = one_handed g leaf value by s t o kept c
comes g (Next leaf value false) by s t o kept c = none_handed g (Next leaf value false) by s t o kept c
comes g asked by s t o kept c = none_handed g asked by s t o kept c

-- behind a checkpoint ------------------------------------------------------------------------------------

tidied : (g : Ghosts Token) (s t : Cellar) (answer : Result ℕ Refusal) → Tidies s t answer → IsEngineCourse g s.engine t.engine []
tidied g s t (Ok at) tidies = by_command g s.engine t.engine tidies.stood (has_checkpointed tidies.made.made)
tidied g s t (Err why) tidies = unchanged g s.engine t.engine tidies.made.kept

pub tidy : (g : Ghosts Token) (b : Bool) (s u : Cellar) → IsPromised s.engine → IsTidyIf b s u → IsEngineCourse g s.engine u.engine [] × IsPromised u.engine
tidy g true s u kept is = (tidied g s u is.answer is.tidies, is.tidies.stands)
tidy g false s u kept same =
    (unchanged g s.engine u.engine (ap (λ (x : Cellar). x.engine) same), subst (λ (x : Cellar). IsPromised x.engine) (sym same) kept)

tried_again : (g : Ghosts Token) (asked : Asked) (by : ℕ) (s t : Cellar) (o : Result Outcome Refusal) → IsTriedAgain g asked by s t o →
    IsEngineCourse g s.engine t.engine (acts_come asked t.engine.parts.lanes.due o)
tried_again g asked by s t o (behind_one at u tidies made) =
    and_then (tidied g s u (Ok at) tidies) (comes g asked by u.engine t.engine o tidies.stands made.performed)
tried_again g asked by s t o (behind_none {why = why} tidies) = tidied g s t (Err why) tidies

pub tried : (g : Ghosts Token) (asked : Asked) (by : ℕ) (s t : Cellar) (o : Result Outcome Refusal) → IsPromised s.engine → IsTried g asked by s t o →
    IsEngineCourse g s.engine t.engine (acts_come asked t.engine.parts.lanes.due o)
tried g asked by s t o kept (at_once other made) = comes g asked by s.engine t.engine o kept made.performed
tried g asked by s t o kept (once_more u first again) =
    and_then (comes g asked by s.engine u.engine (Err Full) kept first.performed) (tried_again g asked by u t o again)
