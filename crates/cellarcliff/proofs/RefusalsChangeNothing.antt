-- A command that is refused leaves all as it was, but for room, a checkpoint and hubs.
use Rattle.std.proofs.Common.{◌≡◌, ◌≢◌, ℕ, Bool, true, false, Option, Some, None, Result, Ok, Err, refl, sym, ap, subst, ◌∙◌}
use Rattle.rx_resource.specs.declared.Resource.{Ghosts}
use Rattle.rx_resource.specs.declared.token.Token.{Token}
use Rattle.rx_event.specs.declared.refusal.Refusal.{Refusal}
use Rattle.rx_event.specs.declared.refusal.Refusal.TheVariants.{Full, NoHub}
use Rattle.rx_engine.specs.Sharings.{IsDisconnectMade, none_serves, one_serves}
use Rattle.rx_engine.specs.States.{State, IsSeenAs}
use Rattle.rx_cellar.specs.declared.shapes.Answer.{Answer}
use Rattle.rx_cellar.specs.declared.shapes.Effect.{Effect}
use Rattle.rx_cellar.specs.declared.making.Made.{Made}
use Rattle.rx_cellar.specs.declared.asked.Asked.{Asked}
use Rattle.rx_cellar.specs.declared.asked.Asked.TheVariants.{Open, Subscribe, Using, Hold, Next, Complete, Error, Fail, Decline, Dispose, Connect, Disconnect}
use Rattle.rx_cellar.specs.declared.asked.Asked.TheVariants.{Put, Shut, Abort, Apply, Remove, Lease, GiveBack}
use Rattle.rx_cellar.specs.declared.cellar.Cellar.{Cellar}
use Rattle.rx_cellar.specs.Cellars.{Tidies, IsTidyIf, is_due, IsTried, at_once, once_more, IsTriedAgain, behind_one, behind_none, IsAskedMade, is_done, is_refused}
use Rattle.rx_cellar.specs.Cellars.{IsMadeIf}
use Rattle.rx_cellar.specs.Makings.{shown, Shows, WithHubs, found_one, made_none, made_all, IsPerformed, Outcome, ComesTo}
use Rattle.cellarcliff.specs.Refusals.{KeepsAllElse, is_as_before, got_room, made_checkpoint, made_hubs}

-- one after another --------------------------------------------------------------------------------------

and_then : {g : Ghosts Token} {s t u : State} → KeepsAllElse g s t → KeepsAllElse g t u → KeepsAllElse g s u
and_then first is_as_before = first
and_then first (got_room more seen) = got_room (and_then first more) seen
and_then first (made_checkpoint more made) = made_checkpoint (and_then first more) made
and_then first (made_hubs by more made) = made_hubs by (and_then first more) made

same_state : (g : Ghosts Token) (s t : State) → t ≡ s → KeepsAllElse g s t
same_state g s t same = subst (λ (x : State). KeepsAllElse g s x) (sym same) is_as_before

by_room : (g : Ghosts Token) (s t : State) → IsSeenAs s t → KeepsAllElse g s t
by_room g s t seen = got_room is_as_before seen

-- commands -----------------------------------------------------------------------------------------------

-- the engine refused what is shown as refused
shown_refused : {A B R : Type 0} (is : Result A Refusal → Type 0) (made : A → B) (why : Refusal) → Shows is made (Err why) →
    ((w : Refusal) → is (Err w) → R) → R
shown_refused {A} {B} {R} is made why sh refuses = by_answer sh.engine_answer sh.made_so sh.is_shown where
  by_answer : (r : Result A Refusal) → is r → Err why ≡ shown made r → R
  by_answer (Ok x) so same = absurd (cc)
  by_answer (Err w) so same = refuses w so

disconnected : {A : Type 0} (g : Ghosts Token) (word by : ℕ) (s t : State) (why : Refusal) → IsDisconnectMade {A = A} g word by s t (Err why) →
    KeepsAllElse g s t
disconnected {A} g word by s t why made = by_made (Err why) made refl where
  by_made : (r : Result A Refusal) → IsDisconnectMade g word by s t r → r ≡ Err why → KeepsAllElse g s t
  by_made r (none_serves none seen) is = by_room g s t seen
  by_made (Ok a) (one_serves place hub last there made) is = absurd (cc)
  by_made (Err w) (one_serves place hub last there made) is = by_room g s t made.kept

with_hubs : (g : Ghosts Token) (by : ℕ) (is : State → State → Result Made Refusal → Type 0) →
    ((s t : State) (why : Refusal) → is s t (Err why) → KeepsAllElse g s t) → (s t : State) (a : Result Made Refusal) (why : Refusal) →
    WithHubs g by is s t a → a ≡ Err why → KeepsAllElse g s t
with_hubs g by is refuses s t a why (found_one other says) same =
    refuses s t why (subst (λ (r : Result Made Refusal). is s t r) same says)
with_hubs g by is refuses s t a why (made_none u first stands hubs) same = made_hubs by (refuses s u NoHub first) hubs.makes
with_hubs g by is refuses s t a why (made_all u v ok first stands hubs still again) same =
    and_then (made_hubs by (refuses s u NoHub first) hubs.makes) (refuses v t why (subst (λ (r : Result Made Refusal). is v t r) same again))

performed : (g : Ghosts Token) (asked : Asked) (by : ℕ) (s t : State) (why : Refusal) → IsPerformed g asked by s t (Err why) → KeepsAllElse g s t
performed g (Open at kind user) by s t why sh = shown_refused _ _ why sh (λ w so. by_room g s t so.kept)
performed g (Subscribe at share hint user) by s t why hubs =
    with_hubs g by _ (λ s' t' w' sh. shown_refused _ _ w' sh (λ w so. by_room g s' t' so.kept)) s t (Err why) why hubs refl
performed g (Using at user tag) by s t why sh = shown_refused _ _ why sh (λ w so. by_room g s t so.kept)
performed g (Hold node tag) by s t why sh = shown_refused _ _ why sh (λ w so. by_room g s t so.kept)
performed g (Next leaf value may_hand) by s t why sh = shown_refused _ _ why sh (λ w so. by_room g s t so.kept)
performed g (Complete leaf) by s t why sh = shown_refused _ _ why sh (λ w so. by_room g s t so.kept)
performed g (Error leaf value) by s t why sh = shown_refused _ _ why sh (λ w so. by_room g s t so.kept)
performed g (Fail merging value) by s t why sh = shown_refused _ _ why sh (λ w so. by_room g s t so.kept)
performed g (Decline merging) by s t why sh = shown_refused _ _ why sh (λ w so. by_room g s t so.kept)
performed g (Dispose root) by s t why sh = shown_refused _ _ why sh (λ w so. by_room g s t so.kept)
performed g (Connect share hint user) by s t why hubs =
    with_hubs g by _ (λ s' t' w' sh. shown_refused _ _ w' sh (λ w so. by_room g s' t' so.kept)) s t (Err why) why hubs refl
performed g (Disconnect word hint) by s t why sh = shown_refused _ _ why sh (λ w so. disconnected g word by s t w so)
performed g (Put to user value) by s t why sh = shown_refused _ _ why sh (λ w so. by_room g s t so.kept)
performed g Shut by s t why sh = shown_refused _ _ why sh (λ w so. same_state g s t so.kept)
performed g (Abort node value) by s t why sh = shown_refused _ _ why sh (λ w so. by_room g s t so.kept)
performed g (Apply res) by s t why sh = shown_refused _ _ why sh (λ w so. by_room g s t so.kept)
performed g (Remove res) by s t why sh = shown_refused _ _ why sh (λ w so. by_room g s t so.kept)
performed g (Lease res) by s t why sh = shown_refused _ _ why sh (λ w so. by_room g s t so.0.kept)
performed g (GiveBack lease) by s t why sh = shown_refused _ _ why sh (λ w so. by_room g s t so.kept)

comes : (g : Ghosts Token) (asked : Asked) (by : ℕ) (s t : State) (why : Refusal) → ComesTo g asked by s t (Err why) → KeepsAllElse g s t
comes g (Next leaf value true) by s t why c = shown_refused _ _ why c (λ w so. by_room g s t so.kept)
comes g (Next leaf value false) by s t why c = shown_refused _ _ why c (λ w so. performed g (Next leaf value false) by s t w so)
comes g asked by s t why c = shown_refused _ _ why c (λ w so. performed g asked by s t w so)

-- behind a checkpoint ------------------------------------------------------------------------------------

-- the releases that were told are counted as before
pub record Leaves (g : Ghosts Token) (s t : Cellar) : Type 0 where
  pub engine : KeepsAllElse g s.engine t.engine
  pub released : t.released ≡ s.released

leaves_on : {g : Ghosts Token} {s t u : Cellar} → Leaves g s t → Leaves g t u → Leaves g s u
leaves_on first more = record { engine = and_then first.engine more.engine; released = more.released ∙ first.released }

tidied : (g : Ghosts Token) (s t : Cellar) (answer : Result ℕ Refusal) → Tidies s t answer → Leaves g s t
tidied g s t (Ok at) tidies =
    record { engine = made_checkpoint is_as_before tidies.made.made; released = ap (λ (x : Cellar). x.released) tidies.counts }
tidied g s t (Err why) tidies =
    record { engine = same_state g s.engine t.engine tidies.made.kept; released = ap (λ (x : Cellar). x.released) tidies.counts }

tidy : (g : Ghosts Token) (b : Bool) (s u : Cellar) → IsTidyIf b s u → Leaves g s u
tidy g true s u is = tidied g s u is.answer is.tidies
tidy g false s u same =
    record { engine = same_state g s.engine u.engine (ap (λ (x : Cellar). x.engine) same); released = ap (λ (x : Cellar). x.released) same }

tried_again : (g : Ghosts Token) (asked : Asked) (by : ℕ) (s t : Cellar) (o : Result Outcome Refusal) (why : Refusal) → IsTriedAgain g asked by s t o →
    o ≡ Err why → Leaves g s t
tried_again g asked by s t o why (behind_one at u tidies made) same =
    leaves_on (tidied g s u (Ok at) tidies)
    (record {
      engine = comes g asked by u.engine t.engine why (subst (λ (r : Result Outcome Refusal). ComesTo g asked by u.engine t.engine r) same made.performed);
      released = ap (λ (x : Cellar). x.released) made.only;
    })
tried_again g asked by s t o why (behind_none {why = w} tidies) same = tidied g s t (Err w) tidies

tried : (g : Ghosts Token) (asked : Asked) (by : ℕ) (s t : Cellar) (o : Result Outcome Refusal) (why : Refusal) → IsTried g asked by s t o →
    o ≡ Err why → Leaves g s t
tried g asked by s t o why (at_once other made) same = record {
  engine = comes g asked by s.engine t.engine why (subst (λ (r : Result Outcome Refusal). ComesTo g asked by s.engine t.engine r) same made.performed);
  released = ap (λ (x : Cellar). x.released) made.only;
}
tried g asked by s t o why (once_more u first again) same =
    leaves_on (record { engine = comes g asked by s.engine u.engine Full first.performed; released = ap (λ (x : Cellar). x.released) first.only })
    (tried_again g asked by u t o why again same)

-- calls --------------------------------------------------------------------------------------------------

asked_refused : (g : Ghosts Token) (asked : Asked) (by : ℕ) (s t : Cellar) (a b : Answer) (given : Option Effect) (status : ℕ) →
    IsAskedMade g asked by s t a b given status → status ≢ 0 → Leaves g s t × (b ≡ a)
asked_refused g asked by s t a b given status (is_done o u v tidies made counts tells gives) not_done = absurd (not_done refl)
asked_refused g asked by s t a b given status (is_refused why u tidies made same none) not_done =
    (leaves_on (tidy g (is_due s) s u tidies) (tried g asked by u t (Err why) why made refl), same)

pub call_refused : (g : Ghosts Token) (asked : Option Asked) (by : ℕ) (s t : Cellar) (a b : Answer) (given : Option Effect) (status : ℕ) →
    IsMadeIf g asked by s t a b given status → status ≢ 0 → Leaves g s t × (b ≡ a)
call_refused g None by s t a b given status (five, same, kept, none) not_done = (tidy g false s t same, kept)
call_refused g (Some asked) by s t a b given status is not_done = asked_refused g asked by s t a b given status is not_done
