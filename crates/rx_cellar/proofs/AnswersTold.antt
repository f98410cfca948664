-- What the engine answered is told; and so the command is made, or refused.
use Rattle.std.proofs.Common.{◌≡◌, ℕ, false, Option, Some, None, Result, Ok, Err, refl, sym, ap, ◌∙◌, subst}
use Rattle.rx_resource.specs.declared.Resource.{Ghosts}
use Rattle.rx_resource.specs.declared.token.Token.{Token}
use Rattle.rx_event.specs.declared.refusal.Refusal.{Refusal}
use Rattle.rx_engine.specs.States.{State}
use Rattle.rx_cellar.specs.Codes.{refusal_status}
use Rattle.rx_cellar.specs.declared.shapes.Answer.{Answer}
use Rattle.rx_cellar.specs.declared.making.Made.{Made}
use Rattle.rx_cellar.specs.declared.asked.Asked.{Asked}
use Rattle.rx_cellar.specs.declared.cellar.Cellar.{Cellar}
use Rattle.rx_cellar.specs.Asking.{asks_item}
use Rattle.rx_cellar.specs.Makings.{IsPerformed, shown}
use Rattle.rx_cellar.specs.Cellars.{told}
use Rattle.rx_cellar.specs.Attempts.{IsMadeOnceIf}
use Rattle.rx_cellar.specs.Frequent.{IsToldOrRefused}
use Rattle.rx_cellar.proofs.Tries.{plain_done, plain_refused}

pub made_told : (r : Result Made Refusal) (made : Made) (e : State) (a b : Answer) (n : ℕ) → r ≡ Ok made → b ≡ told made e a → n ≡ 0 → IsToldOrRefused r e a b n
made_told r made e a b n is tells done = subst (λ (x : Result Made Refusal). IsToldOrRefused x e a b n) (sym is) (tells, done)

pub refusal_told : (r : Result Made Refusal) (why : Refusal) (e : State) (a b : Answer) (n : ℕ) → r ≡ Err why → b ≡ a → n ≡ refusal_status why →
    IsToldOrRefused r e a b n
refusal_told r why e a b n is same status = subst (λ (x : Result Made Refusal). IsToldOrRefused x e a b n) (sym is) (same, status)

pub shown_told : {A : Type 0} (f : A → Made) (r : Result A Refusal) (x : A) (made : Made) (e : State) (a b : Answer) (n : ℕ) →
    r ≡ Ok x → made ≡ f x → b ≡ told made e a → n ≡ 0 → IsToldOrRefused (shown f r) e a b n
shown_told f r x made e a b n is made_is tells done =
    made_told (shown f r) (f x) e a b n (ap (shown f) is) (tells ∙ ap (λ (m : Made). told m e a) made_is) done

pub shown_refused : {A : Type 0} (f : A → Made) (r : Result A Refusal) (why : Refusal) (e : State) (a b : Answer) (n : ℕ) →
    r ≡ Err why → b ≡ a → n ≡ refusal_status why → IsToldOrRefused (shown f r) e a b n
shown_refused f r why e a b n is same status = refusal_told (shown f r) why e a b n (ap (shown f) is) same status

-- a command that hands out nothing
pub answered_once : (g : Ghosts Token) (o : Option Asked) (asked : Asked) (by : ℕ) (s : Cellar) (e : State) (r : Result Made Refusal) (a b : Answer) (n : ℕ) →
    o ≡ Some asked → asks_item o ≡ false → IsPerformed g asked by s.engine e r → IsToldOrRefused r e a b n → IsMadeOnceIf g o by s (record s { engine = e }) a b None n
answered_once g o asked by s e (Ok made) a b n is plain performed answered =
    subst (λ (k : ℕ). IsMadeOnceIf g o by s (record s { engine = e }) a b None k) (sym answered.1)
    (plain_done g o asked by s e (Ok made) made a b is plain performed refl answered.0)
answered_once g o asked by s e (Err why) a b n is plain performed answered =
    subst (λ (k : ℕ). IsMadeOnceIf g o by s (record s { engine = e }) a b None k) (sym answered.1)
    (subst (λ (x : Answer). IsMadeOnceIf g o by s (record s { engine = e }) a x None (refusal_status why)) (sym answered.0)
    (plain_refused g o asked by s e (Err why) why a is plain performed refl))

-- where it is none
pub unknown_once : (g : Ghosts Token) (o : Option Asked) (by : ℕ) (s : Cellar) (a b : Answer) (n : ℕ) → o ≡ None → b ≡ a → n ≡ 5 → IsMadeOnceIf g o by s s a b None n
unknown_once g None by s a b n is same status = (status, refl, same, refl)
unknown_once g (Some asked) by s a b n is same status = absurd (cc)
