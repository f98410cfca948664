-- A command that is tried, and tried again behind a checkpoint; and what comes of that is told.
use Rattle.std.proofs.Common.{◌≡◌, ◌≢◌, ℕ, Bool, true, false, Option, Some, None, Result, Ok, Err, refl, sym, ap, ◌∙◌, subst, ◌==◌}
use Rattle.std.proofs.lemmas.Bool.{false≢true}
use Rattle.std.specs.Prelude.{is_some}
use Rattle.rx_resource.specs.declared.Resource.{Ghosts}
use Rattle.rx_resource.specs.declared.token.Token.{Token}
use Rattle.rx_event.specs.declared.refusal.Refusal.{Refusal}
use Rattle.rx_event.specs.declared.refusal.Refusal.TheVariants.{Full, NoMemory, Gone, WrongKind, PlaceTaken, NothingOwed, NotRoot, NoHub, HubOrder}
use Rattle.rx_event.specs.declared.refusal.Refusal.TheVariants.{Connected, NotConnected, NotFresh, NotHeld, HasChild, TooMany, NoLease, Leased, MailLeft}
use Rattle.rx_engine.specs.States.{State}
use Rattle.rx_cellar.specs.Codes.{refusal_status}
use Rattle.rx_cellar.specs.declared.shapes.Answer.{Answer}
use Rattle.rx_cellar.specs.declared.making.Made.{Made}
use Rattle.rx_cellar.specs.declared.asked.Item.{Item}
use Rattle.rx_cellar.specs.declared.asked.Asked.{Asked}
use Rattle.rx_cellar.specs.declared.cellar.Cellar.{Cellar}
use Rattle.rx_cellar.specs.Asking.{item_asked, hands, asks_item}
use Rattle.rx_cellar.specs.Crossings.{no_answer}
use Rattle.rx_cellar.specs.Makings.{IsPerformed, Outcome, of_made, shown, ComesToIf}
use Rattle.rx_cellar.specs.Cellars.{Tidies, IsTidy, IsTidyIf, is_due, Performs, IsTried, at_once, once_more, behind_one, behind_none}
use Rattle.rx_cellar.specs.Cellars.{told, counted_with, given_out, IsMadeIf, is_done, is_refused}
use Rattle.rx_cellar.specs.declared.shapes.Effect.{Effect}
use Rattle.rx_cellar.specs.Attempts.{IsTidyFor, IsMadeOnce, IsMadeOnceIf, once_done, once_refused, IsMadeAgain, again_done, again_not}

-- tidied -----------------------------------------------------------------------------------------------------

pub tidied : (o : Option Asked) (s t : Cellar) (answer : Result ℕ Refusal) → is_some o ≡ true → is_due s ≡ true → Tidies s t answer → IsTidyFor o s t
tidied None s t answer known due tidies = absurd (cc)
tidied (Some asked) s t answer known due tidies = subst (λ (b : Bool). IsTidyIf b s t) (sym due) (record { answer = answer; tidies = tidies })

pub unknown_tidied : (o : Option Asked) (s : Cellar) → is_some o ≡ false → IsTidyFor o s s
unknown_tidied None s unknown = refl
unknown_tidied (Some asked) s unknown = absurd (cc)

pub not_due : (o : Option Asked) (s : Cellar) → is_due s ≡ false → IsTidyFor o s s
not_due None s due = refl
not_due (Some asked) s due = subst (λ (b : Bool). IsTidyIf b s s) (sym due) refl

-- tried ------------------------------------------------------------------------------------------------------

-- it asks for no item
none_asked : (o : Option Item) → is_some o ≡ false → None ≡ o
none_asked None none = refl
none_asked (Some item) none = absurd (cc)

performs : (g : Ghosts Token) (asked : Asked) (by : ℕ) (s : Cellar) (e : State) (answer is : Result Made Refusal) → hands asked ≡ false →
    IsPerformed g asked by s.engine e answer → answer ≡ is → Performs g asked by s (record s { engine = e }) (shown of_made is)
performs g asked by s e answer is plain made same = record {
  performed = subst (λ (o : Option Item). ComesToIf o g asked by s.engine e (shown of_made is)) (none_asked (item_asked asked) plain)
      (record { engine_answer = answer; made_so = made; is_shown = ap (shown of_made) (sym same) });
  only = refl;
}

pub known_once : (g : Ghosts Token) (o : Option Asked) (asked : Asked) (by : ℕ) (s t : Cellar) (a b : Answer) (given : Option Effect) (status : ℕ) →
    o ≡ Some asked → IsMadeOnce g asked by s t a b given status → IsMadeOnceIf g o by s t a b given status
known_once g o asked by s t a b given status is made = subst (λ (x : Option Asked). IsMadeOnceIf g x by s t a b given status) (sym is) made

-- it hands out nothing
pub plain_done : (g : Ghosts Token) (o : Option Asked) (asked : Asked) (by : ℕ) (s : Cellar) (e : State) (answer : Result Made Refusal) (made : Made)
    (a b : Answer) → o ≡ Some asked → asks_item o ≡ false → IsPerformed g asked by s.engine e answer → answer ≡ Ok made → b ≡ told made e a →
    IsMadeOnceIf g o by s (record s { engine = e }) a b None 0
plain_done g o asked by s e answer made a b is plain made_so ok tells =
    let t : Cellar = record s { engine = e } in
    known_once g o asked by s t a b None 0 is
    (once_done (of_made made) t (performs g asked by s e answer (Ok made) (ap asks_item (sym is) ∙ plain) made_so ok) refl tells refl refl)

pub plain_refused : (g : Ghosts Token) (o : Option Asked) (asked : Asked) (by : ℕ) (s : Cellar) (e : State) (answer : Result Made Refusal) (why : Refusal)
    (a : Answer) → o ≡ Some asked → asks_item o ≡ false → IsPerformed g asked by s.engine e answer → answer ≡ Err why →
    IsMadeOnceIf g o by s (record s { engine = e }) a a None (refusal_status why)
plain_refused g o asked by s e answer why a is plain made_so err =
    known_once g o asked by s (record s { engine = e }) a a None (refusal_status why) is
    (once_refused why (performs g asked by s e answer (Err why) (ap asks_item (sym is) ∙ plain) made_so err) refl refl refl)

pub behind : (g : Ghosts Token) (o : Option Asked) (by : ℕ) (s u t : Cellar) (made : Result ℕ Refusal) (at : ℕ) (a b : Answer) (given : Option Effect) (status : ℕ) →
    made ≡ Ok at → Tidies s u made → IsMadeOnceIf g o by u t a b given status → IsMadeAgain g o by s t a b given status
behind g o by s u t made at a b given status is tidies once = again_done at u (subst (λ (r : Result ℕ Refusal). Tidies s u r) is tidies) once

pub not_behind : (g : Ghosts Token) (o : Option Asked) (by : ℕ) (s t : Cellar) (made : Result ℕ Refusal) (why : Refusal) (a b : Answer) (given : Option Effect)
    (status : ℕ) → made ≡ Err why → Tidies s t made → b ≡ a → given ≡ None → status ≡ refusal_status why → IsMadeAgain g o by s t a b given status
not_behind g o by s t made why a b given status is tidies same none status_is =
    again_not why (subst (λ (r : Result ℕ Refusal). Tidies s t r) is tidies) same none status_is

-- made -------------------------------------------------------------------------------------------------------

ok_not : (o : Outcome) → ◌≢◌ {A = Result Outcome Refusal} (Ok o) (Err Full)
ok_not o is = absurd (cc)

err_not : (why : Refusal) (status : ℕ) → status ≡ refusal_status why → status ≢ 16 → ◌≢◌ {A = Result Outcome Refusal} (Err why) (Err Full)
err_not why status is other same =
    let full : why ≡ Full = cc in
    other (is ∙ ap refusal_status full)

-- the status of a full history is no other's
full_only : (why : Refusal) → (refusal_status why == 16) ≡ true → why ≡ Full
full_only Full is = refl
full_only NoMemory is = absurd (false≢true is)
full_only Gone is = absurd (false≢true is)
full_only WrongKind is = absurd (false≢true is)
full_only PlaceTaken is = absurd (false≢true is)
full_only NothingOwed is = absurd (false≢true is)
full_only NotRoot is = absurd (false≢true is)
full_only NoHub is = absurd (false≢true is)
full_only HubOrder is = absurd (false≢true is)
full_only Connected is = absurd (false≢true is)
full_only NotConnected is = absurd (false≢true is)
full_only NotFresh is = absurd (false≢true is)
full_only NotHeld is = absurd (false≢true is)
full_only HasChild is = absurd (false≢true is)
full_only TooMany is = absurd (false≢true is)
full_only NoLease is = absurd (false≢true is)
full_only Leased is = absurd (false≢true is)
full_only MailLeft is = absurd (false≢true is)

pub full_is : (why : Refusal) → refusal_status why ≡ 16 → why ≡ Full
full_is why is = full_only why (ap (λ n. n == 16) is)

done_so : (g : Ghosts Token) (asked : Asked) (by : ℕ) (s u v t : Cellar) (o : Outcome) (a b : Answer) (given : Option Effect) (status : ℕ) → IsTidy s u →
    IsTried g asked by u v (Ok o) → t ≡ counted_with o v → b ≡ told o.made v.engine a → given ≡ given_out o → status ≡ 0 →
    IsMadeIf g (Some asked) by s t a b given status
done_so g asked by s u v t o a b given status tidy tried counts tells gives is =
    subst (λ (n : ℕ). IsMadeIf g (Some asked) by s t a b given n) (sym is) (is_done o u v tidy tried counts tells gives)

refused_so : (g : Ghosts Token) (asked : Asked) (by : ℕ) (s u t : Cellar) (why : Refusal) (a b : Answer) (given : Option Effect) (status : ℕ) → IsTidy s u →
    IsTried g asked by u t (Err why) → b ≡ a → given ≡ None → status ≡ refusal_status why → IsMadeIf g (Some asked) by s t a b given status
refused_so g asked by s u t why a b given status tidy tried same none is =
    subst (λ (n : ℕ). IsMadeIf g (Some asked) by s t a b given n) (sym is) (is_refused why u tidy tried same none)

-- at once, where the history was not full
pub made_first : (g : Ghosts Token) (o : Option Asked) (by : ℕ) (s u t : Cellar) (a b : Answer) (given : Option Effect) (status : ℕ) → IsTidyFor o s u →
    IsMadeOnceIf g o by u t a b given status → status ≢ 16 → IsMadeIf g o by s t a b given status
made_first g None by s u t a b given status tidy once other = (once.0, once.1 ∙ tidy, once.2, once.3)
made_first g (Some asked) by s u t a b given status tidy (once_done o v tried counts tells gives is) other =
    done_so g asked by s u v t o a b given status tidy (at_once (ok_not o) tried) counts tells gives is
made_first g (Some asked) by s u t a b given status tidy (once_refused why tried same none is) other =
    refused_so g asked by s u t why a b given status tidy (at_once (err_not why status is other) tried) same none is

-- behind a checkpoint, where it was
again : (g : Ghosts Token) (asked : Asked) (by : ℕ) (s u v t : Cellar) (a b : Answer) (given : Option Effect) (status : ℕ) → IsTidy s u →
    Performs g asked by u v (Err Full) → IsMadeAgain g (Some asked) by v t a b given status → IsMadeIf g (Some asked) by s t a b given status
again g asked by s u v t a b given status tidy first (again_done at w tidies (once_done o x tried counts tells gives is)) =
    done_so g asked by s u x t o a b given status tidy (once_more v first (behind_one at w tidies tried)) counts tells gives is
again g asked by s u v t a b given status tidy first (again_done at w tidies (once_refused why tried same none is)) =
    refused_so g asked by s u t why a b given status tidy (once_more v first (behind_one at w tidies tried)) same none is
again g asked by s u v t a b given status tidy first (again_not why tidies same none is) =
    refused_so g asked by s u t why a b given status tidy (once_more v first (behind_none tidies)) same none is

pub made_again : (g : Ghosts Token) (o : Option Asked) (by : ℕ) (s u v t : Cellar) (a b d : Answer) (first given : Option Effect) (before status : ℕ) →
    IsTidyFor o s u → IsMadeOnceIf g o by u v (no_answer a) b first before → before ≡ 16 → IsMadeAgain g o by v t (no_answer b) d given status →
    IsMadeIf g o by s t (no_answer a) d given status
made_again g None by s u v t a b d first given before status tidy once full more = absurd (let e = once.0 in cc)
made_again g (Some asked) by s u v t a b d first given before status tidy (once_done o x tried counts tells gives is) full more = absurd (cc)
made_again g (Some asked) by s u v t a b d first given before status tidy (once_refused why tried same none is) full more =
    again g asked by s u v t (no_answer a) d given status tidy
    (subst (λ (x : Refusal). Performs g asked by u v (Err x)) (full_is why (sym is ∙ full)) tried)
    (subst (λ (x : Answer). IsMadeAgain g (Some asked) by v t (no_answer x) d given status) same more)

-- what a full history refuses is given to nobody
pub none_given : (g : Ghosts Token) (o : Option Asked) (by : ℕ) (s t : Cellar) (a b : Answer) (given : Option Effect) (status : ℕ) →
    IsMadeOnceIf g o by s t a b given status → status ≡ 16 → given ≡ None
none_given g None by s t a b given status once full = once.3
none_given g (Some asked) by s t a b given status (once_done o v tried counts tells gives is) full = absurd (cc)
none_given g (Some asked) by s t a b given status (once_refused why tried same none is) full = none
