-- A step of the book adds notes behind those that were told, and keeps each event at its place.
use Rattle.rx_book.proofs.Common.{◌≡◌, ℕ, ◌<◌, ◌≤◌, List, [], ◌∷◌, ◌++◌, length, slice_get, refl, sym, ap, ◌∙◌, arith, subst, append_assoc, length-append}
use Rattle.rx_book.proofs.Common.{append-nil, Mail, Event, Kept, notes, mail_of, Call, outside_of, IsStepOf, IsForcedOn, stays, more, notes-push}
use Rattle.rx_book.proofs.Common.{slice_get-append}

-- k is h and more events behind it, and its notes are those of h and more behind them
pub record GoesOn (h k : List Event) : Type 0 where
  pub events : List Event
  pub grows : k ≡ h ++ events
  pub rest : List Mail
  pub is : notes k ≡ notes h ++ rest

pub goes_nowhere : (h : List Event) → GoesOn h h
goes_nowhere h = record { events = []; grows = sym (append-nil h); rest = []; is = sym (append-nil (notes h)) }

pub goes_further : {h k l : List Event} → GoesOn h k → GoesOn k l → GoesOn h l
goes_further {h} p q = record {
  events = p.events ++ q.events;
  grows = q.grows ∙ ap (λ (es : List Event). es ++ q.events) p.grows ∙ append_assoc h p.events q.events;
  rest = p.rest ++ q.rest;
  is = q.is ∙ ap (λ (ms : List Mail). ms ++ q.rest) p.is ∙ append_assoc (notes h) p.rest q.rest;
}

one_more : (h : List Event) (e : Event) → GoesOn h (h ++ e ∷ [])
one_more h e = record { events = e ∷ []; grows = refl; rest = mail_of h e; is = notes-push h e }

by_events : (h es : List Event) → GoesOn h (h ++ es)
by_events h [] = subst (λ (k : List Event). GoesOn h k) (sym (append-nil h)) (goes_nowhere h)
by_events h (e ∷ es) = subst (λ (k : List Event). GoesOn h k) (append_assoc h (e ∷ []) es) (goes_further (one_more h e) (by_events (h ++ e ∷ []) es))

pub goes_forced : (base : Kept) → {h k : List Event} → IsForcedOn base h k → GoesOn h k
goes_forced base {h} stays = goes_nowhere h
goes_forced base (more {h} {k} {e} before is_forced) = goes_further (goes_forced base before) (one_more k e)

pub goes_step : (base : Kept) (h k : List Event) (call : Call) → IsStepOf base h call k → GoesOn h k
goes_step base h k call step = goes_further (by_events h (outside_of h call)) (goes_forced base step.forced)

-- what stood at a place stands there
pub same_event : {h k : List Event} → GoesOn h k → (n : ℕ) → n < length h → slice_get k n ≡ slice_get h n
same_event {h} goes n within = ap (λ (es : List Event). slice_get es n) goes.grows ∙ slice_get-append h goes.events n within

pub no_shorter : {h k : List Event} → GoesOn h k → length h ≤ length k
no_shorter {h} goes = omega (arith, ap (length {A = Event}) goes.grows, length-append h goes.events)
