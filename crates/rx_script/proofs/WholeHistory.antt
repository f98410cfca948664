-- The history from its first event on, of which a book stores a base and the events since: both go on by the same steps.
use Rattle.rx_script.proofs.Common.{◌≡◌, ◌≤◌, List, [], ◌∷◌, ◌++◌, length, map, filter, refl, sym, ap, subst, ◌∙◌, arith, append_assoc, append-nil}
use Rattle.rx_script.proofs.Common.{length-append, range_with_len, Event, Accept, Kept, nothing_kept, shown, base_of, Agree}
use Rattle.rx_script.proofs.Common.{waiting_resources, notes, IsSettled, forced, stays, more, IsLawful, IsForcedOn, Call, Taking}
use Rattle.rx_script.proofs.Common.{outside_of, IsStepOf, IsLawful-push, lawful_front, lawful_last, lawful_begun, by_pushes, Alike, alike_of, connections_alike}
use Rattle.rx_script.proofs.Common.{base_length, checkpoints_agree, Takes, none_taken, next_taken, Drains}
use Rattle.rx_event.specs.Renumbered.{AreRead}
use Rattle.rx_event.specs.Notes.{mail_of}
use Rattle.rx_event.specs.Forced.{IsForced}
use Rattle.rx_event.proofs.Laws.Counts.{notes-push}
use Rattle.rx_event.proofs.Laws.SameForcedAndAllowed.{reads_of}
use Rattle.rx_event.proofs.Laws.TreeRead.{event_by_itself}
use Rattle.rx_event.proofs.Laws.ReadDue.{read_back, forced_read, settled_read}
use Rattle.rx_event.proofs.Laws.Bases.{length_base}
use Rattle.rx_event.proofs.Laws.CheckpointMarks.{base_untold}
use Rattle.rx_script.proofs.LeasesOut.{nothing_before}
use Rattle.std.proofs.Common.{rules}

-- calls add the same events to histories that are alike
outside_alike : (h k : List Event) → Alike h k → (call : Call) → outside_of h call ≡ outside_of k call
outside_alike h k a x3 = search (rules, Accept, map, connections_alike)

-- a front that a checkpoint put a base in place of
module _ (front : List Event) (law : IsLawful nothing_kept front) (settled : IsSettled nothing_kept front) (b : Kept)
    (is : b ≡ base_of nothing_kept front) where
  pub shown_length : length (shown b) ≡ length front
  shown_length = ap (λ (x : Kept). length (shown x)) is ∙ length_base nothing_kept front

  pub kept_length : b.at_length ≡ length front
  kept_length = ap (λ (x : Kept). x.at_length) is ∙ base_length nothing_kept front

  pub whole_lawful : (es : List Event) → IsLawful b (shown b ++ es) → IsLawful nothing_kept (front ++ es)
  whole_lawful es stored_law =
      (checkpoints_agree.continued nothing_kept front es law settled).1 (subst (λ (x : Kept). IsLawful x (shown x ++ es)) is stored_law)

  pub whole_agree : (es : List Event) → IsLawful b (shown b ++ es) → Agree nothing_kept (front ++ es) b (shown b ++ es)
  whole_agree es stored_law = subst (λ (x : Kept). Agree nothing_kept (front ++ es) x (shown x ++ es)) (sym is)
      (checkpoints_agree.after nothing_kept front es law settled (whole_lawful es stored_law))

  -- the stored one reads as the whole one
  whole_reads : (es : List Event) → IsLawful b (shown b ++ es) → AreRead b nothing_kept (λ n. n) (λ n. n) (shown b ++ es) (front ++ es)
  whole_reads es stored_law = read_back (reads_of (whole_agree es stored_law) (whole_lawful es stored_law) stored_law)

  whole_forced : (es : List Event) → IsLawful b (shown b ++ es) → {e : Event} → IsForced b (shown b ++ es) e → IsForced nothing_kept (front ++ es) e
  whole_forced es stored_law {e} f =
      subst (λ (x : Event). IsForced nothing_kept (front ++ es) x) (event_by_itself e) (forced_read (whole_reads es stored_law) f)

  stored_long : (es : List Event) → length (shown b) ≤ length (shown b ++ es)
  stored_long es = let l = length-append (shown b) es in omega arith

  -- steps ----------------------------------------------------------------------------------------

  record ForcedOver (es m : List Event) : Type 0 where
    pub events : List Event
    pub same : m ≡ shown b ++ (es ++ events)
    pub on : IsForcedOn nothing_kept (front ++ es) (front ++ (es ++ events))
    pub lawful : IsLawful b m

  forced_over : {k m : List Event} → IsForcedOn b k m → (es : List Event) → k ≡ shown b ++ es → IsLawful b k → ForcedOver es m
  forced_over stays es at_k law_k = search (rules, append-nil, stays)
  forced_over (more {k = m} {e = e} before f) es at_k law_k = one_more (forced_over before es at_k law_k) f where
    one_more : ForcedOver es m → IsForced b m e → ForcedOver es (m ++ e ∷ [])
    one_more w g = record {
      events = w.events ++ e ∷ [];
      same = ap (λ (l : List Event). l ++ e ∷ []) w.same ∙ append_assoc (shown b) (es ++ w.events) (e ∷ [])
          ∙ ap (λ (l : List Event). shown b ++ l) (append_assoc es w.events (e ∷ []));
      on = subst (λ (l : List Event). IsForcedOn nothing_kept (front ++ es) l)
          (append_assoc front (es ++ w.events) (e ∷ []) ∙ ap (λ (l : List Event). front ++ l) (append_assoc es w.events (e ∷ [])))
          (more w.on (whole_forced (es ++ w.events) (subst (IsLawful b) w.same w.lawful) (subst (λ (l : List Event). IsForced b l e) w.same g)));
      lawful = IsLawful-push b m e w.lawful (forced g);
    }

  -- the stored history took this step to k, and the whole one takes it too, by the same events
  pub record StepOver (es : List Event) (call : Call) (k : List Event) : Type 0 where
    pub events : List Event
    pub same : k ≡ shown b ++ (es ++ events)
    pub step : IsStepOf nothing_kept (front ++ es) call (front ++ (es ++ events))

  pub step_over : (es : List Event) (call : Call) (k : List Event) → IsLawful b (shown b ++ es) → IsStepOf b (shown b ++ es) call k → StepOver es call k
  step_over es call k law_es step = record {
    events = outside ++ w.events;
    same = ends;
    step = record {
      forced = subst (λ (l : List Event). IsForcedOn nothing_kept l (front ++ (es ++ (outside ++ w.events)))) begins
          (subst (λ (l : List Event). IsForcedOn nothing_kept (front ++ (es ++ outside)) (front ++ l)) (append_assoc es outside w.events) w.on);
      lawful = whole_lawful (es ++ (outside ++ w.events)) law_k;
      settled = settled_read (whole_reads (es ++ (outside ++ w.events)) law_k) (subst (IsSettled b) ends step.settled);
    };
  } where
    outside : List Event
    outside = outside_of (shown b ++ es) call

    at_outside : (shown b ++ es) ++ outside ≡ shown b ++ (es ++ outside)
    at_outside = append_assoc (shown b) es outside

    law_outside : IsLawful b ((shown b ++ es) ++ outside)
    law_outside = lawful_begun b step.forced (let l = length-append (shown b ++ es) outside in let m = stored_long es in omega arith) step.lawful

    w : ForcedOver (es ++ outside) k
    w = forced_over step.forced (es ++ outside) at_outside law_outside

    ends : k ≡ shown b ++ (es ++ (outside ++ w.events))
    ends = w.same ∙ ap (λ (l : List Event). shown b ++ l) (append_assoc es outside w.events)

    law_k : IsLawful b (shown b ++ (es ++ (outside ++ w.events)))
    law_k = subst (IsLawful b) ends step.lawful

    begins : front ++ (es ++ outside) ≡ (front ++ es) ++ outside_of (front ++ es) call
    begins = sym (append_assoc front es outside)
        ∙ ap (λ (l : List Event). (front ++ es) ++ l) (sym (outside_alike (front ++ es) (shown b ++ es) (alike_of (whole_agree es law_es)) call))

  -- takings --------------------------------------------------------------------------------------

  record TakesOver (es k : List Event) : Type 0 where
    pub events : List Event
    pub same : k ≡ shown b ++ (es ++ events)
    pub takes : Takes nothing_kept (front ++ es) (front ++ (es ++ events))
    pub lawful : IsLawful b k

  takes_over : {k m : List Event} → Takes b k m → (es : List Event) → k ≡ shown b ++ es → IsLawful b k → TakesOver es m
  takes_over none_taken es at_k law_k = search (rules, append-nil, none_taken)
  takes_over (next_taken {m = m} {k = k} {r = r} before step) es at_k law_k = one_more (takes_over before es at_k law_k) step where
    one_more : TakesOver es m → IsStepOf b m (Taking r) k → TakesOver es k
    one_more w taken = record {
      events = w.events ++ o.events;
      same = o.same ∙ ap (λ (l : List Event). shown b ++ l) (append_assoc es w.events o.events);
      takes = subst (λ (l : List Event). Takes nothing_kept (front ++ es) (front ++ l)) (append_assoc es w.events o.events) (next_taken w.takes o.step);
      lawful = taken.lawful;
    } where
      o : StepOver (es ++ w.events) (Taking r) k
      o = step_over (es ++ w.events) (Taking r) k (subst (IsLawful b) w.same w.lawful) (subst (λ (l : List Event). IsStepOf b l (Taking r) k) w.same taken)

  pub record DrainOver (es k : List Event) : Type 0 where
    pub events : List Event
    pub same : k ≡ shown b ++ (es ++ events)
    pub drains : Drains nothing_kept (front ++ es) (front ++ (es ++ events))

  pub drain_over : (es k : List Event) → IsLawful b (shown b ++ es) → Drains b (shown b ++ es) k → DrainOver es k
  drain_over es k law_es drained = record {
    events = w.events;
    same = w.same;
    drains = record {
      takes = w.takes;
      none_waits = (λ i. filter (λ n. a.waiting n i) (range_with_len 0 (a.same_length i))) ∙ ap waiting_resources (sym w.same) ∙ drained.none_waits;
    };
  } where
    w : TakesOver es k
    w = takes_over drained.takes es refl law_es

    a : Agree nothing_kept (front ++ (es ++ w.events)) b (shown b ++ (es ++ w.events))
    a = whole_agree (es ++ w.events) (subst (IsLawful b) w.same w.lawful)

  -- notes ----------------------------------------------------------------------------------------

  abbrev ToldSince : List Event → Type 0
  ToldSince es = IsLawful b (shown b ++ es) → notes (front ++ es) ≡ notes front ++ notes (shown b ++ es)

  pub stored_untold : notes (shown b) ≡ []
  stored_untold = ap (λ (x : Kept). notes (shown x)) is ∙ base_untold nothing_kept front law settled

  told_none : ToldSince []
  told_none law_es = search (rules, append-nil, stored_untold)

  told_one : (es : List Event) (e : Event) → ToldSince es → ToldSince (es ++ e ∷ [])
  told_one es e before law_more = ap notes (sym (append_assoc front es (e ∷ []))) ∙ notes-push (front ++ es) e
      ∙ (λ i. before law_es i ++ tells i) ∙ append_assoc (notes front) (notes (shown b ++ es)) (mail_of (shown b ++ es) e)
      ∙ ap (λ (l : List _). notes front ++ l) (sym (notes-push (shown b ++ es) e) ∙ ap notes (append_assoc (shown b) es (e ∷ [])))
    where
      law_pushed : IsLawful b ((shown b ++ es) ++ e ∷ [])
      law_pushed = subst (IsLawful b) (sym (append_assoc (shown b) es (e ∷ []))) law_more

      law_es : IsLawful b (shown b ++ es)
      law_es = lawful_front b (shown b ++ es) e (stored_long es) law_pushed

      whole_pushed : IsLawful nothing_kept ((front ++ es) ++ e ∷ [])
      whole_pushed = subst (IsLawful nothing_kept) (sym (append_assoc front es (e ∷ []))) (whole_lawful (es ++ e ∷ []) law_more)

      tells : mail_of (front ++ es) e ≡ mail_of (shown b ++ es) e
      tells = (checkpoints_agree.alike nothing_kept (front ++ es) b (shown b ++ es) (whole_lawful es law_es) law_es (whole_agree es law_es) e).notes
          (lawful_last nothing_kept (front ++ es) e (nothing_before (front ++ es)) whole_pushed)

  -- what the whole history told is what its front told, and then what the stored one tells
  pub notes_whole : (es : List Event) → IsLawful b (shown b ++ es) → notes (front ++ es) ≡ notes front ++ notes (shown b ++ es)
  notes_whole es = by_pushes ToldSince told_none told_one es
