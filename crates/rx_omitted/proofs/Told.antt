-- What each event does, without what is left out.
use Rattle.rx_event.proofs.Laws.Common.{◌≡◌, ℕ, ℤ, ◌+◌, ◌-◌, Bool, true, false, List, [], ◌∷◌, ◌++◌, length, Some, cond}
use Rattle.rx_event.proofs.Laws.Common.{slice_get, map}
use Rattle.rx_event.proofs.Laws.Common.{refl, sym, ap, subst, ◌∙◌, ◌==◌, ◌&&◌, ◌||◌, not, arith, filter, take, Kept, both_ways}
use Rattle.rx_event.proofs.Laws.Common.{filter_map}
use Rattle.rx_event.proofs.Laws.Common.{AllByRecursion, list_any, list_all, count_by, sum_by-cons, is_root, event_by, at, Stop, Delivery, Projection, Firing}
use Rattle.rx_event.proofs.Laws.Common.{stops}
use Rattle.rx_event.proofs.Laws.Common.{is_projection_to, is_firing_of, stops_of, projections, is_fired, notes, mail_of, notes_to, moments, Next, map-append}
use Rattle.rx_event.proofs.Laws.Common.{append-nil}
use Rattle.rx_event.proofs.Laws.Common.{or_false, false≢true, eqb-true, slice_get_within}
use Rattle.rx_note.specs.declared.note.Note.TheVariants.{Project, End as EndNote}
use Rattle.rx_event.specs.declared.mail.Mail.{Mail}
use Rattle.rx_event.specs.Notes.{told}
use Rattle.rx_omitted.specs.Imports.{Event, Item, End, Terminal}
use Rattle.rx_omitted.specs.Named.{named_in, Stay_all}
use Rattle.rx_omitted.specs.Omitted.{number, what_stays, NeedsNone, only_heard, lone_leaf, lone_end, lone_close, is_delivery}
use Rattle.rx_omitted.proofs.Omits.{Omits}
use Rattle.rx_omitted.specs.Omitted.{node_of_stop, reaches}
use Rattle.rx_omitted.specs.Claims.{mail_by, is_kept_mail, notes_kept, HearsAll}
use Rattle.std.proofs.Common.{rules}
use Rattle.std.proofs.lemmas.List.{take_at, take-append-le}
use Rattle.std.proofs.lemmas.List.Elements.{filter-append}
use Rattle.rx_event.proofs.Laws.Counts.{notes-push, projections-push}
use Rattle.rx_event.proofs.Laws.MarksAfter.{is_fired-push}
use Rattle.rx_event.proofs.Laws.Lists.{AllByRecursion-both}
use Rattle.rx_event.proofs.Laws.Places.{slice_get_last, slice_get-append}
use Rattle.rx_event.proofs.Laws.ReadShown.{root_by}
use Rattle.rx_event.proofs.Laws.Steps.{by_pushes}
use Rattle.rx_event.proofs.Laws.TreeRead.{stop_by}
use Rattle.rx_omitted.proofs.Numbers.{number_eq, length-what_stays}
use Rattle.rx_omitted.proofs.Staying.{what_stays-kept, what_stays-gone, omit_before, at_by}
use Rattle.rx_omitted.proofs.Reached.{stops_by}

-- one stop ----------------------------------------------------------------------------------------------------

abbrev Stops_stay : (ℕ → Bool) → List Stop → Type 0
Stops_stay omit ss = AllByRecursion (λ s. omit (node_of_stop s) ≡ false) ss

projects_by : (omit : ℕ → Bool) (f : ℕ) → omit f ≡ false → (s : Stop) → omit (node_of_stop s) ≡ false →
    is_projection_to (number omit f) (stop_by (number omit) s) ≡ is_projection_to f s
projects_by omit f stay x3 there = search (rules, number_eq)

fires_by : (omit : ℕ → Bool) (f : ℕ) → omit f ≡ false → (s : Stop) → omit (node_of_stop s) ≡ false →
    is_firing_of (number omit f) (stop_by (number omit) s) ≡ is_firing_of f s
fires_by omit f stay x3 there = search (rules, number_eq)

counted : (t : Stop → Bool) (s : Stop) (ss : List Stop) → count_by t (s ∷ ss) ≡ cond (t s) 1 0 + count_by t ss
counted t s ss = sum_by-cons (λ x. cond (t x) 1 0) s ss

count_stops : (omit : ℕ → Bool) (f : ℕ) → omit f ≡ false → (ss : List Stop) → Stops_stay omit ss →
    count_by (is_projection_to (number omit f)) (map (stop_by (number omit)) ss) ≡ count_by (is_projection_to f) ss
count_stops omit f stay [] all = refl
count_stops omit f stay (s ∷ ss) all =
    counted (is_projection_to (number omit f)) (stop_by (number omit) s) (map (stop_by (number omit)) ss) ∙
    (λ i. cond (projects_by omit f stay s all.0 i) 1 0 + count_stops omit f stay ss all.1 i) ∙ sym (counted (is_projection_to f) s ss)

any_stops : (omit : ℕ → Bool) (f : ℕ) → omit f ≡ false → (ss : List Stop) → Stops_stay omit ss →
    list_any (is_firing_of (number omit f)) (map (stop_by (number omit)) ss) ≡ list_any (is_firing_of f) ss
any_stops omit f stay [] all = refl
any_stops omit f stay (s ∷ ss) all = λ i. fires_by omit f stay s all.0 i || any_stops omit f stay ss all.1 i

-- deliveries neither project nor fire
no_projection : (f : ℕ) (ss : List Stop) → list_all is_delivery ss ≡ true → count_by (is_projection_to f) ss ≡ 0
no_projection f [] all = refl
no_projection f (Delivery n ∷ ss) all = let first = counted (is_projection_to f) (Delivery n) ss in let rest = no_projection f ss all in omega arith
no_projection f (Projection g ∷ ss) all = absurd (false≢true all)
no_projection f (Firing u ∷ ss) all = absurd (false≢true all)

no_firing : (f : ℕ) (ss : List Stop) → list_all is_delivery ss ≡ true → list_any (is_firing_of f) ss ≡ false
no_firing f [] all = refl
no_firing f (Delivery n ∷ ss) all = no_firing f ss all
no_firing f (Projection g ∷ ss) all = absurd (false≢true all)
no_firing f (Firing u ∷ ss) all = absurd (false≢true all)

-- the stops of one event ----------------------------------------------------------------------------------------

pub stops_of_by : (base : Kept) (omit : ℕ → Bool) (h : List Event) → Omits base omit h → (e : Event) → Stay_all omit (named_in e) →
    (stops_of (what_stays omit h) (event_by (number omit) e) ≡ map (stop_by (number omit)) (stops_of h e)) × Stops_stay omit (stops_of h e)
stops_of_by base omit h a (Item l v) all = stops_by base omit h a l all.0
stops_of_by base omit h a _ all = (refl, tt)

-- of an event that is left out only deliveries
stops_gone : (omit : ℕ → Bool) (h k : List Event) (n : ℕ) {e : Event} → take n k ≡ h → NeedsNone omit k n e → list_all is_delivery (stops_of h e) ≡ true
stops_gone omit h k n same (only_heard {leaf = l} heard) = rw same at heard
stops_gone omit h k n same lone_leaf = refl
stops_gone omit h k n same (lone_end gone) = refl
stops_gone omit h k n same (lone_close gone) = refl

no_projections : (f g : ℕ) → projections [] g ≡ projections [] f
unfolding projections moments
no_projections f g = refl

no_fired : (f g : ℕ) → is_fired [] g ≡ is_fired [] f
unfolding is_fired moments
no_fired f g = refl

no_notes : notes [] ≡ []
unfolding notes moments
no_notes = refl

module _ (base : Kept) (omit : ℕ → Bool) where
  gone_last : (h : List Event) (e : Event) → Omits base omit (h ++ e ∷ []) → omit (length h) ≡ true → NeedsNone omit (h ++ e ∷ []) (length h) e
  gone_last h e a gone = a.each (length h) e (slice_get_last h e) gone

  delivers : (h : List Event) (e : Event) → Omits base omit (h ++ e ∷ []) → omit (length h) ≡ true → list_all is_delivery (stops_of h e) ≡ true
  delivers h e a gone = stops_gone omit h (h ++ e ∷ []) (length h) (take_at h (e ∷ []) (length h) refl) (gone_last h e a gone)

  stays_last : (h : List Event) (e : Event) → Omits base omit (h ++ e ∷ []) → omit (length h) ≡ false → Stay_all omit (named_in e)
  stays_last h e a stay = a.apart (length h) e (slice_get_last h e) stay

  -- projections and firings -------------------------------------------------------------------------------------

  pub projections_by : (f : ℕ) → omit f ≡ false → (h : List Event) → Omits base omit h → projections (what_stays omit h) (number omit f) ≡ projections h f
  projections_by f up = by_pushes (λ h. Omits base omit h → projections (what_stays omit h) (number omit f) ≡ projections h f)
      (λ a. no_projections f (number omit f)) step where
        step : (h : List Event) (e : Event) → (Omits base omit h → projections (what_stays omit h) (number omit f) ≡ projections h f) →
            Omits base omit (h ++ e ∷ []) →
            projections (what_stays omit (h ++ e ∷ [])) (number omit f) ≡ projections (h ++ e ∷ []) f
        step h e before a = by_test (omit (length h)) refl where
          by_test : (b : Bool) → omit (length h) ≡ b → projections (what_stays omit (h ++ e ∷ [])) (number omit f) ≡ projections (h ++ e ∷ []) f
          by_test true gone =
              let none : count_by (is_projection_to f) (stops_of h e) ≡ 0 = no_projection f (stops_of h e) (delivers h e a gone) in
              let rest = before (omit_before base omit h (e ∷ []) a) in
              ap (λ (k : List Event). projections k (number omit f)) (what_stays-gone omit h e gone) ∙ (let more = projections-push h e f in omega arith)
          by_test false stay =
              let all = stops_of_by base omit h (omit_before base omit h (e ∷ []) a) e (stays_last h e a stay) in
              ap (λ (k : List Event). projections k (number omit f)) (what_stays-kept omit h e stay) ∙
              projections-push (what_stays omit h) (event_by (number omit) e) (number omit f) ∙
              (λ i. before (omit_before base omit h (e ∷ []) a) i +
              (ap (count_by (is_projection_to (number omit f))) all.0 ∙ count_stops omit f up (stops_of h e) all.1) i) ∙
              sym (projections-push h e f)

  pub fired_by : (f : ℕ) → omit f ≡ false → (h : List Event) → Omits base omit h → is_fired (what_stays omit h) (number omit f) ≡ is_fired h f
  fired_by f up = by_pushes (λ h. Omits base omit h → is_fired (what_stays omit h) (number omit f) ≡ is_fired h f) (λ a. no_fired f (number omit f)) step where
    step : (h : List Event) (e : Event) → (Omits base omit h → is_fired (what_stays omit h) (number omit f) ≡ is_fired h f) → Omits base omit (h ++ e ∷ []) →
        is_fired (what_stays omit (h ++ e ∷ [])) (number omit f) ≡ is_fired (h ++ e ∷ []) f
    step h e before a = by_test (omit (length h)) refl where
      by_test : (b : Bool) → omit (length h) ≡ b → is_fired (what_stays omit (h ++ e ∷ [])) (number omit f) ≡ is_fired (h ++ e ∷ []) f
      by_test true gone = ap (λ (k : List Event). is_fired k (number omit f)) (what_stays-gone omit h e gone) ∙ before (omit_before base omit h (e ∷ []) a) ∙
          sym (is_fired-push h e f ∙ ap (λ b. is_fired h f || b) (no_firing f (stops_of h e) (delivers h e a gone)) ∙ or_false (is_fired h f))
      by_test false stay =
          let all = stops_of_by base omit h (omit_before base omit h (e ∷ []) a) e (stays_last h e a stay) in
          ap (λ (k : List Event). is_fired k (number omit f)) (what_stays-kept omit h e stay) ∙
          is_fired-push (what_stays omit h) (event_by (number omit) e) (number omit f) ∙
          (λ i. before (omit_before base omit h (e ∷ []) a) i ||
          (ap (list_any (is_firing_of (number omit f))) all.0 ∙ any_stops omit f up (stops_of h e) all.1) i) ∙
          sym (is_fired-push h e f)

  -- notes ---------------------------------------------------------------------------------------------------------

  -- the mail of one event has its place
  item_places : (n : ℕ) (v : ℤ) (ss : List Stop) → AllByRecursion (λ (m : Mail). m.place ≡ n) (filter_map (told n v) ss)
  item_places n v [] = tt
  item_places n v (Delivery m ∷ ss) = (refl, item_places n v ss)
  item_places n v (Projection f ∷ ss) = (refl, item_places n v ss)
  item_places n v (Firing u ∷ ss) = item_places n v ss

  mail_places : (h : List Event) (e : Event) → AllByRecursion (λ (m : Mail). m.place ≡ length h) (mail_of h e)
  mail_places h (Item l v) = item_places (length h) v (stops h l)
  mail_places h (End n t) = by_root (at is_root h n) where
    by_root : (b : Bool) → AllByRecursion (λ (m : Mail). m.place ≡ length h) (cond b ((record { place = length h; to = n; note = EndNote t }) ∷ []) [])
    by_root true = (refl, tt)
    by_root false = tt
  mail_places h _ = tt

  all_kept : (n : ℕ) → omit n ≡ false → (ms : List Mail) → AllByRecursion (λ (m : Mail). m.place ≡ n) ms → filter (is_kept_mail omit) ms ≡ ms
  all_kept n stay [] all = refl
  all_kept n stay (m ∷ ms) all = ap (λ b. cond (not b) (m ∷ filter (is_kept_mail omit) ms) (filter (is_kept_mail omit) ms)) (ap omit all.0 ∙ stay) ∙
      ap (λ xs. m ∷ xs) (all_kept n stay ms all.1)

  none_kept : (n : ℕ) → omit n ≡ true → (ms : List Mail) → AllByRecursion (λ (m : Mail). m.place ≡ n) ms → filter (is_kept_mail omit) ms ≡ []
  none_kept n gone [] all = refl
  none_kept n gone (m ∷ ms) all = ap (λ b. cond (not b) (m ∷ filter (is_kept_mail omit) ms) (filter (is_kept_mail omit) ms)) (ap omit all.0 ∙ gone) ∙
      none_kept n gone ms all.1

  items_told : (n : ℕ) (v : ℤ) (ss : List Stop) →
      filter_map (told (number omit n) v) (map (stop_by (number omit)) ss) ≡ map (mail_by omit) (filter_map (told n v) ss)
  items_told n v [] = refl
  items_told n v (Delivery m ∷ ss) = ap (λ ms. (record { place = number omit n; to = number omit m; note = Next v }) ∷ ms) (items_told n v ss)
  items_told n v (Projection f ∷ ss) = ap (λ ms. (record { place = number omit n; to = number omit f; note = Project v }) ∷ ms) (items_told n v ss)
  items_told n v (Firing u ∷ ss) = items_told n v ss

  mail_of_by : (h : List Event) → Omits base omit h → (e : Event) → Stay_all omit (named_in e) →
      mail_of (what_stays omit h) (event_by (number omit) e) ≡ map (mail_by omit) (mail_of h e)
  mail_of_by h a (Item l v) all = ap (λ n. filter_map (told n v) (stops (what_stays omit h) (number omit l))) (length-what_stays omit h) ∙
      ap (filter_map (told (number omit (length h)) v)) (stops_by base omit h a l all.0).0 ∙ items_told (length h) v (stops h l)
  mail_of_by h a (End n t) all =
      ap (λ k. cond (at is_root (what_stays omit h) (number omit n)) ((record { place = k; to = number omit n; note = EndNote t }) ∷ []) [])
      (length-what_stays omit h) ∙
      ap (λ b. cond b ((record { place = number omit (length h); to = number omit n; note = EndNote t }) ∷ []) [])
      (at_by base omit h a is_root is_root (λ e every. root_by (number omit) e) n all.0) ∙ by_root (at is_root h n)
    where
      by_root : (b : Bool) → cond b ((record { place = number omit (length h); to = number omit n; note = EndNote t }) ∷ []) [] ≡
          map (mail_by omit) (cond b ((record { place = length h; to = n; note = EndNote t }) ∷ []) [])
      by_root true = refl
      by_root false = refl
  mail_of_by h a _ all = refl

  -- the notes are those of the events that stay
  pub notes_by : (h : List Event) → Omits base omit h → notes (what_stays omit h) ≡ map (mail_by omit) (filter (is_kept_mail omit) (notes h))
  notes_by = by_pushes (λ h. Omits base omit h → notes (what_stays omit h) ≡ map (mail_by omit) (filter (is_kept_mail omit) (notes h)))
      (λ a. no_notes ∙ sym (ap (λ ms. map (mail_by omit) (filter (is_kept_mail omit) ms)) no_notes)) step where
        step : (h : List Event) (e : Event) → (Omits base omit h → notes (what_stays omit h) ≡ map (mail_by omit) (filter (is_kept_mail omit) (notes h))) →
            Omits base omit (h ++ e ∷ []) →
            notes (what_stays omit (h ++ e ∷ [])) ≡ map (mail_by omit) (filter (is_kept_mail omit) (notes (h ++ e ∷ [])))
        step h e before a = by_test (omit (length h)) refl ∙ sym (ap (map (mail_by omit)) (whole) ∙
            map-append (mail_by omit) (filter (is_kept_mail omit) (notes h)) (filter (is_kept_mail omit) (mail_of h e))) where
              whole : filter (is_kept_mail omit) (notes (h ++ e ∷ [])) ≡ filter (is_kept_mail omit) (notes h) ++ filter (is_kept_mail omit) (mail_of h e)
              whole = ap (filter (is_kept_mail omit)) (notes-push h e) ∙ filter-append (is_kept_mail omit) (notes h) (mail_of h e)

              by_test : (b : Bool) → omit (length h) ≡ b →
                  notes (what_stays omit (h ++ e ∷ [])) ≡ map (mail_by omit) (filter (is_kept_mail omit) (notes h)) ++ map (mail_by omit)
                  (filter (is_kept_mail omit) (mail_of h e))
              by_test true gone = ap notes (what_stays-gone omit h e gone) ∙ before (omit_before base omit h (e ∷ []) a) ∙ sym (append-nil _) ∙
                  ap (λ ms. map (mail_by omit) (filter (is_kept_mail omit) (notes h)) ++ map (mail_by omit) ms)
                  (sym (none_kept (length h) gone (mail_of h e) (mail_places h e)))
              by_test false stay = ap notes (what_stays-kept omit h e stay) ∙ notes-push (what_stays omit h) (event_by (number omit) e) ∙
                  (λ i. before (omit_before base omit h (e ∷ []) a) i ++ (mail_of_by h (omit_before base omit h (e ∷ []) a) e (stays_last h e a stay) ∙
                  ap (map (mail_by omit)) (sym (all_kept (length h) stay (mail_of h e) (mail_places h e)))) i)

  -- what each node is told -------------------------------------------------------------------------------------------

  abbrev Goes_there : List Mail → Type 0
  Goes_there ms = AllByRecursion (λ (m : Mail). omit m.place ≡ false → omit m.to ≡ false) ms

  item_targets : (n : ℕ) (v : ℤ) (ss : List Stop) → Stops_stay omit ss → Goes_there (filter_map (told n v) ss)
  item_targets n v [] all = tt
  item_targets n v (Delivery m ∷ ss) all = ((λ kept. all.0), item_targets n v ss all.1)
  item_targets n v (Projection f ∷ ss) all = ((λ kept. all.0), item_targets n v ss all.1)
  item_targets n v (Firing u ∷ ss) all = item_targets n v ss all.1

  mail_targets : (h : List Event) → Omits base omit h → (e : Event) → Stay_all omit (named_in e) → Goes_there (mail_of h e)
  mail_targets h a (Item l v) all = item_targets (length h) v (stops h l) (stops_by base omit h a l all.0).1
  mail_targets h a (End n t) all = by_root (at is_root h n) where
    by_root : (b : Bool) → Goes_there (cond b ((record { place = length h; to = n; note = EndNote t }) ∷ []) [])
    by_root true = ((λ kept. all.0), tt)
    by_root false = tt
  mail_targets h a _ all = tt

  gone_targets : (n : ℕ) → omit n ≡ true → (ms : List Mail) → AllByRecursion (λ (m : Mail). m.place ≡ n) ms → Goes_there ms
  gone_targets n gone [] all = tt
  gone_targets n gone (m ∷ ms) all = ((λ kept. absurd (both_ways (omit n) (ap omit (sym all.0) ∙ kept) gone)), gone_targets n gone ms all.1)

  targets : (h : List Event) → Omits base omit h → Goes_there (notes h)
  targets = by_pushes (λ h. Omits base omit h → Goes_there (notes h)) (λ a. subst Goes_there (sym no_notes) tt) step where
    step : (h : List Event) (e : Event) → (Omits base omit h → Goes_there (notes h)) → Omits base omit (h ++ e ∷ []) → Goes_there (notes (h ++ e ∷ []))
    step h e before a = subst Goes_there (sym (notes-push h e))
        (AllByRecursion-both (λ (m : Mail). omit m.place ≡ false → omit m.to ≡ false) (notes h) (mail_of h e)
        (before (omit_before base omit h (e ∷ []) a)) (by_test (omit (length h)) refl))
      where
        by_test : (b : Bool) → omit (length h) ≡ b → Goes_there (mail_of h e)
        by_test true gone = gone_targets (length h) gone (mail_of h e) (mail_places h e)
        by_test false stay = mail_targets h (omit_before base omit h (e ∷ []) a) e (stays_last h e a stay)

  notes_in_kept : (n : ℕ) → omit n ≡ false → (ms : List Mail) → Goes_there ms →
      map (λ (m : Mail). m.note) (filter (λ (m : Mail). m.to == number omit n) (map (mail_by omit) (filter (is_kept_mail omit) ms))) ≡
      map (λ (m : Mail). m.note) (filter (λ (m : Mail). (m.to == n) && is_kept_mail omit m) ms)
  notes_in_kept n stay [] all = refl
  notes_in_kept n stay (m ∷ ms) all = by_test (omit m.place) refl (notes_in_kept n stay ms all.1) where
    rest : List Mail
    rest = map (mail_by omit) (filter (is_kept_mail omit) ms)

    shape : (a b : Bool) → a ≡ b → (xs ys : List Mail) → map (λ (m : Mail). m.note) xs ≡ map (λ (m : Mail). m.note) ys →
        map (λ (m : Mail). m.note) (cond a (mail_by omit m ∷ xs) xs) ≡ map (λ (m : Mail). m.note) (cond (b && true) (m ∷ ys) ys)
    shape true true same xs ys later = ap (λ ns. m.note ∷ ns) later
    shape false false same xs ys later = later
    shape true false same xs ys later = absurd (false≢true (sym same))
    shape false true same xs ys later = absurd (false≢true same)

    none : (b : Bool) (ys : List Mail) → cond (b && false) (m ∷ ys) ys ≡ ys
    none true ys = refl
    none false ys = refl

    by_test : (b : Bool) → omit m.place ≡ b →
        map (λ (m : Mail). m.note) (filter (λ (m : Mail). m.to == number omit n) (map (mail_by omit) (filter (is_kept_mail omit) ms))) ≡
        map (λ (m : Mail). m.note) (filter (λ (m : Mail). (m.to == n) && is_kept_mail omit m) ms) →
        map (λ (m : Mail). m.note) (filter (λ (m : Mail). m.to == number omit n)
        (map (mail_by omit) (cond (not (omit m.place)) (m ∷ filter (is_kept_mail omit) ms) (filter (is_kept_mail omit) ms)))) ≡
        map (λ (m : Mail). m.note) (cond ((m.to == n) && not (omit m.place)) (m ∷ filter (λ (m : Mail). (m.to == n) && is_kept_mail omit m) ms)
        (filter (λ (m : Mail). (m.to == n) && is_kept_mail omit m) ms))
    by_test true gone later = ap (λ b. map (λ (m : Mail). m.note) (filter (λ (m : Mail). m.to == number omit n)
        (map (mail_by omit) (cond (not b) (m ∷ filter (is_kept_mail omit) ms) (filter (is_kept_mail omit) ms))))) gone ∙ later ∙
        sym (ap (λ b. map (λ (m : Mail). m.note) (cond ((m.to == n) && not b) (m ∷ filter (λ (m : Mail). (m.to == n) && is_kept_mail omit m) ms)
        (filter (λ (m : Mail). (m.to == n) && is_kept_mail omit m) ms))) gone ∙
        ap (map (λ (m : Mail). m.note)) (none (m.to == n) (filter (λ (m : Mail). (m.to == n) && is_kept_mail omit m) ms)))
    by_test false kept later = ap (λ b. map (λ (m : Mail). m.note) (filter (λ (m : Mail). m.to == number omit n)
        (map (mail_by omit) (cond (not b) (m ∷ filter (is_kept_mail omit) ms) (filter (is_kept_mail omit) ms))))) kept ∙
        shape (number omit m.to == number omit n) (m.to == n) (number_eq omit m.to n (all.0 kept) stay) _ _ later ∙
        sym (ap (λ b. map (λ (m : Mail). m.note) (cond ((m.to == n) && not b) (m ∷ filter (λ (m : Mail). (m.to == n) && is_kept_mail omit m) ms)
        (filter (λ (m : Mail). (m.to == n) && is_kept_mail omit m) ms))) kept)

  pub told_by : (h : List Event) → Omits base omit h → (n : ℕ) → omit n ≡ false → notes_to (what_stays omit h) (number omit n) ≡ notes_kept omit h n
  told_by h a n stay = ap (λ ms. map (λ (m : Mail). m.note) (filter (λ (m : Mail). m.to == number omit n) ms)) (notes_by h a) ∙
      notes_in_kept n stay (notes h) (targets h a)

  -- where nothing that is left out reaches it ------------------------------------------------------------------------

  abbrev Is_kept_to : ℕ → List Mail → Type 0
  Is_kept_to n ms = AllByRecursion (λ (m : Mail). (m.to == n) ≡ true → omit m.place ≡ false) ms

  none_there : (n place : ℕ) (v : ℤ) (ss : List Stop) → reaches n ss ≡ false → Is_kept_to n (filter_map (told place v) ss)
  none_there n place v [] none = tt
  none_there n place v (Firing u ∷ ss) none = none_there n place v ss (Rattle.rx_omitted.proofs.Tests.or_later (u == n) (reaches n ss) none)
  none_there n place v (Delivery m ∷ ss) none = (
    (λ is. absurd (both_ways (m == n) (Rattle.rx_omitted.proofs.Tests.or_first (m == n) (reaches n ss) none) is)),
    none_there n place v ss (Rattle.rx_omitted.proofs.Tests.or_later (m == n) (reaches n ss) none),
  )
  none_there n place v (Projection m ∷ ss) none = (
    (λ is. absurd (both_ways (m == n) (Rattle.rx_omitted.proofs.Tests.or_first (m == n) (reaches n ss) none) is)),
    none_there n place v ss (Rattle.rx_omitted.proofs.Tests.or_later (m == n) (reaches n ss) none),
  )

  all_there : (n k : ℕ) → omit k ≡ false → (ms : List Mail) → AllByRecursion (λ (m : Mail). m.place ≡ k) ms → Is_kept_to n ms
  all_there n k stay [] all = tt
  all_there n k stay (m ∷ ms) all = ((λ is. ap omit all.0 ∙ stay), all_there n k stay ms all.1)

  end_elsewhere : (h : List Event) (n : ℕ) (t : Terminal) (k : ℕ) → omit n ≡ false → omit k ≡ true → Is_kept_to n (mail_of h (End k t))
  end_elsewhere h n t k stay gone = by_root (at is_root h k) where
    by_root : (b : Bool) → Is_kept_to n (cond b ((record { place = length h; to = k; note = EndNote t }) ∷ []) [])
    by_root true = ((λ is. absurd (both_ways (omit n) stay (ap omit (sym (eqb-true k n is)) ∙ gone))), tt)
    by_root false = tt

  gone_there : (h k : List Event) (n i : ℕ) {e : Event} → omit n ≡ false → NeedsNone omit k i e →
      ((l : ℕ) (v : ℤ) → e ≡ Item l v → reaches n (stops h l) ≡ false) → Is_kept_to n (mail_of h e)
  gone_there h k n i stay (only_heard {leaf = l} {value = v} heard) none = none_there n (length h) v (stops h l) (none l v refl)
  gone_there h k n i stay lone_leaf none = tt
  gone_there h k n i stay (lone_end {n = m} {t = t} gone) none = end_elsewhere h n t m stay gone
  gone_there h k n i stay (lone_close gone) none = tt

  hears_before : (h t : List Event) (n : ℕ) → HearsAll omit (h ++ t) n → HearsAll omit h n
  hears_before h t n hears i l v at_i gone =
      let less = slice_get_within h i _ at_i in
      ap (λ k. reaches n (stops k l)) (sym (take-append-le i h t (omega arith))) ∙ hears i l v (slice_get-append h t i less ∙ at_i) gone

  kept_there : (n : ℕ) → omit n ≡ false → (h : List Event) → Omits base omit h → HearsAll omit h n → Is_kept_to n (notes h)
  kept_there n stay = by_pushes (λ h. Omits base omit h → HearsAll omit h n → Is_kept_to n (notes h))
      (λ a hears. subst (Is_kept_to n) (sym no_notes) tt) step where
        step : (h : List Event) (e : Event) → (Omits base omit h → HearsAll omit h n → Is_kept_to n (notes h)) → Omits base omit (h ++ e ∷ []) →
            HearsAll omit (h ++ e ∷ []) n → Is_kept_to n (notes (h ++ e ∷ []))
        step h e before a hears = subst (Is_kept_to n) (sym (notes-push h e))
            (AllByRecursion-both (λ (m : Mail). (m.to == n) ≡ true → omit m.place ≡ false) (notes h)
            (mail_of h e) (before (omit_before base omit h (e ∷ []) a) (hears_before h (e ∷ []) n hears)) (by_test (omit (length h)) refl))
          where
            by_test : (b : Bool) → omit (length h) ≡ b → Is_kept_to n (mail_of h e)
            by_test false here = all_there n (length h) here (mail_of h e) (mail_places h e)
            by_test true gone = gone_there h (h ++ e ∷ []) n (length h) stay (gone_last h e a gone)
                (λ l v is. ap (λ k. reaches n (stops k l)) (sym (take_at h (e ∷ []) (length h) refl)) ∙
                hears (length h) l v (slice_get_last h e ∙ ap (λ (x : Event). Some x) is) gone)

  all_kept_to : (n : ℕ) (ms : List Mail) → Is_kept_to n ms →
      filter (λ (m : Mail). (m.to == n) && is_kept_mail omit m) ms ≡ filter (λ (m : Mail). m.to == n) ms
  all_kept_to n [] all = refl
  all_kept_to n (m ∷ ms) all = (λ i. cond (same (m.to == n) refl i) (m ∷ all_kept_to n ms all.1 i) (all_kept_to n ms all.1 i)) where
    same : (b : Bool) → (m.to == n) ≡ b → ((m.to == n) && not (omit m.place)) ≡ (m.to == n)
    same true is = ap (λ b. (m.to == n) && not b) (all.0 is) ∙ Rattle.rx_event.proofs.Laws.Common.and_true (m.to == n)
    same false is = ap (λ b. b && not (omit m.place)) is ∙ sym is

  pub told_all_by : (h : List Event) → Omits base omit h → (n : ℕ) → omit n ≡ false → HearsAll omit h n →
      notes_to (what_stays omit h) (number omit n) ≡ notes_to h n
  told_all_by h a n stay hears = told_by h a n stay ∙ ap (map (λ (m : Mail). m.note)) (all_kept_to n (notes h) (kept_there n stay h a hears))
