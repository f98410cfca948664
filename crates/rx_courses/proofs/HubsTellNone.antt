-- Making hubs tells nothing, releases nothing and closes nothing, so that it puts nothing into lanes.
use Rattle.std.proofs.Common.{◌≡◌, ℕ, suc, ◌<◌, ◌⊎◌, inl, inr, ◌&&◌, ◌||◌, not, Bool, true, false, List, [], ◌∷◌, ◌++◌, length, map, drop, refl, sym, ap, ◌∙◌, arith, subst, IsTrue}
use Rattle.std.proofs.Math.Seq.{drop-length}
use Rattle.std.proofs.lemmas.Bool.{both_ways, cases_order, false≢true}
use Rattle.std.proofs.lemmas.List.{append-nil}
use Rattle.std.specs.List.{All}
use Rattle.rx_resource.specs.declared.Resource.{Ghosts}
use Rattle.rx_resource.specs.declared.token.Token.{Token}
use Rattle.rx_event.specs.declared.event.Event.{Event}
use Rattle.rx_event.specs.declared.event.Event.TheVariants.{Hub}
use Rattle.rx_event.specs.declared.event.Mode.{Mode}
use Rattle.rx_event.specs.Gone.{goes}
use Rattle.rx_event.specs.Kept.{Kept}
use Rattle.rx_event.specs.Resources.{is_waiting, is_held}
use Rattle.rx_event.proofs.Laws.Common.{is_open, notes, IsLawful, IsSettled, MayFollow, length-append, length-map}
use Rattle.rx_event.proofs.Laws.Calm.{closes_none_kept}
use Rattle.rx_event.proofs.Laws.Counts.{notes-push}
use Rattle.rx_event.proofs.Laws.Openness.{is_open_unchanged}
use Rattle.rx_event.proofs.Laws.Resources.{is_waiting_past, is_waiting_new, is_waiting-unheld, is_held_kept}
use Rattle.rx_ground.specs.Shown.{Label}
use Rattle.rx_book.specs.State.{State as BookState}
use Rattle.rx_book.specs.Requests.{hub_request}
use Rattle.rx_book.specs.Answers.{Accepts}
use Rattle.rx_lanes.specs.State.{State as LanesState, KeepsLanes}
use Rattle.rx_roles.specs.declared.roles.Role.{Role}
use Rattle.rx_roles.specs.declared.effect.Effect.{Effect}
use Rattle.rx_roles.specs.Roles.{is_among, without_all}
use Rattle.rx_roles.specs.Effects.{after_all, all_told, all_last}
use Rattle.rx_roles.proofs.Laws.JustThose.{just_among, just_none}
use Rattle.rx_roles.proofs.Laws.NodesAfterStep.{first_follows, forces_none, StepMakes, makes_none_more, is_new_none}
use Rattle.rx_roles.proofs.Laws.NodesGone.{goes_is}
use Rattle.rx_engine.specs.declared.parts.Parts.{Parts}
use Rattle.rx_engine.specs.Deliveries.{Delivers, none_delivered, one_delivered}
use Rattle.rx_engine.specs.Hubs.{IsHubDone, MakesHubs, none_made, one_made, room_gotten}
use Rattle.rx_engine.specs.Settlements.{mail_left, all_given, closed_of, effects_told, Releases, none_released, one_released}
use Rattle.rx_engine.specs.States.{State, IsPromised}
use Rattle.rx_courses.proofs.MovesOfLanes.{Rests, rests_none, rests_kept, rests_settled, moves_none, moves_then, leaves_moves, Moves}

-- a book that told all, and in which no resource waits
pub record IsCalm (s : BookState) : Type 0 where
  pub lawful : IsLawful s.base s.history
  pub settled : IsSettled s.base s.history
  pub given : s.given ≡ length (notes s.history)
  pub none_waits : (n : ℕ) → is_waiting s.history n ≡ false

pub calm : (s : State) → IsPromised s → IsCalm s.book
calm s kept = record {
  lawful = kept.book.lawful;
  settled = kept.book.settled;
  given = kept.tied.given;
  none_waits = λ n. sym (just_among kept.book.waiting n) ∙ ap (λ (ls : List Label). is_among n (map (λ (l : Label). l.number) ls)) kept.tied.none_waits;
}

none_listed : (test : ℕ → Bool) (ns : List ℕ) → ((n : ℕ) → test n ≡ false) → All (λ n. IsTrue (test n)) ns → ns ≡ []
none_listed test [] none all = refl
none_listed test (n ∷ ns) none all = absurd (both_ways (test n) (none n) (all 0 n (let w : 0 < suc (length ns) = omega arith in w)))

-- where no resource waits none is released
pub record ReleasesNone (s : BookState) (holds : List Role) (es : List Effect) (t : BookState) (holds' : List Role) (es' : List Effect) : Type 0 where
  pub book : t ≡ s
  pub holds_same : holds' ≡ holds
  pub effects : es' ≡ es

releases_none : (g : Ghosts Token) (by : ℕ) (s : BookState) (holds : List Role) (es : List Effect) (t : BookState) (holds' : List Role) (es' : List Effect) →
    ((n : ℕ) → is_waiting s.history n ≡ false) → Releases g by s holds es t holds' es' → ReleasesNone s holds es t holds' es'
releases_none g by s holds es t holds' es' none none_released = record { book = refl; holds_same = refl; effects = refl }
releases_none g by s holds es t holds' es' none (one_released {t = m} {holds' = held} {effects' = fs} before kept says) =
    let same = (releases_none g by s holds es m held fs none before).book in
    let numbers = none_listed (is_waiting m.history) (map (λ (l : Label). l.number) m.waiting)
    (λ n. ap (λ (b : BookState). is_waiting b.history n) same ∙ none n) kept.waiting.each in
    let long = length-map m.waiting (λ (l : Label). l.number) in
    let short = ap (length {A = ℕ}) numbers in
    let within = says.cases.1 in
    absurd (omega (arith, long, short, within))

delivers_none : (by : ℕ) (s t : LanesState Effect) (es : List Effect) → es ≡ [] → Delivers by s es t → KeepsLanes s t
delivers_none by s t es none (none_delivered k) = k
delivers_none by s t es none (one_delivered e l found arrives rest) = absurd (cc)

-- making one hub
module _ {s mid : BookState} {mode : Mode} (c : IsCalm s) (accepts : Accepts s (hub_request mode) mid) where
  next : MayFollow s.base s.history (Hub mode)
  next = first_follows s.base s.history (Hub mode) mid.history c.lawful accepts.step.lawful accepts.step.forced

  grown : mid.history ≡ s.history ++ Hub mode ∷ []
  grown = forces_none s.base c.lawful c.settled next refl (λ u. refl) (closes_none_kept s.history (Hub mode) refl) refl accepts.step.forced

  makes : StepMakes s.history mid.history []
  makes = subst (λ (k : List Event). StepMakes s.history k []) (sym grown)
      (makes_none_more (Hub mode) (omega arith) refl
      (record {
        grown = record { events = []; grows = sym (append-nil s.history) };
        makes = just_none (is_new_none s.history);
        opens = λ n is. absurd (false≢true is);
      }))

  both : (b : Bool) → (b && not b) ≡ false
  both true = refl
  both false = refl

  closes : closed_of mid ≡ []
  closes = none_listed (goes s.history mid.history) (closed_of mid)
      (λ n. goes_is makes n
      ∙ ap (λ (b : Bool). is_open s.history n && not b) (ap (λ (k : List Event). is_open k n) grown ∙ is_open_unchanged s.history (Hub mode) refl refl n)
      ∙ both (is_open s.history n)) accepts.closed.each

  notes_kept : notes mid.history ≡ notes s.history
  notes_kept = ap notes grown ∙ notes-push s.history (Hub mode) ∙ append-nil (notes s.history)

  tells : mail_left mid ≡ []
  tells = ap (λ (n : ℕ). drop n (notes mid.history)) (accepts.given ∙ c.given) ∙ ap (drop (length (notes s.history))) notes_kept
      ∙ drop-length (notes s.history)

  waits : (n : ℕ) → is_waiting mid.history n ≡ false
  waits n = ap (λ (k : List Event). is_waiting k n) grown ∙ by_place (cases_order n (length s.history)) where
    by_place : (n ≡ length s.history) ⊎ ((n < length s.history) ⊎ (length s.history < n)) → is_waiting (s.history ++ Hub mode ∷ []) n ≡ false
    by_place (inl same) = ap (is_waiting (s.history ++ Hub mode ∷ [])) same ∙ is_waiting_new s.base s.history (Hub mode) c.lawful next
    by_place (inr (inl l)) =
        is_waiting-unheld s.base s.history (Hub mode) c.lawful next n l
        ∙ (λ i. (c.none_waits n i || (is_held s.history n && not (is_held_kept (Hub mode) c.lawful n l refl refl refl refl i))) && true)
        ∙ ap (λ (b : Bool). b && true) (both (is_held s.history n))
    by_place (inr (inr past)) = is_waiting_past (s.history ++ Hub mode ∷ []) n (let l = length-append s.history (Hub mode ∷ []) in omega (arith, l, past))

-- of whoever looks at it only the pool changed
pub record IsQuiet (s t : State) : Type 0 where
  pub calm_still : IsCalm t.book
  pub notes_same : notes t.book.history ≡ notes s.book.history
  pub hears : t.parts.hears.list ≡ s.parts.hears.list
  pub merges : t.parts.merges.list ≡ s.parts.merges.list
  pub holds : t.parts.holds.list ≡ s.parts.holds.list
  pub wishes : t.wishes.roles.list ≡ s.wishes.roles.list
  pub rests : Rests s.parts.lanes t.parts.lanes

quiet_hub : (g : Ghosts Token) (mode : Mode) (by : ℕ) (s m t : State) → IsQuiet s m → IsHubDone g mode by m t → IsQuiet s t
quiet_hub g mode by s m t q d =
    let c = q.calm_still in
    let closed = closes c d.accepts in
    let told = tells c d.accepts in
    let released = releases_none g by (all_given d.mid) d.added.holds.list (effects_told by 0 d.mid d.added) t.book t.parts.holds.list d.settles.effects (waits
    c d.accepts)
    d.settles.releases in
    let none : d.settles.effects ≡ [] = released.effects ∙ (λ i. all_told by 0 d.added.hears.list d.added.merges.list (told i)
    ++ all_last by (after_all d.added.hears.list (told i)) d.added.merges.list (closed i)) in
    let only = d.adds.only in
    record {
      calm_still = subst IsCalm (sym released.book)
          (record {
            lawful = subst (λ (b : Kept). IsLawful b d.mid.history) (sym d.accepts.base) d.accepts.step.lawful;
            settled = subst (λ (b : Kept). IsSettled b d.mid.history) (sym d.accepts.base) d.accepts.step.settled;
            given = refl;
            none_waits = waits c d.accepts;
          });
      notes_same = ap (λ (b : BookState). notes b.history) released.book ∙ notes_kept c d.accepts ∙ q.notes_same;
      hears = d.settles.hears ∙ (λ i. without_all (after_all d.added.hears.list (told i)) (closed i)) ∙ ap (λ (p : Parts). p.hears.list) only ∙ q.hears;
      merges = d.settles.merges ∙ ap (without_all d.added.merges.list) closed ∙ ap (λ (p : Parts). p.merges.list) only ∙ q.merges;
      holds = released.holds_same ∙ ap (λ (p : Parts). p.holds.list) only ∙ q.holds;
      wishes = d.closes.roles_are ∙ ap (without_all m.wishes.roles.list) closed ∙ q.wishes;
      rests = rests_settled by q.rests
          (moves_then (subst (λ (x : LanesState Effect). Moves m.parts.lanes x) (sym (ap (λ (p : Parts). p.lanes) only)) moves_none)
          (leaves_moves d.added.lanes d.settles.left _ d.settles.leaves))
          (delivers_none by d.settles.left d.settles.put d.settles.effects none d.settles.delivers) d.settles.lanes;
    }

pub quiet_hubs : (g : Ghosts Token) (by : ℕ) (s t : State) → IsCalm s.book → MakesHubs g by s t → IsQuiet s t
quiet_hubs g by s t c none_made = record { calm_still = c; notes_same = refl; hears = refl; merges = refl; holds = refl; wishes = refl; rests = rests_none }
quiet_hubs g by s t c (one_made {t = m} before d) = quiet_hub g _ by s m t (quiet_hubs g by s m c before) d
quiet_hubs g by s t c (room_gotten {t = m} before seen) =
    let q = quiet_hubs g by s m c before in
    record {
      calm_still = subst IsCalm (sym seen.book) q.calm_still;
      notes_same = ap (λ (b : BookState). notes b.history) seen.book ∙ q.notes_same;
      hears = seen.parts.hears ∙ q.hears;
      merges = seen.parts.merges ∙ q.merges;
      holds = seen.parts.holds ∙ q.holds;
      wishes = seen.wishes ∙ q.wishes;
      rests = rests_kept q.rests seen.parts.lanes;
    }
