-- No call of a face loses a lane.
use Rattle.std.proofs.Common.{◌≡◌, ℕ, ◌==◌, ◌&&◌, ◌⊎◌, inl, inr, ◌||◌, nat_lt, Bool, true, false, List, [], ◌∷◌, map, Option, Some, None, IsSome, is_none, is_some, option_map, refl, sym, ap, subst, ◌∙◌, slice_get, slice_index_or}
use Rattle.std.proofs.Math.Bool.{not}
use Rattle.std.proofs.lemmas.Bool.{false≢true, and_parts, eq-eqb}
use Rattle.std.proofs.lemmas.Option.{same_Some}
use Rattle.rx_resource.specs.declared.Resource.{Ghosts}
use Rattle.rx_resource.specs.declared.token.Token.{Token}
use Rattle.rx_slots.specs.Lists.{is_in}
use Rattle.rx_lanes.specs.declared.names.LaneName.{LaneName}
use Rattle.rx_lanes.specs.declared.names.Due.{Due}
use Rattle.rx_lanes.specs.Courses.{is_named}
use Rattle.rx_lanes.specs.Lane.{Lane, has_any, is_served}
use Rattle.rx_lanes.specs.State.{Opened, lane, opened_at, with_turn, IsLeft}
use Rattle.rx_roles.specs.declared.effect.Effect.{Effect as Sent}
use Rattle.rx_engine.specs.States.{IsPromised}
use Rattle.rx_courses.specs.LeftNamed.{IsServedBy, AreThere, CommandsNameWhatIsLeft}
use Rattle.rx_cellar.specs.declared.shapes.Command.{Command}
use Rattle.rx_cellar.specs.declared.shapes.Answer.{Answer}
use Rattle.rx_cellar.specs.declared.shapes.Effect.{Effect}
use Rattle.rx_cellar.specs.declared.cellar.Cellar.{Cellar}
use Rattle.rx_cellar.specs.declared.asked.Asked.{Asked}
use Rattle.rx_cellar.specs.declared.asked.Asked.TheVariants.{Next}
use Rattle.rx_cellar.specs.Asking.{asked_of, asked_as, asks_item}
use Rattle.rx_cellar.specs.Beginnings.{IsFresh}
use Rattle.rx_cellar.specs.Crossings.{effect_of}
use Rattle.rx_cellar.specs.Serving.{words_due}
use Rattle.rx_cellar.specs.Words.{place_in, word_of, word_of_due, WordsFindTheirLanes}
use Rattle.rx_turns.specs.declared.agenda.Turn.{Turn}
use Rattle.rx_turns.specs.declared.agenda.Task.{Task}
use Rattle.rx_turns.specs.Rows.{is_same}
use Rattle.rx_turns.specs.Agendas.{in_hand, has_nothing, HasNothing, IsServing}
use Rattle.rx_turns.specs.States.{TurnState}
use Rattle.rx_turns.specs.Serving.{HandsOut}
use Rattle.rx_turns.specs.Making.{inner_lane, lane_at_once, ComesHome, opens_no_inner, is_not_due, is_of_another, is_due_here}
use Rattle.rx_turns.specs.Making.{Comes, comes_at_once, all_wait, ComesIf, IsMadeBy, MakesOnLine, makes_there, finds_no_room, MakesIn, is_made, is_made_bare, finds_no_line}
use Rattle.rx_turns.specs.Calls.{MakesAny}
use Rattle.rx_turns.specs.Tended.{StandsDue, IsAstray, NoLaneIsLost, NothingToDo, LosesNoLane}
use Rattle.rx_turns.proofs.LanesAsked.{lanes, kind_of}
use Rattle.rx_turns.proofs.LanesNamed.{Names, Hands, Leaves, was_done, was_refused, HandsIf, command_leaves}
use Rattle.rx_turns.proofs.LanesTended.{LosesNoneBut, none_but, none_at_all, all_due, came_home, gone_on, let_go, left_to, ended, all_stopped}
use Rattle.rx_turns.proofs.NoLaneLost.{room_alike, alike_kept, noted_kept, serving_other, own_hand, turn_is, kinds_held, covered_same}
use Rattle.rx_turns.proofs.NothingHanded.{nothing_given, no_item, no_item_opened, no_inner}
use Rattle.rx_turns.proofs.Laws.HandsKept.{home_dues}

-- an item that waits is not asked for
waits_asks : (o : Option Asked) → asks_item (asked_as true o) ≡ false
waits_asks None = refl
waits_asks (Some (Next leaf value true)) = refl
waits_asks (Some (Next leaf value false)) = refl
waits_asks (Some asked) = refl

nothing_in_hand : (turn : Turn) (s : TurnState) → has_nothing s.agenda turn ≡ true → in_hand s.agenda turn ≡ None
nothing_in_hand turn s is = by_hand (in_hand s.agenda turn) refl (and_parts (is_none (in_hand s.agenda turn)) _ is).0 where
  by_hand : (o : Option Task) → in_hand s.agenda turn ≡ o → is_none o ≡ true → in_hand s.agenda turn ≡ None
  by_hand None at none = at
  by_hand (Some h) at none = absurd (false≢true none)

module _ (g : Ghosts Token) (find : WordsFindTheirLanes Sent) (law : CommandsNameWhatIsLeft g) where
  -- a command that a turn makes ------------------------------------------------------------------------------

  module _ (turn : Turn) (is_free : Bool) (c : Command) (s t : TurnState) (a b : Answer) (status : ℕ) (is_own : Bool) (k : NoLaneIsLost s)
      (m : IsMadeBy g turn is_free c s t a b status is_own) (free : IsSome m.given → (in_hand s.agenda turn ≡ None) × (nat_lt c.what 2 ≡ false)) where
    abbrev behind : TurnState
    behind = record s { cellar = m.cellar }

    home_cellar : m.between.cellar ≡ m.cellar
    home_cellar = (home_dues turn behind m.between (inner_lane (status == 0) c m.cellar) m.home).cellar

    none_done : (b : Bool) → ComesIf b turn (words_due m.cellar) m.given m.between t is_own → b ≡ false → t ≡ m.between
    none_done true comes nay = absurd (false≢true (sym nay))
    none_done false comes nay = comes.0

    refused : (status == 0) ≡ false → Names s.cellar.engine m.cellar.engine [] → NoLaneIsLost t
    refused undone names =
        subst NoLaneIsLost (sym (none_done (status == 0) m.comes undone))
        (none_at_all m.between (λ n. ⊥) (λ n is nay. nay) (came_home find turn behind m.between (inner_lane (status == 0) c m.cellar) (λ n. ⊥) (none_but behind (λ n. ⊥) kept) m.home))
      where
        was : (n : LaneName) → IsLeft s.cellar.engine.parts.lanes n ⊎ (false ≡ true) → IsLeft (lanes s.cellar) n
        was n (inl is) = is
        was n (inr nay) = absurd (false≢true nay)

        kept : NoLaneIsLost behind
        kept = record {
          left = λ n is. k.left n (was n (names.left n is));
          served = λ n by is. k.served n by (names.served n by is);
          settled = names.settled;
          placed = k.placed;
          kinds = k.kinds;
        }

    none_given : m.given ≡ None → Names s.cellar.engine m.cellar.engine m.cellar.engine.parts.lanes.due → Comes turn (words_due m.cellar) m.given m.between t is_own →
        NoLaneIsLost t
    none_given none names comes = by_comes is_own comes where
      due : List Due
      due = m.cellar.engine.parts.lanes.due

      named : LosesNoneBut m.between (λ n. is_named n due ≡ true)
      named =
          came_home find turn behind m.between (inner_lane (status == 0) c m.cellar) (λ n. is_named n due ≡ true)
          (record {
            left = λ n is. elim (names.left n is) [ inl was ↦ inl (k.left n was) | inr now ↦ inr now ];
            served = λ n by is. k.served n by (names.served n by is);
            settled = names.settled;
            placed = k.placed;
            kinds = k.kinds;
          }) m.home

      by_comes : (own : Bool) → Comes turn (words_due m.cellar) m.given m.between t own → NoLaneIsLost t
      by_comes _ (comes_at_once word e h gives at out) = absurd (let both : None ≡ Some e = sym none ∙ gives in cc)
      by_comes _ (all_wait first claimed) =
          all_due find turn t due m.between (subst (λ (x : Cellar). IsPromised x.engine) (sym home_cellar) m.stands)
          (subst (λ (x : Cellar). AreThere (lanes x) due) (sym home_cellar) names.named) named claimed

    one_given : (e : Effect) (sent : Sent) → m.given ≡ Some e → e ≡ effect_of sent → Hands turn.by s.cellar.engine m.cellar.engine →
        Comes turn (words_due m.cellar) m.given m.between t is_own → NoLaneIsLost t
    one_given e sent some crosses hands comes = by_comes is_own comes where
      idle : in_hand s.agenda turn ≡ None
      idle = (free (subst (λ (o : Option Effect). IsSome o) (sym some) refl)).0

      stays : (o : Option ℕ) → o ≡ None → ComesHome turn behind m.between o → m.between ≡ behind
      stays _ none (opens_no_inner same) = same
      stays _ none (is_not_due word nay same) = same
      stays _ none (is_of_another word nay same) = same
      stays _ none (is_due_here word e stands may claims) = absurd (cc)

      at_home : m.between ≡ behind
      at_home =
          stays (inner_lane (status == 0) c m.cellar)
          (no_inner (status == 0) c m.cellar (free (subst (λ (o : Option Effect). IsSome o) (sym some) refl)).1) m.home

      words : words_due m.cellar ≡ word_of hands.name ∷ []
      words = ap (map word_of_due) hands.due

      handed : (word : ℕ) (f : Effect) (h : Task) → f ≡ e → word ≡ word_of hands.name → HandsOut turn word f behind t h → NoLaneIsLost t
      handed word f h same at out = record {
        left = λ n is. covered_same behind t n out.holds.due out.holds.words (ap (λ (x : TurnState). x.astray) out.only)
            (k.left n (hands.left n (subst (λ (x : Cellar). IsLeft (lanes x) n) cellar is)));
        served = λ n by is. elim (hands.served n by (subst (λ (x : Cellar). IsServedBy (lanes x) n by) cellar is)) [
          | inl was ↦ (let x = k.served n by was in by_turn n by x (is_same turn x.0) refl)
          | inr now ↦ (
            turn,
            h,
            sym now.1,
            own_hand turn (Some h) s.agenda t.agenda out.holds,
            ap (λ (x : Task). x.word) out.is_new ∙ at ∙ ap word_of (sym now.0),
          )
        ];
        settled = ap (λ (x : Cellar). (lanes x).fresh) cellar ∙ hands.settled;
        placed = λ u p is. ap place_in (out.holds.words p) ∙ k.placed u p (ap (is_in p) (sym (out.holds.due u)) ∙ is);
        kinds = kinds_held turn (Some h) s.agenda t.agenda out.holds
            (λ f' is. kind_of (Some sent) f'.effect
            (ap (λ (x : Effect). Some x) (sym crosses ∙ sym same ∙ sym (ap (λ (x : Task). x.effect) out.is_new) ∙ ap (λ (x : Task). x.effect) (same_Some h f' is))))
            k.kinds;
      } where
        cellar : t.cellar ≡ m.cellar
        cellar = ap (λ (x : TurnState). x.cellar) out.only

        by_turn : (n : LaneName) (by : ℕ) (x : IsServing s.agenda by (word_of n)) (b : Bool) → is_same turn x.0 ≡ b → IsServing t.agenda by (word_of n)
        by_turn n by (u, f, stack, held, is) true same =
            let both : None ≡ Some f = sym idle ∙ ap (λ (v : Turn). in_hand s.agenda v) (turn_is turn u same) ∙ held in absurd (cc)
        by_turn n by x false apart = serving_other turn (Some h) s.agenda t.agenda by (word_of n) out.holds x apart

      by_comes : (own : Bool) → Comes turn (words_due m.cellar) m.given m.between t own → NoLaneIsLost t
      by_comes _ (comes_at_once word f h gives at out) =
          handed word f h (same_Some f e (sym gives ∙ some)) (same_Some word (word_of hands.name) (sym at ∙ ap (λ (ws : List ℕ). slice_get ws 0) words))
          (subst (λ (x : TurnState). HandsOut turn word f x t h) at_home out)
      by_comes _ (all_wait first claimed) =
          let both : Some (word_of hands.name) ≡ None =
          sym ((λ i. lane_at_once (some i) (words i))) ∙ first in
          absurd (cc)

    command_made : NoLaneIsLost t
    command_made =
        by_leaves
        (command_leaves g law (asked_as (not is_free) (asked_of c)) turn.by s.cellar m.cellar a b m.given status m.stood k.settled m.made) where
          done : status ≡ 0 → Comes turn (words_due m.cellar) m.given m.between t is_own
          done zero = subst (λ (b : Bool). ComesIf b turn (words_due m.cellar) m.given m.between t is_own) (ap (λ (n : ℕ). n == 0) zero) m.comes

          by_sent : (sent : Option Sent) → m.given ≡ option_map effect_of sent → HandsIf turn.by s.cellar.engine m.cellar.engine sent →
              Comes turn (words_due m.cellar) m.given m.between t is_own → NoLaneIsLost t
          by_sent None none names comes = none_given none names comes
          by_sent (Some sent) some hands comes = one_given (effect_of sent) sent some refl hands comes

          by_leaves : Leaves turn.by s.cellar.engine m.cellar.engine m.given status → NoLaneIsLost t
          by_leaves (was_done zero gives) = by_sent gives.sent gives.crosses gives.came (done zero)
          by_leaves (was_refused undone nothing names) = refused undone names

  -- an item is handed out with its answer only where its turn has nothing else
  none_some : (o : Option Effect) → o ≡ None → IsSome o → ⊥
  none_some None none some = false≢true some
  none_some (Some e) none some = absurd (cc)

  free_given : (turn : Turn) (is_free : Bool) (c : Command) (s t : TurnState) (a b : Answer) (status : ℕ) (is_own : Bool) →
      (is_free ≡ true → in_hand s.agenda turn ≡ None) → (m : IsMadeBy g turn is_free c s t a b status is_own) → IsSome m.given →
      (in_hand s.agenda turn ≡ None) × (nat_lt c.what 2 ≡ false)
  free_given turn is_free c s t a b status is_own idle m some = (by_free is_free refl, by_what (nat_lt c.what 2) refl) where
    none_of : asks_item (asked_as (not is_free) (asked_of c)) ≡ false → ⊥
    none_of asks =
        none_some m.given (nothing_given g (asked_as (not is_free) (asked_of c)) turn.by s.cellar m.cellar a b m.given status asks m.made) some

    by_free : (f : Bool) → is_free ≡ f → in_hand s.agenda turn ≡ None
    by_free true is = idle is
    by_free false waits = absurd (none_of (ap (λ (x : Bool). asks_item (asked_as (not x) (asked_of c))) waits ∙ waits_asks (asked_of c)))

    by_what : (w : Bool) → nat_lt c.what 2 ≡ w → nat_lt c.what 2 ≡ false
    by_what false is = is
    by_what true is = absurd (none_of (no_item_opened (not is_free) c (ap (λ (x : Bool). x || c.what == 9) is)))

  made_in : (turn : Turn) (c : Command) (s t : TurnState) (a b : Answer) (status : ℕ) (is_own : Bool) → NoLaneIsLost s →
      MakesIn g turn c s t a b status is_own → NoLaneIsLost t
  made_in turn c s t a b status is_own k (is_made u _ _ admits there) =
      on_line (has_nothing s.agenda turn) status is_own (λ is. admits.loses.hands turn ∙ nothing_in_hand turn s is) there where
        given : NoLaneIsLost u
        given = alike_kept s u (room_alike s u admits.loses admits.only) k

        on_line : (is_free : Bool) (status : ℕ) (is_own : Bool) → (is_free ≡ true → in_hand u.agenda turn ≡ None) →
            MakesOnLine g turn is_free c u t a b status is_own → NoLaneIsLost t
        on_line is_free _ _ idle (makes_there v status is_own loses only by) =
            command_made turn is_free c v t a b status is_own (alike_kept u v (room_alike u v loses only) given) by
            (free_given turn is_free c v t a b status is_own (λ is. loses.hands turn ∙ idle is) by)
        on_line is_free _ _ idle (finds_no_room many opening full loses only none) = alike_kept u t (room_alike u t loses only) given
  made_in turn c s t a b _ _ k (is_made_bare u status full asks loses only by) =
      command_made turn true c u t a b status false (alike_kept s u (room_alike s u loses only) k) by
      (λ some. absurd (none_some by.given
      (nothing_given g (asked_as false (asked_of c)) turn.by u.cellar by.cellar a b by.given status (no_item c asks) by.made) some))
  made_in turn c s t a b _ _ k (finds_no_line full asks loses only none) = alike_kept s t (room_alike s t loses only) k

  made_any : (turn : Turn) (c : Option Command) (s t : TurnState) (a b : Answer) (status : ℕ) (is_own : Bool) → NoLaneIsLost s →
      MakesAny g turn c s t a b status is_own → NoLaneIsLost t
  made_any turn None s t a b status is_own k makes = subst NoLaneIsLost (sym makes.0) k
  made_any turn (Some c) s t a b status is_own k makes = made_in turn c s t a b status is_own k makes

  -- a new engine ---------------------------------------------------------------------------------------------

  begun : (limit : ℕ) (s : TurnState) → IsFresh limit s.cellar.engine → IsPromised s.cellar.engine → ((turn : Turn) → HasNothing s.agenda turn) →
      NoLaneIsLost s
  begun limit s new kept nothing = record {
    left = λ n is. absurd (none_found n is.0 is.1);
    served = λ n by is. absurd (none_found n is.0 is.1);
    settled = none_fresh (lanes s.cellar).fresh refl;
    placed = λ u p is. absurd (false≢true (sym (ap (is_in p) (nothing u).0) ∙ is));
    kinds = λ u h held. absurd (let both : None ≡ Some h = sym (nothing u).1 ∙ held in cc);
  } where
    none_at : (place : ℕ) → opened_at (lanes s.cellar) place ≡ None
    none_at place = ap (λ (ps : List (Option (Opened Sent))). slice_index_or ps place None) new.lanes

    none_found : (n : LaneName) (l : Lane Sent) → lane (lanes s.cellar) n ≡ Some l → ⊥
    none_found n l found = let both : None ≡ Some l = sym (ap (with_turn n.turn) (none_at n.place)) ∙ found in cc

    none_fresh : (xs : List ℕ) → (lanes s.cellar).fresh ≡ xs → xs ≡ []
    none_fresh [] is = refl
    none_fresh (x ∷ xs) is =
        let fresh : is_in x (lanes s.cellar).fresh ≡ true = ap (is_in x) is ∙ ap (λ (b : Bool). b || is_in x xs) (eq-eqb x x refl) in
        absurd (false≢true (subst (λ (o : Option (Opened Sent)). IsSome o) (none_at x) (kept.lanes.open_still x fresh)))

  -- nothing to do ----------------------------------------------------------------------------------------------

  over : (s : TurnState) → NoLaneIsLost s → NothingToDo s → (n : LaneName) (l : Lane Sent) → lane (lanes s.cellar) n ≡ Some l →
      (has_any l ≡ false) × (is_served l ≡ false)
  over s k none n l found = (by_any (has_any l) refl, free) where
    by_server : (o : Option ℕ) → l.server ≡ o → is_served l ≡ false
    by_server None is = ap (λ (o : Option ℕ). is_some o) is
    by_server (Some by) is =
        let x = k.served n by (l, found, is) in
        let both : None ≡ Some x.1 = sym (none.turns x.0).1 ∙ x.3 in
        absurd (cc)

    free : is_served l ≡ false
    free = by_server l.server refl

    waiting : StandsDue s.agenda n ⊎ IsAstray s.astray n → ⊥
    waiting (inl x) = false≢true (sym (ap (is_in n.place) (none.turns x.turn).0) ∙ x.due)
    waiting (inr x) = let both : None ≡ Some x.from = sym none.astray ∙ x.walks in cc

    by_any : (b : Bool) → has_any l ≡ b → has_any l ≡ false
    by_any false is = is
    by_any true is = absurd (waiting (k.left n (l, found, ap (λ (b : Bool). not b && has_any l) free ∙ is)))

  pub loses_no_lane : LosesNoLane g
  loses_no_lane = record {
    begins = begun;
    steps = λ turn ticket c s t a b step k steps.
        gone_on find turn t steps.made step.handed
        (made_any turn c steps.marked steps.made a b step.status step.is_own (noted_kept turn.by ticket s steps.marked steps.marks k) steps.makes)
        steps.goes_on;
    passes = λ turn ticket from now_is s t k passes.
        left_to find passes.left _ passes.free t
        (let_go find _ passes.marked passes.free passes.left (noted_kept turn.by ticket s passes.marked passes.marks k) passes.lets_go) passes.leaves;
    stops = λ turn ticket s t k stops.
        all_stopped find turn t stops.ended (ended find turn stops.marked stops.ended (noted_kept turn.by ticket s stops.marked stops.marks k) stops.ends)
        stops.deeper;
    ends = over;
  }
