-- What an engine promises holds behind an opening of a node that holds a tag from then on.
use Rattle.std.proofs.Common.{◌≡◌, ℕ, ◌<◌, ◌≤◌, ◌⊎◌, inl, inr, ◌&&◌, not, nat_lt, Bool, true, false, List, [], length, refl, sym, ap, ◌∙◌, arith, subst, length-append}
use Rattle.std.proofs.lemmas.Bool.{false≢true, cases_lt, le-ltb}
use Rattle.std.proofs.lemmas.Option.{slice_get_past}
use Rattle.rx_resource.specs.contracts.token.TokenResource.TheImpl.{ghosts}
use Rattle.rx_event.specs.declared.event.Event.{Event}
use Rattle.rx_event.specs.declared.event.Event.TheVariants.{Open}
use Rattle.rx_event.specs.declared.event.Kind.{Kind}
use Rattle.rx_event.specs.declared.mail.Mail.{Mail}
use Rattle.rx_event.specs.Events.{is_root, is_merging}
use Rattle.rx_event.specs.Notes.{notes}
use Rattle.rx_event.specs.Gone.{goes, has_gone, AreJust}
use Rattle.rx_event.proofs.Laws.Common.{Kept, at, is_open, makes_node, option_map_or, IsLawful, IsSettled}
use Rattle.rx_slots.specs.declared.Key.{Key}
use Rattle.rx_book.specs.declared.answer.At.{At}
use Rattle.rx_book.specs.State.{State as BookState, IsPromised as IsBookPromised, is_kept}
use Rattle.rx_book.specs.Requests.{open_request, place_of}
use Rattle.rx_book.specs.Answers.{Accepts}
use Rattle.rx_lanes.specs.declared.names.LaneName.{LaneName}
use Rattle.rx_pool.specs.Moves.{MayLeaveAll}
use Rattle.rx_roles.specs.declared.roles.Role.{Role}
use Rattle.rx_roles.specs.Roles.{without_all, AreRolesOf}
use Rattle.rx_roles.specs.Effects.{after_all, items_in}
use Rattle.rx_roles.proofs.Laws.RolesTaken.{roles_same}
use Rattle.rx_pool.specs.Places.{places_left}
use Rattle.rx_roles.proofs.Laws.JustThose.{just_among}
use Rattle.rx_roles.proofs.Laws.NodesAfterStep.{StepMakes, same_sort as still_sort}
use Rattle.rx_roles.proofs.Laws.NodesMade.{made_silent, step_makes}
use Rattle.rx_engine.specs.declared.parts.Parts.{Parts}
use Rattle.rx_engine.specs.declared.parts.User.{User}
use Rattle.rx_engine.specs.declared.homes.Home.{Home}
use Rattle.rx_engine.specs.States.{State, IsTied, hears_in, merges_in}
use Rattle.rx_engine.specs.Rooms.{IsReady, HasRoomFor, IsRoomier}
use Rattle.rx_engine.specs.Settlements.{mail_left, closed_of, Settles}
use Rattle.rx_engine.specs.Openings.{connects_none, Enters}
use Rattle.rx_engine.specs.Holdings.{held_request, Keeps}
use Rattle.rx_engine.specs.Closings.{with_wish, Closes}
use Rattle.rx_engine.proofs.LanesGiven.{enters_from}
use Rattle.rx_engine.proofs.RoomGotten.{ready_with, ready_entered, ready_kept}
use Rattle.rx_engine.proofs.TiedAfterCall.{LeavesOpen, same_sort, shared_on, tied_settled}
use Rattle.rx_engine.proofs.TiedAfterOpening.{IsOpening, is_opening, names_none, making, table_mid, homes_mid, holds_mid, wishes_mid, shared_mid, leave_mid, shared_as, leave_as}
use Rattle.rx_engine.proofs.TiedAfterHolding.{IsHolding, leaves, none_left}
use Rattle.rx_engine.proofs.TiedAfterHolding as held
use Rattle.rx_engine.proofs.WishesKept.{wishes_same}

-- the book opened a node, and then held a resource there; and what the call closed
pub record IsUsing (s : BookState) (place : At) (kind : Kind) (node : Key) (tag : ℕ) (middle mid : BookState) : Type 0 where
  pub promised : IsBookPromised s
  pub alone : connects_none kind ≡ true
  pub opens : Accepts s (open_request s place kind) middle
  pub holds : Accepts middle (held_request ghosts middle node tag) (record mid { closed = [] })
  pub gone : AreJust (goes s.history mid.history) (closed_of mid)

-- where no node was made those that were are
made_still : {h k : List Event} → StepMakes h k [] → (n : ℕ) → at makes_node k n ≡ at makes_node h n
made_still {h} {k} s n = by_place (cases_lt n (length h)) where
  none_new : (a b : Bool) → b ≡ false → (a && not b) ≡ false → a ≡ false
  none_new true true is none = absurd (false≢true (sym is))
  none_new true false is none = absurd (false≢true (sym none))
  none_new false b is none = refl

  by_place : (n < length h) ⊎ (length h ≤ n) → at makes_node k n ≡ at makes_node h n
  by_place (inl l) = still_sort s.grown makes_node n l
  by_place (inr past) = none_new (at makes_node k n) (nat_lt n (length h)) (le-ltb n (length h) past) (sym (just_among s.makes n)) ∙
      sym (ap (λ o. option_map_or makes_node o false) (slice_get_past h n past))

module _ {s middle mid : BookState} {place : At} {kind : Kind} {node : Key} {tag : ℕ} (c : IsUsing s place kind node tag middle mid) where
  pub holding : IsHolding middle node tag (record mid { closed = [] })
  holding = record {
    lawful = subst (λ (b : Kept). IsLawful b middle.history) (sym c.opens.base) c.opens.step.lawful;
    settled = subst (λ (b : Kept). IsSettled b middle.history) (sym c.opens.base) c.opens.step.settled;
    accepts = c.holds;
  }

  pub stays : LeavesOpen middle mid
  stays = let l = leaves holding in record { given = l.given; notes_same = l.notes_same; opens = l.opens; sorts = l.sorts; made = l.made }

  -- the holding closed none
  pub gone_first : (n : ℕ) → goes s.history mid.history n ≡ goes s.history middle.history n
  gone_first n = (λ i. (made_still stays.made n i && not (stays.opens n i)) && not (has_gone s.history n))

  pub opening : IsOpening s place kind middle (closed_of mid)
  opening = is_opening s place kind middle (closed_of mid) c.promised c.opens (subst (λ (test : ℕ → Bool). AreJust test (closed_of mid)) (λ i n. gone_first n i) c.gone)

  pub longer : length s.history ≤ length middle.history
  longer =
      let grown = (step_makes (making opening)).grown in
      let l = ap (length {A = Event}) grown.grows ∙ length-append s.history grown.events in
      omega (arith, l)

  all_given : s.given ≡ length (notes s.history) → middle.given ≡ length (notes middle.history)
  all_given all = c.opens.given ∙ all ∙ ap (length {A = Mail}) (sym (made_silent (making opening)))

  pub none_told : s.given ≡ length (notes s.history) → mail_left mid ≡ []
  none_told all = none_left holding (all_given all)

pub tied_used : (s t : State) (place : At) (kind : Kind) (user : User) (home : Home) (node : Key) (tag : ℕ) (name : LaneName) (middle mid : BookState)
    (entered with_tag : Parts) (by : ℕ) → IsTied s →
    IsUsing s.book place kind node tag middle mid →
    Enters s.parts (length s.book.history) (is_root (Open (place_of place) kind)) (is_merging (Open (place_of place) kind)) user.word home name entered →
    Keeps entered (length middle.history) tag name with_tag → Settles ghosts by 0 mid with_tag t.book t.parts →
    Closes mid (with_wish s.wishes.roles.list (length s.book.history) user) t.wishes → IsReady 0 t.parts → IsTied t
tied_used s t place kind user home node tag name middle mid entered with_tag by tied c enters keeps settles closes ready =
    let o = opening c in
    let l = stays c in
    tied_settled ghosts mid with_tag (with_wish s.wishes.roles.list (length s.book.history) user) t by 0
    (record {
      homes = subst (λ (rs : List Role). AreRolesOf (is_open mid.history) (without_all rs (closed_of mid))) (sym (keeps.homes ∙ enters.homes_is))
          (roles_same (homes_mid o (names_none place kind c.alone) s.parts.homes.list _ refl tied.homes) (λ n. sym (l.opens n)));
      hears = subst (λ (rs : List Role). AreRolesOf (hears_in mid.history) (without_all rs (closed_of mid)))
          (sym ((λ i. after_all with_tag.hears.list (none_told c tied.given i)) ∙ keeps.hears ∙ enters.hears_is.list))
          (roles_same (table_mid o is_root (λ g. refl) s.parts.hears.list _ refl tied.hears) (same_sort l is_root));
      merges = subst (λ (rs : List Role). AreRolesOf (merges_in mid.history) (without_all rs (closed_of mid))) (sym (keeps.merges ∙ enters.merges_is.list))
          (roles_same (table_mid o is_merging (λ g. refl) s.parts.merges.list _ refl tied.merges) (same_sort l is_merging));
      holds = subst (AreRolesOf (is_kept mid.history)) (sym keeps.holds_is)
          (held.holds_mid (holding c) entered.holds.list name (subst (AreRolesOf (is_kept middle.history)) (sym enters.holds) (holds_mid o tied.holds)));
      shared = shared_as (closed_of mid) s.parts with_tag (keeps.shares ∙ enters.shares) (keeps.hubs ∙ enters.hubs) (shared_on l (shared_mid o (names_none place kind c.alone) tied.shared));
      wishes = wishes_same (wishes_mid o user tied.wishes) (λ n was. l.opens n ∙ was);
    }) settles closes ready

-- one command: the state, the parts with room, with the roles of the node, with the tag's too, and the book behind the opening and the holding
pub record IsUsed (s : State) (place : At) (kind : Kind) (word : ℕ) (home : Home) (node : Key) (tag : ℕ) (name : LaneName) (p q r : Parts) (res : ℕ)
    (middle mid : BookState) : Type 0 where
  pub tied : IsTied s
  pub uses : IsUsing s.book place kind node tag middle mid
  pub roomier : IsRoomier s.parts p
  pub room : HasRoomFor 3 p
  pub number_is : node.number ≡ length s.book.history
  pub enters : Enters p node.number (is_root (Open (place_of place) kind)) (is_merging (Open (place_of place) kind)) word home name q
  pub entered : q.effects ≡ p.effects
  pub entered_spare : q.lanes.spare ≡ p.lanes.spare
  pub res_is : res ≡ length middle.history
  pub keeps : Keeps q res tag name r
  pub kept : r.effects ≡ q.effects
  pub kept_spare : r.lanes.spare ≡ q.lanes.spare

module _ {s : State} {place : At} {kind : Kind} {word : ℕ} {home : Home} {node : Key} {tag : ℕ} {name : LaneName} {p q r : Parts} {res : ℕ}
    {middle mid : BookState}
    (c : IsUsed s place kind word home node tag name p q r res middle mid) where
  ready_between : IsReady 1 q
  ready_between = ready_entered 3 1 refl p q node.number _ _ word home name (ready_with 3 s.parts p c.tied.ready c.roomier c.room) c.enters c.entered
      c.entered_spare

  pub ready_used : IsReady (items_in (mail_left mid)) r
  ready_used = subst (λ (n : ℕ). IsReady n r) (sym (ap items_in (none_told c.uses c.tied.given)))
      (ready_kept 1 0 refl q r res tag name ready_between c.keeps c.kept c.kept_spare)

  pub used_enters : Enters s.parts (length s.book.history) (is_root (Open (place_of place) kind)) (is_merging (Open (place_of place) kind)) word home name q
  used_enters = enters_from s.parts p q (length s.book.history) node.number _ _ word home name c.roomier c.number_is c.enters

  pub used_keeps : Keeps q (length middle.history) tag name r
  used_keeps = subst (λ (n : ℕ). Keeps q n tag name r) c.res_is c.keeps

  pub leave_used : MayLeaveAll (places_left r.shares.list (closed_of mid)) r.shares.hubs
  leave_used = leave_as (closed_of mid) s.parts r (used_keeps.shares ∙ used_enters.shares) (used_keeps.hubs ∙ used_enters.hubs) (leave_mid (opening c.uses) (names_none place kind c.uses.alone) c.tied.shared)
