-- What an engine promises holds behind a call by one event that makes no node.
use Rattle.std.proofs.Common.{◌≡◌, ℕ, ◌<◌, ◌≤◌, ◌==◌, ◌&&◌, ◌⊎◌, inl, inr, nat_lt, not, Bool, true, false, cond, List, [], ◌∷◌, ◌++◌, length, Some, refl, sym, ap, ◌∙◌, arith, subst}
use Rattle.std.proofs.lemmas.Bool.{false≢true, cases_lt, le-ltb}
use Rattle.std.proofs.lemmas.List.{append-nil}
use Rattle.rx_resource.specs.declared.Resource.{Ghosts}
use Rattle.rx_resource.specs.declared.token.Token.{Token}
use Rattle.rx_event.specs.declared.event.Event.{Event}
use Rattle.rx_event.specs.declared.event.Event.TheVariants.{Take}
use Rattle.rx_event.specs.declared.mail.Mail.{Mail}
use Rattle.rx_event.proofs.Laws.Common.{at, is_open, notes, makes_node, is_root, is_merging, IsForcedOn}
use Rattle.rx_event.proofs.Laws.Counts.{notes-push}
use Rattle.rx_event.proofs.Laws.Places.{at-append}
use Rattle.rx_event.proofs.Laws.Openness.{is_open_within}
use Rattle.rx_book.specs.State.{State as BookState, IsPromised as IsBookPromised, is_kept}
use Rattle.rx_book.specs.Requests.{Request}
use Rattle.rx_book.specs.Answers.{AnswersHanded}
use Rattle.rx_book.proofs.Laws.LastsThroughSteps.{kept_same, kept_taken}
use Rattle.rx_roles.specs.declared.roles.Role.{Role}
use Rattle.rx_roles.specs.declared.effect.Effect.{Effect}
use Rattle.rx_roles.specs.Roles.{without_all, AreRolesOf}
use Rattle.rx_engine.specs.declared.parts.Parts.{Parts}
use Rattle.rx_roles.specs.Effects.{after_all, ends_of}
use Rattle.rx_roles.proofs.Laws.RolesTaken.{roles_same, roles_taken, roles_taken_all, after_all_ends, without_all-append}
use Rattle.rx_roles.proofs.Laws.NodesAfterStep.{first_follows, taken_forces_none, open_past_taking, StepMakes, is_new, is_new_none, makes_none_more, grows_on, same_sort as node_still, open_node}
use Rattle.rx_event.specs.Gone.{goes}
use Rattle.rx_roles.proofs.Laws.NodesGone.{goes_is as node_goes}
use Rattle.rx_roles.proofs.Laws.JustThose.{just_none, just_among}
use Rattle.rx_pool.specs.declared.search.PooledHub.{PooledHub}
use Rattle.rx_pool.specs.Moves.{left_all}
use Rattle.rx_pool.specs.Places.{places_left, AreShared}
use Rattle.rx_pool.proofs.Laws.SharesAfterStep.{IsShareStep, shares_plain, shared_after}
use Rattle.rx_roles.proofs.Laws.NotesOfStep.{of_sort}
use Rattle.rx_roles.proofs.Laws.RolesAfterStep.{AreClosed, are_closed, hears_after, merges_after}
use Rattle.rx_engine.specs.States.{State, IsTied, hears_in, merges_in}
use Rattle.rx_engine.specs.Closings.{AreWishes, Closes}
use Rattle.rx_engine.proofs.Laws.PlainCalls.{IsPlainCall, tells, left_is}
use Rattle.rx_engine.proofs.WishesKept.{wishes_same, wishes_closed}
use Rattle.rx_engine.specs.Rooms.{IsReady, IsRoomier}
use Rattle.rx_engine.specs.Settlements.{mail_left, all_given, closed_of, effects_told, Releases, none_released, one_released, Settles}

pub node_after : (p : Event → Bool) (h events : List Event) (n : ℕ) → is_open h n ≡ true → at p (h ++ events) n ≡ at p h n
node_after p h events n o = at-append p h events n (is_open_within h n o)

-- one call -------------------------------------------------------------------------------------------

-- who is open is a node
pub node_sort : (h : List Event) (n : ℕ) → of_sort makes_node h n ≡ is_open h n
node_sort h n = by_open (is_open h n) refl where
  by_open : (b : Bool) → is_open h n ≡ b → (b && at makes_node h n) ≡ b
  by_open true o = open_node h n o
  by_open false o = refl

module _ {s mid : BookState} {asked : Request} {e : Event} (c : IsPlainCall s asked e mid) where
  closings : AreClosed s.history mid.history (closed_of mid)
  closings = are_closed (tells c).makes c.accepts.closed

  pub hears_mid : {hears : List Role} → s.given ≡ length (notes s.history) → AreRolesOf (hears_in s.history) hears →
      AreRolesOf (hears_in mid.history) (without_all (after_all hears (mail_left mid)) (closed_of mid))
  hears_mid {hears} all roles =
      let ended : List ℕ = ends_of (tells c).rest in
      let list : without_all (after_all hears (mail_left mid)) (closed_of mid) ≡ without_all hears (ended ++ closed_of mid) =
      ap (λ (ms : List Mail). without_all (after_all hears ms) (closed_of mid)) (left_is c all)
      ∙ ap (λ (rs : List Role). without_all rs (closed_of mid)) (after_all_ends hears (tells c).rest)
      ∙ sym (without_all-append hears ended (closed_of mid)) in
      subst (AreRolesOf (hears_in mid.history)) (sym list)
      (roles_same (roles_taken_all (ended ++ closed_of mid) roles) (hears_after (tells c) closings is_root))

  pub homes_mid : {homes : List Role} → AreRolesOf (is_open s.history) homes → AreRolesOf (is_open mid.history) (without_all homes (closed_of mid))
  homes_mid roles = roles_same
      (roles_same (roles_taken_all (closed_of mid) (roles_same roles (λ n. sym (node_sort s.history n)))) (merges_after (tells c) closings makes_node))
      (node_sort mid.history)

  pub merges_mid : {merges : List Role} → AreRolesOf (merges_in s.history) merges → AreRolesOf (merges_in mid.history) (without_all merges (closed_of mid))
  merges_mid roles = roles_same (roles_taken_all (closed_of mid) roles) (merges_after (tells c) closings is_merging)

  pub wishes_mid : {wishes : List Role} → AreWishes s.history wishes → AreWishes mid.history (without_all wishes (closed_of mid))
  wishes_mid wishes = wishes_closed closings wishes

  pub shared_mid : {list : List Role} {hubs : List PooledHub} → AreShared s.history list hubs → IsShareStep s.history mid.history [] (closed_of mid) list hubs
  shared_mid shared = shares_plain (tells c).makes c.accepts.closed shared

  pub holds_mid : {holds : List Role} → AreRolesOf (is_kept s.history) holds → AreRolesOf (is_kept mid.history) holds
  holds_mid roles = roles_same roles (λ r. sym (kept_same asked.call c.accepts.step c.keeps r))

-- releases -------------------------------------------------------------------------------------------

-- a taking changes nothing but what is kept
pub record LeavesOpen (s t : BookState) : Type 0 where
  pub given : t.given ≡ s.given
  pub notes_same : notes t.history ≡ notes s.history
  pub opens : (n : ℕ) → is_open t.history n ≡ is_open s.history n
  pub sorts : (p : Event → Bool) (n : ℕ) → is_open s.history n ≡ true → at p t.history n ≡ at p s.history n
  pub made : StepMakes s.history t.history []

pub none_made : (h : List Event) → StepMakes h h []
none_made h = record { grown = record { events = []; grows = sym (append-nil h) }; makes = just_none (is_new_none h); opens = λ n is. absurd (false≢true is) }

-- one after another
none_past : (a b c : Bool) → b ≡ false → (a && not b) ≡ false → (a && not c) ≡ false
none_past true true c is none = absurd (false≢true (sym is))
none_past true false c is none = absurd (false≢true (sym none))
none_past false b c is none = refl

made_none_on : {h j k : List Event} → StepMakes h j [] → StepMakes j k [] → StepMakes h k []
made_none_on {h} {j} {k} first then = record { grown = grows_on first.grown then.grown; makes = just_none none; opens = λ n is. absurd (false≢true is) } where
  none : (n : ℕ) → is_new h k n ≡ false
  none n = by_place (cases_lt n (length j)) where
    by_place : (n < length j) ⊎ (length j ≤ n) → is_new h k n ≡ false
    by_place (inl l) = ap (λ (a : Bool). a && not (nat_lt n (length h))) (node_still then.grown makes_node n l) ∙ sym (just_among first.makes n)
    by_place (inr past) = none_past (at makes_node k n) (nat_lt n (length j)) (nat_lt n (length h)) (le-ltb n (length j) past) (sym (just_among then.makes n))

taking_leaves : (g : Ghosts Token) (s t : BookState) (number : ℕ) (token : Token) → IsBookPromised s → AnswersHanded g s t (Some (number, token)) →
    LeavesOpen s t
taking_leaves g s t number token kept says =
    let steps : IsForcedOn s.base (s.history ++ Take number ∷ []) t.history = says.accepted.step.forced in
    let next = first_follows s.base s.history (Take number) t.history kept.lawful says.accepted.step.lawful steps in
    let grown = taken_forces_none s.base s.history number t.history kept.lawful kept.settled next steps in
    record {
      given = says.accepted.given;
      notes_same = ap notes grown ∙ notes-push s.history (Take number) ∙ append-nil (notes s.history);
      opens = open_past_taking s.base s.history number t.history kept.lawful kept.settled next steps;
      sorts = λ p n o. ap (λ (x : List Event). at p x n) grown ∙ node_after p s.history (Take number ∷ []) n o;
      made = subst (λ (x : List Event). StepMakes s.history x []) (sym grown) (makes_none_more (Take number) (omega arith) refl (none_made s.history));
    }

cond_not : (b c : Bool) → (c && not b) ≡ cond b false c
cond_not true true = refl
cond_not true false = refl
cond_not false true = refl
cond_not false false = refl

pub record Freed (s t : BookState) (holds : List Role) : Type 0 where
  pub leaves : LeavesOpen s t
  pub roles : AreRolesOf (is_kept t.history) holds

pub freed : (g : Ghosts Token) (by : ℕ) (s : BookState) (holds : List Role) (effects : List Effect) (t : BookState) (holds' : List Role)
    (effects' : List Effect) → AreRolesOf (is_kept s.history) holds →
    Releases g by s holds effects t holds' effects' → Freed s t holds'
freed g by s holds effects t holds' effects' roles none_released =
    record { leaves = record { given = refl; notes_same = refl; opens = λ n. refl; sorts = λ p n o. refl; made = none_made s.history }; roles = roles }
freed g by s holds effects t holds' effects' roles (one_released {t = m} {holds' = held} {effects' = es} {number = number} {token = token} before kept says) =
    let f = freed g by s holds effects m held es roles before in
    let one = taking_leaves g m t number token kept says in
    record {
      leaves = record {
        given = one.given ∙ f.leaves.given;
        notes_same = one.notes_same ∙ f.leaves.notes_same;
        opens = λ n. one.opens n ∙ f.leaves.opens n;
        sorts = λ p n o. one.sorts p n (f.leaves.opens n ∙ o) ∙ f.leaves.sorts p n o;
        made = made_none_on f.leaves.made one.made;
      };
      roles = roles_same (roles_taken number f.roles) (λ r. cond_not (number == r) (is_kept m.history r) ∙ sym (kept_taken says.accepted.step r));
    }

pub same_sort : {s t : BookState} (leaves : LeavesOpen s t) (p : Event → Bool) (n : ℕ) →
    (is_open s.history n && at p s.history n) ≡ (is_open t.history n && at p t.history n)
same_sort {s} {t} leaves p n = by_open (is_open s.history n) refl where
  by_open : (b : Bool) → is_open s.history n ≡ b → (b && at p s.history n) ≡ (is_open t.history n && at p t.history n)
  by_open true o = sym (rw (leaves.opens n, o) (leaves.sorts p n o))
  by_open false o = sym (rw (leaves.opens n, o) refl)

-- shares ---------------------------------------------------------------------------------------------

-- where all stay open that were, who names a hub does so still
pub shared_on : {s t : BookState} {list : List Role} {hubs : List PooledHub} → LeavesOpen s t → AreShared s.history list hubs → AreShared t.history list hubs
shared_on {s} {t} leaves shared = shared_after (shares_plain leaves.made (just_none none) shared) 0 where
  both : (b : Bool) → (b && not b) ≡ false
  both true = refl
  both false = refl

  none : (n : ℕ) → goes s.history t.history n ≡ false
  none n = node_goes leaves.made n ∙ ap (λ (b : Bool). is_open s.history n && not b) (leaves.opens n) ∙ both (is_open s.history n)

-- settled
pub shared_settled : {g : Ghosts Token} {by value : ℕ} {mid : BookState} {p : Parts} {t : BookState} {q : Parts} → Settles g by value mid p t q → LeavesOpen (all_given mid) t →
    AreShared mid.history (without_all p.shares.list (closed_of mid)) (left_all (places_left p.shares.list (closed_of mid)) p.shares.hubs) →
    AreShared t.history q.shares.list q.shares.hubs
shared_settled {mid = mid} {p = p} {t = t} {q = q} settles leaves shared =
    subst (λ (rs : List Role). AreShared t.history rs q.shares.hubs) (sym settles.shares)
    (subst (λ (hs : List PooledHub). AreShared t.history (without_all p.shares.list (closed_of mid)) hs) (sym settles.hubs) (shared_on leaves shared))

-- the whole ------------------------------------------------------------------------------------------

-- behind a call that entered these parts and wishes, all is right but for what it told, closed and set free
pub record IsBehind (mid : BookState) (p : Parts) (ws : List Role) : Type 0 where
  pub homes : AreRolesOf (is_open mid.history) (without_all p.homes.list (closed_of mid))
  pub hears : AreRolesOf (hears_in mid.history) (without_all (after_all p.hears.list (mail_left mid)) (closed_of mid))
  pub merges : AreRolesOf (merges_in mid.history) (without_all p.merges.list (closed_of mid))
  pub holds : AreRolesOf (is_kept mid.history) p.holds.list
  pub shared : AreShared mid.history (without_all p.shares.list (closed_of mid)) (left_all (places_left p.shares.list (closed_of mid)) p.shares.hubs)
  pub wishes : AreWishes mid.history (without_all ws (closed_of mid))

-- and settled it is tied
pub tied_settled : (g : Ghosts Token) (mid : BookState) (p : Parts) (ws : List Role) (t : State) (by value : ℕ) → IsBehind mid p ws → Settles g by value mid p t.book t.parts →
    Closes mid ws t.wishes → IsReady 0 t.parts → IsTied t
tied_settled g mid p ws t by value behind settles closes ready =
    let f = freed g by (all_given mid) p.holds.list (effects_told by value mid p) t.book t.parts.holds.list settles.effects behind.holds settles.releases in
    record {
      given = f.leaves.given ∙ ap (length {A = Mail}) (sym f.leaves.notes_same);
      none_waits = settles.none_waits;
      homes = subst (AreRolesOf (is_open t.book.history)) (sym settles.homes) (roles_same behind.homes (λ n. sym (f.leaves.opens n)));
      hears = subst (AreRolesOf (hears_in t.book.history)) (sym settles.hears) (roles_same behind.hears (same_sort f.leaves is_root));
      merges = subst (AreRolesOf (merges_in t.book.history)) (sym settles.merges) (roles_same behind.merges (same_sort f.leaves is_merging));
      holds = f.roles;
      shared = shared_settled settles f.leaves behind.shared;
      ready = ready;
      wishes = subst (AreWishes t.book.history) (sym closes.roles_are) (wishes_same behind.wishes (λ n o. f.leaves.opens n ∙ o));
    }

pub tied_after : (g : Ghosts Token) (s t : State) (asked : Request) (e : Event) (mid : BookState) (by value : ℕ) → IsTied s → IsPlainCall s.book asked e mid →
    Settles g by value mid s.parts t.book t.parts → Closes mid s.wishes.roles.list t.wishes → IsReady 0 t.parts → IsTied t
tied_after g s t asked e mid by value tied call settles closes ready =
    tied_settled g mid s.parts s.wishes.roles.list t by value
    (record {
      homes = homes_mid call tied.homes;
      hears = hears_mid call tied.given tied.hears;
      merges = merges_mid call tied.merges;
      holds = holds_mid call tied.holds;
      shared = shared_after (shared_mid call tied.shared) 0;
      wishes = wishes_mid call tied.wishes;
    }) settles closes ready

-- more room
pub tied_roomier : (s : State) (p : Parts) → IsTied s → IsRoomier s.parts p → IsReady 0 p → IsTied (record s { parts = p })
tied_roomier s p tied roomier ready = record {
  given = tied.given;
  none_waits = tied.none_waits;
  homes = subst (AreRolesOf (is_open s.book.history)) (sym roomier.homes) tied.homes;
  hears = subst (AreRolesOf (hears_in s.book.history)) (sym roomier.hears) tied.hears;
  merges = subst (AreRolesOf (merges_in s.book.history)) (sym roomier.merges) tied.merges;
  holds = subst (AreRolesOf (is_kept s.book.history)) (sym roomier.holds) tied.holds;
  shared = subst (λ (rs : List Role). AreShared s.book.history rs p.shares.hubs) (sym roomier.shares)
      (subst (λ (hs : List PooledHub). AreShared s.book.history s.parts.shares.list hs) (sym roomier.hubs) tied.shared);
  ready = ready;
  wishes = tied.wishes;
}
