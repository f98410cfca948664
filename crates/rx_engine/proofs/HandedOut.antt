-- What is handed out at once, where an item was emitted.
use Rattle.std.proofs.Common.{◌≡◌, ℕ, Bool, true, false, refl, Option, Some, None, Ok, pos, sym, ap, ◌∙◌, subst}
use Rattle.rx_resource.specs.declared.Resource.{Ghosts}
use Rattle.rx_resource.specs.declared.token.Token.{Token}
use Rattle.rx_slots.specs.declared.Key.{Key}
use Rattle.rx_book.specs.State.{State as BookState, IsPromised as IsBookPromised, is_kept}
use Rattle.rx_book.specs.Requests.{next_request}
use Rattle.rx_book.specs.Answers.{Accepts}
use Rattle.rx_event.specs.Tree.{is_open}
use Rattle.rx_lanes.specs.State.{State as LanesState}
use Rattle.rx_roles.specs.declared.effect.Effect.{Effect}
use Rattle.rx_roles.specs.Roles.{AreRolesOf}
use Rattle.rx_pool.specs.Ties.{IsPlain}
use Rattle.rx_pool.specs.Places.{AreShared}
use Rattle.rx_engine.specs.declared.parts.Parts.{Parts}
use Rattle.rx_engine.specs.Rooms.{IsReady, IsRoomier}
use Rattle.rx_engine.specs.Settlements.{Settles}
use Rattle.rx_engine.specs.Gatherings.{Gathers}
use Rattle.rx_engine.specs.Closings.{WishState, Closes}
use Rattle.rx_engine.specs.Handings.{is_item_last, handed_of, Hands, IsNextHanded}
use Rattle.rx_engine.specs.HandingSteps.{HandsOf, SpreadsAndHands}
use Rattle.rx_engine.specs.States.{State, IsTied, IsPromised, IsLanesOnly, hears_in, merges_in}
use Rattle.rx_engine.proofs.ItemsSaid.{settled_say, given_says}
use Rattle.rx_engine.proofs.SpreadOut.{settles_of}
use Rattle.rx_engine.proofs.LanesServed.{settles_roomier}

abbrev with_lanes : (s : State) → LanesState Effect → State
with_lanes s lanes = record s { parts = record s.parts { lanes = lanes } }

hands_of : (by : ℕ) (s t : State) (given : Option Effect) → HandsOf by s.parts.lanes t.parts.lanes given → IsLanesOnly s t → Hands by s t given
hands_of by s t None same only = only ∙ ap (with_lanes s) same
hands_of by s t (Some e) hands only = (
  hands.0,
  record {
    result = hands.1.result;
    takes = hands.1.takes;
    absent = hands.1.absent;
    gone = λ none. only ∙ ap (with_lanes s) (hands.1.gone none);
    same = only;
  },
)

-- the tie is kept, where nothing but lanes changed
pub handed_tied : (s : State) (q : Parts) → IsTied s → q ≡ record s.parts { lanes = q.lanes } → IsReady 0 q → IsTied (record s { parts = q })
handed_tied s q tied only ready = record {
  given = tied.given;
  none_waits = tied.none_waits;
  homes = subst (λ (x : Parts). AreRolesOf (is_open s.book.history) x.homes.list) (sym only) tied.homes;
  hears = subst (λ (x : Parts). AreRolesOf (hears_in s.book.history) x.hears.list) (sym only) tied.hears;
  merges = subst (λ (x : Parts). AreRolesOf (merges_in s.book.history) x.merges.list) (sym only) tied.merges;
  holds = subst (λ (x : Parts). AreRolesOf (is_kept s.book.history) x.holds.list) (sym only) tied.holds;
  shared = subst (λ (x : Parts). AreShared s.book.history x.shares.list x.shares.hubs) (sym only) tied.shared;
  ready = ready;
  wishes = tied.wishes;
}

-- what was made, and handed out
pub next_handed : (g : Ghosts Token) (leaf : Key) (by value : ℕ) (s : State) (p q r : Parts) (mid t : BookState) (ws : WishState) (given : Option Effect) →
    Accepts s.book (next_request s.book leaf (pos 0)) mid → IsRoomier s.parts p → Gathers g by value mid p t q → Closes mid s.wishes.roles.list ws →
    (hands : SpreadsAndHands by q r given) → is_item_last t ≡ true → IsBookPromised t → IsPlain q.shares.hubs →
    IsTied (record { book = t; parts = hands.between; wishes = ws }) → IsNextHanded g leaf by value s (record { book = t; parts = r; wishes = ws }) (Ok given)
unfolding settles_of settles_roomier
next_handed g leaf by value s p q r mid t ws given accepts more gathers closes hands last kept plain tied =
    let u : State = record { book = t; parts = hands.between; wishes = ws } in
    let exact = hands.exact ∙ sym (ap (λ (b : Bool). handed_of b q.effects.list q.lanes) last) in
    record {
      done = record {
        between = u;
        made = record {
          mid = mid;
          accepts = accepts;
          settles = settles_roomier g by value mid s.parts p t hands.between more (settles_of gathers hands.spreads);
          closes = closes;
        };
        promised = record {
          book = kept;
          lanes = hands.promised;
          hubs = subst (λ (x : Parts). IsPlain x.shares.hubs) (sym hands.spreads.only) plain;
          tied = tied;
        };
        exact = exact;
        item = given_says by value q.effects.list q.lanes (is_item_last t) given (settled_say by value (settles_of gathers hands.spreads)) exact;
        hands = hands_of by u (record { book = t; parts = r; wishes = ws }) given hands.hands
            (ap (λ (x : Parts). record { book = t; parts = x; wishes = ws }) hands.only);
      };
      refused = tt;
      kept = tt;
    }

-- what was made beside other events, of which nothing is handed out
pub next_settled : (g : Ghosts Token) (leaf : Key) (by value : ℕ) (s : State) (p : Parts) (mid : BookState) (t : State) →
    Accepts s.book (next_request s.book leaf (pos 0)) mid → IsRoomier s.parts p → Settles g by value mid p t.book t.parts →
    Closes mid s.wishes.roles.list t.wishes → is_item_last t.book ≡ false → IsPromised t → IsNextHanded g leaf by value s t (Ok None)
unfolding settles_roomier
next_settled g leaf by value s p mid t accepts more settles closes other promised =
    record {
      done = record {
        between = t;
        made = record { mid = mid; accepts = accepts; settles = settles_roomier g by value mid s.parts p t.book t.parts more settles; closes = closes };
        promised = promised;
        exact = sym (ap (λ (b : Bool). handed_of b settles.effects settles.left) other);
        item = tt;
        hands = refl;
      };
      refused = tt;
      kept = tt;
    }
