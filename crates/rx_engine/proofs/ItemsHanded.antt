-- One note: its item is handed out, or what it comes to is put into its lane.
use Rattle.std.proofs.Common.{◌≡◌, ℕ, ◌+◌, ◌-◌, ◌<◌, ◌≤◌, ◌&&◌, Bool, true, false, List, [], ◌∷◌, ◌++◌, length, Option}
use Rattle.std.proofs.Common.{Some, None, is_some, option_map, Ok, slice_get, refl, sym, ap, ◌∙◌, arith, if◌then◌else◌}
use Rattle.rx_event.specs.declared.mail.Mail.{Mail}
use Rattle.rx_event.specs.Notes.{notes}
use Rattle.rx_book.specs.State.{State as BookState}
use Rattle.rx_lanes.specs.Lane.{Lane, is_empty, is_idle}
use Rattle.rx_lanes.specs.State.{State as LanesState, lane, IsPromised as AreLanesPromised}
use Rattle.rx_lanes.specs.Handings.{ClaimsAlone}
use Rattle.rx_roles.specs.declared.roles.Role.{Role}
use Rattle.rx_roles.specs.declared.effect.Effect.{Effect}
use Rattle.rx_roles.specs.declared.effect.What.{What}
use Rattle.rx_roles.specs.Roles.{without}
use Rattle.rx_roles.specs.Effects.{effect_for, effects_for, what_told, role_of_item, all_told, items_in, only_item, AllListened}
use Rattle.rx_engine.specs.declared.parts.Parts.{Parts}
use Rattle.rx_engine.specs.Rooms.{IsReady}
use Rattle.rx_engine.specs.Settlements.{all_given}
use Rattle.rx_engine.specs.Gatherings.{Spreads, IsLoaded}
use Rattle.rx_engine.specs.Handings.{item_at_once}
use Rattle.rx_engine.specs.HandingSteps.{ClaimsOnly, HasTold, TellsAndSpreads, TellsAndHands}
use Rattle.rx_engine.proofs.MailLeft.{get_past, get_within}
use Rattle.rx_engine.proofs.NotesTold.{tells_none, told_loaded, item_of_note, IsItemOf, is_item_of, none_of_many}
use Rattle.rx_engine.proofs.SpreadOut.{only_found, none_alone, one_alone, claimed_ready, claims_hand, spread_beside}

-- what is on its way, where nothing was before
told_is : {by value : ℕ} {ms : List Mail} {p q : Parts} → p.effects.list ≡ [] → HasTold by value ms p q →
    q.effects.list ≡ all_told by value p.hears.list p.merges.list ms
told_is {by} {value} {ms} {p} empty tells = tells.effects ∙ ap (λ (es : List Effect). es ++ all_told by value p.hears.list p.merges.list ms) empty

told_lanes : {by value : ℕ} {ms : List Mail} {p q : Parts} → HasTold by value ms p q → q.lanes ≡ p.lanes
told_lanes tells = ap (λ (x : Parts). x.lanes) tells.only

-- of which nothing is handed out, where it has no item alone
handed_none : {by value : ℕ} {ms : List Mail} {p q : Parts} (s : TellsAndSpreads by value ms p q) →
    is_some (item_at_once s.told.effects.list s.told.lanes) ≡ false → TellsAndHands by value ms p q (Ok None)
handed_none s none =
    record { told = s.told; tells = s.tells; given = None; answers = refl; hands = spread_beside none s.spreads s.ready s.promised }

item_is : {by value : ℕ} {m : Mail} {p q : Parts} → p.effects.list ≡ [] → HasTold by value (m ∷ []) p q →
    only_item q.effects.list ≡ option_map (effect_for by value (what_told m.note)) (role_of_item p.hears.list p.merges.list m)
item_is {by} {value} {m} {p} empty tells = ap only_item (told_is empty tells) ∙ item_of_note by value p.hears.list p.merges.list m

-- nobody has the role, or it is an end
pub handed_nobody : {by value : ℕ} {m : Mail} {p q : Parts} → p.effects.list ≡ [] → role_of_item p.hears.list p.merges.list m ≡ None →
    TellsAndSpreads by value (m ∷ []) p q → TellsAndHands by value (m ∷ []) p q (Ok None)
handed_nobody {by} {value} {m} empty nobody s =
    let none = item_is empty s.tells ∙ ap (option_map (effect_for by value (what_told m.note))) nobody in
    handed_none s (sym (none_alone s.told.effects.list s.told.lanes (ap (λ (o : Option Effect). is_some o) none)))

module _ (by value : ℕ) (m : Mail) {p : Parts} (ready : IsReady (items_in (m ∷ [])) p) {r : Role}
    (is : role_of_item p.hears.list p.merges.list m ≡ Some r) where
  -- what is handed out
  abbrev pub handed : Effect
  handed = record { lane = r.lane; user = r.word; value = value; by = by; what = what_told m.note }

  of : IsItemOf p.hears.list p.merges.list m r
  of = is_item_of p.hears.list p.merges.list m r is

  handed_is : effect_for by value (what_told m.note) r ≡ handed
  handed_is = ap (λ (b : Bool). record { lane = r.lane; user = r.word; value = if b then value else 0; by = by; what = what_told m.note }) of.carried

  -- as if it had been put on its way
  abbrev on_its_way : Parts
  on_its_way = record p { effects = record { list = handed ∷ []; room = p.effects.room - 1 } }

  told_one : HasTold by value (m ∷ []) p on_its_way
  told_one = record {
    hears = sym (ap (λ (b : Bool). if b then without p.hears.list m.to else p.hears.list) of.goes_on);
    effects = sym (ap (λ (es : List Effect). es ++ all_told by value p.hears.list p.merges.list (m ∷ [])) ready.empty
        ∙ ap (λ (o : Option Role). effects_for by value (what_told m.note) o ++ []) of.told
        ∙ ap (λ (e : Effect). e ∷ []) handed_is);
    room = let one = ap (λ (b : Bool). (if b then 0 else 1) + 0) of.goes_on in omega (arith, one);
    only = refl;
  }

  item_one : only_item (handed ∷ []) ≡ Some handed
  item_one = ap (λ (b : Bool). if b then Some handed else None) of.item

  loaded_one : IsLoaded on_its_way
  loaded_one = told_loaded ready told_one

  -- its lane is open
  pub lane_found : (l : Lane Effect) × (lane p.lanes r.lane ≡ Some l) × (0 < l.many)
  lane_found = only_found on_its_way handed loaded_one item_one

  -- it is busy
  pub handed_busy : {q : Parts} (is_claimed : Bool) → is_claimed ≡ (is_empty p.lanes.fresh && is_idle lane_found.0) → is_claimed ≡ false →
      TellsAndSpreads by value (m ∷ []) p q → TellsAndHands by value (m ∷ []) p q (Ok None)
  handed_busy is_claimed claims busy s =
      let item = item_is ready.empty s.tells ∙ ap (option_map (effect_for by value (what_told m.note))) is ∙ ap Some handed_is in
      handed_none s (ap (λ (ls : LanesState Effect). is_some (item_at_once s.told.effects.list ls)) (told_lanes s.tells)
      ∙ sym (one_alone s.told.effects.list p.lanes handed lane_found.0 is_claimed item lane_found.1 claims) ∙ busy)

  -- it is claimed
  module _ {lanes : LanesState Effect} (is_claimed : Bool) (exact : is_claimed ≡ (is_empty p.lanes.fresh && is_idle lane_found.0)) (claimed : is_claimed ≡ true)
      (claims : ClaimsAlone r.lane by p.lanes lanes) (spare : lanes.spare ≡ p.lanes.spare) (promised : AreLanesPromised p.lanes) where
    abbrev behind : Parts
    behind = record p { lanes = lanes; copies = 1 }

    only : ClaimsOnly by handed on_its_way behind
    only = record { item = item_one; claims = claims; copies = refl; only = refl }

    pub handed_ready : IsReady 0 behind
    handed_ready = claimed_ready only loaded_one ready.empty (omega arith) spare

    pub handed_one : (what : What) → what ≡ what_told m.note →
        TellsAndHands by value (m ∷ []) p behind (Ok (Some (record { lane = r.lane; user = r.word; value = value; by = by; what = what })))
    handed_one what told = record {
      told = on_its_way;
      tells = told_one;
      given = Some handed;
      answers = ap (λ (w : What). Ok (Some (record { lane = r.lane; user = r.word; value = value; by = by; what = w }))) told;
      hands = claims_hand only loaded_one
          (sym (one_alone (handed ∷ []) p.lanes handed lane_found.0 is_claimed item_one lane_found.1 exact) ∙ claimed) promised handed_ready;
    }

-- several notes
pub handed_many : {by value : ℕ} {m n : Mail} {ms : List Mail} {p q : Parts} → p.effects.list ≡ [] → AllListened p.hears.list p.merges.list (m ∷ (n ∷ ms)) →
    TellsAndSpreads by value (m ∷ (n ∷ ms)) p q → TellsAndHands by value (m ∷ (n ∷ ms)) p q (Ok None)
handed_many {by} {value} {m} {n} {ms} {p} empty listened s =
    let none = ap (λ (es : List Effect). is_some (only_item es)) (told_is empty s.tells) ∙ none_of_many by value p.hears.list p.merges.list m n ms listened in
    handed_none s (sym (none_alone s.told.effects.list s.told.lanes none))

-- no note
pub handed_nothing : {by value : ℕ} {p q : Parts} → p.effects.list ≡ [] → Spreads by p q → IsReady 0 q → AreLanesPromised q.lanes →
    TellsAndHands by value [] p q (Ok None)
handed_nothing {by} {value} {p} empty spreads ready promised =
    handed_none (record { told = p; tells = tells_none by value p; spreads = spreads; ready = ready; promised = promised })
    (sym (none_alone p.effects.list p.lanes (ap (λ (es : List Effect). is_some (only_item es)) empty)))

-- all were handed out
pub given_all : (s t : BookState) → s.given ≤ length (notes s.history) → None ≡ slice_get (notes s.history) s.given → t ≡ record s { given = s.given } →
    t ≡ all_given s
given_all s t within none is =
    let past = get_past (notes s.history) s.given (sym none) in
    let all : s.given ≡ length (notes s.history) = omega (arith, within, past) in
    is ∙ ap (λ (n : ℕ). record s { given = n }) all

pub given_more : (s t u : BookState) → t ≡ record s { given = s.given + 1 } → u ≡ all_given t → u ≡ all_given s
given_more s t u is all = all ∙ ap all_given is

pub given_within : (s t : BookState) (m : Mail) → Some m ≡ slice_get (notes s.history) s.given → t ≡ record s { given = s.given + 1 } →
    t.given ≤ length (notes t.history)
given_within s t m found is =
    let w = get_within (notes s.history) s.given m (sym found) in
    let g = ap (λ (x : BookState). x.given) is in
    let n = ap (λ (x : BookState). length (notes x.history)) is in
    omega (arith, w, g, n)
