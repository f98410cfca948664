-- Names that are bound where a call is accepted, and a session that stays alike where one is refused.
use Rattle.rx_live.proofs.Common.{◌≡◌, ℕ, ◌==◌, ◌<◌, ◌≤◌, Bool, true, false, cond, List, length, Option, Some, None, option_map, Result, refl, sym}
use Rattle.rx_live.proofs.Common.{ap, ◌∙◌, arith, ◌⊎◌, String, Global, string_bytes, IfOk, IfSome, is_some, ◌||◌, ◌&&◌, bytes_eq, AllocError}
use Rattle.rx_live.proofs.Common.{option_map_or, ne_eqb, none-some, same_Some, Mail, Event, Refusal, Call, Holding, Leasing, GivingBack, IsRefusal}
use Rattle.rx_live.proofs.Common.{is_out_past, Name, LeaseKey, State, IsPromised, Request, is_live, stands, Accepts, IsCauseOrWant, Spot, Names}
use Rattle.rx_live.proofs.Common.{spot_of, name_of_number, IsPaired, AreSameNames, Binds, Forgets, Book, Outcome, Accepted, Refused, Session, IsSound}
use Rattle.rx_live.proofs.Common.{AreNamesPlaced, lease_by_name}
use Rattle.rx_live.proofs.Common.{has_resource, lease_key_at, AreOpenSame, IsAlike, GivesBy, GivesNames, IsUnchanged, BindsResource, BindsLease, BindsHub}
use Rattle.rx_live.proofs.Common.{keeps_resources, keeps_leases, kept_same, out_same, kept_held, kept_past, out_leased, out_returned}
use Rattle.rx_resource.specs.declared.Life.TheVariants.{Live}
use Rattle.rx_resource.specs.declared.token.Token.{Token}
use Rattle.rx_live.proofs.Soundness.{accepted_longer}
use Rattle.std.proofs.Common.{rules}

-- names ----------------------------------------------------------------------------------------------

pub same_names : (t : Names) → AreSameNames t t
same_names t = record { spots = λ n. refl; names = λ k. refl }

pub same_on : (a b c : Names) → AreSameNames a b → AreSameNames b c → AreSameNames a c
same_on a b c p q = record { spots = λ n. q.spots n ∙ p.spots n; names = λ k. q.names k ∙ p.names k }

pub bound_after : (old mid new : Names) (name : Name) (spot : Spot) → AreSameNames old mid → Binds mid name spot new → Binds old name spot new
bound_after old mid new name spot same binds = search (rules, cond, bytes_eq)

pub none_of : {A : Type 0} (o : Option A) → is_some o ≡ false → o ≡ None
none_of x0 p = search rules

pub some_cond : (b : Bool) (x : Name) (o : Option Name) → is_some (cond b (Some x) o) ≡ cond b true (is_some o)
some_cond x0 x o = search rules

pub some_gone : (b : Bool) (o : Option Name) → is_some (cond b None o) ≡ cond b false (is_some o)
some_gone x0 o = search rules

pub or_false : (a b : Bool) → (a || b) ≡ false → (a ≡ false) × (b ≡ false)
or_false x0 b p = search rules

pub not_unnamed : (s : Session) (name n : Name) → has_resource s name ≡ false → s.unnamed ≡ Some n → bytes_eq name n ≡ false
not_unnamed s name n free is = search (rules, option_map_or, bytes_eq, or_false, is_some)

-- a number that is not given yet has no name
pub unnamed_resource : (s : Session) → IsSound s → name_of_number s.resources (length s.book.history) ≡ None
unnamed_resource s sound = search (rules, none_of, length, kept_past)

pub unnamed_lease : (s : Session) → IsSound s → name_of_number s.leases (length s.book.history) ≡ None
unnamed_lease s sound = search (rules, none_of, length, is_out_past)

pub placed_longer : (h k : List Event) (t : Names) → AreNamesPlaced h t → length h ≤ length k → AreNamesPlaced k t
placed_longer h k t placed longer n past = placed n (omega arith)

pub placed_bound : (h : List Event) {old new : Names} {name : Name} {spot : Spot} → AreNamesPlaced h old → Binds old name spot new → spot.number < length h →
    AreNamesPlaced h new
placed_bound h {old} {name = name} {spot = spot} placed binds within n past = search (rules, ne_eqb, cond)

-- open nodes
pub same_open : (untold : Option Mail) (book : State) (t : Names) → AreOpenSame untold book t t
same_open untold book t = search (rules, same_names)

-- alike ----------------------------------------------------------------------------------------------

pub alike_same : (s : Session) → IsAlike s s
alike_same s = search (rules, same_open, same_names)

lost : (a b : Option Name) → (a ≡ b) ⊎ (a ≡ None) → b ≡ None → a ≡ None
lost a b x2 none = search rules

pub sound_alike : (old new : Session) → IsSound old → IsAlike old new → IsPaired new.nodes → IsPaired new.hubs → IsPaired new.resources →
    IsPaired new.leases → IsSound new
sound_alike old new sound alike nodes hubs resources leases = search (rules, lost, length, is_some)

-- outcomes -------------------------------------------------------------------------------------------

-- the book refuses
module _ {A : Type 0} (stand : State → A → Refusal → Bool) (accepts : State → A → State → Type 0) where
  pub refused_by : {s t : Session} {asked : Option A} {call : A} {taken : Bool} (bound : Session → Type 0) (why : Refusal)
      (result : Result Outcome AllocError) →
      asked ≡ Some call → taken ≡ false → IsRefusal (stand s.book call) why → IsUnchanged s t → IfOk result (λ o. o ≡ Refused (Book why)) →
      IfOk result (λ o. GivesBy stand accepts s asked taken bound o t)
  refused_by bound why x2 known is cause unchanged told = search rules

  -- it accepts
  pub accepted_by : {s t : Session} (asked : Option A) {call : A} (taken : Bool) (bound : Session → Type 0) →
      asked ≡ Some call → taken ≡ false → accepts s.book call t.book → bound t → IsSound t → GivesBy stand accepts s asked taken bound Accepted t
  accepted_by {s} {t} asked {call} taken bound known is did binds sound = search (rules, Accepted)

-- of one call
pub given_refused : {s t : Session} {asked : Option Request} {call : Request} {taken : Bool} (bound : Session → Type 0) (why : Refusal)
    (result : Result Outcome AllocError) →
    asked ≡ Some call → taken ≡ false → IsCauseOrWant s.book call why → IsUnchanged s t → IfOk result (λ o. o ≡ Refused (Book why)) →
    IfOk result (λ o. GivesNames s asked taken bound o t)
given_refused = refused_by stands Accepts

pub given_accepted : {s t : Session} (asked : Option Request) {call : Request} (taken : Bool) (bound : Session → Type 0) →
    asked ≡ Some call → taken ≡ false → Accepts s.book call t.book → bound t → IsSound t → GivesNames s asked taken bound Accepted t
given_accepted = accepted_by stands Accepts

-- a resource -----------------------------------------------------------------------------------------

module _ (s : Session) (book : State) (name : Name) (spot : Spot) (mid t : Names) (sound : IsSound s) (kept : IsPromised book) (paired : IsPaired t) where
  abbrev after_binding : Call → Bool → Type 0
  after_binding call known = Accepts s.book (record { call = call; is_known = known; is_fresh = true }) book

  pub held_bound : AreSameNames s.resources mid → Binds mid name spot t → spot.number ≡ length s.book.history →
      BindsResource s name (record s { book = book; resources = t })
  held_bound same binds number = search (rules, bound_after)

  pub held_sound : (node tag : ℕ) (known : Bool) → AreSameNames s.resources mid → Binds mid name spot t → spot.number ≡ length s.book.history →
      has_resource s name ≡ false → after_binding (Holding node tag) known → IsSound (record s { book = book; resources = t })
  held_sound node tag known same after number free accepts =
      let asked : Request = record { call = Holding node tag; is_known = known; is_fresh = true } in
      let longer : length s.book.history ≤ length book.history = accepted_longer s.book book asked accepts in
      let binds : Binds s.resources name spot t = bound_after s.resources mid t name spot same after in
      record {
        kept = kept;
        node_pairs = sound.node_pairs;
        hub_pairs = sound.hub_pairs;
        resource_pairs = paired;
        lease_pairs = sound.lease_pairs;
        nodes = placed_longer s.book.history book.history s.nodes sound.nodes longer;
        hubs = placed_longer s.book.history book.history s.hubs sound.hubs longer;
        resources = λ r. ap is_some (binds.names r) ∙ some_cond (spot.number == r) name (name_of_number s.resources r) ∙
            (λ i. cond (number i == r) true (sound.resources r i)) ∙ sym (kept_held sound.kept.lawful accepts.step r);
        leases = λ l. sound.leases l ∙ sym (out_same (Holding node tag) accepts.step refl l);
        unnamed = λ n is. binds.spots n ∙ ap (λ (b : Bool). cond b (Some spot) (spot_of s.resources n)) (not_unnamed s name n free is) ∙ sound.unnamed n is;
      }

  pub leased_bound : AreSameNames s.leases mid → Binds mid name spot t → spot.number ≡ length s.book.history →
      BindsLease s name (record s { book = book; leases = t })
  leased_bound same binds number = search (rules, bound_after)

  pub leased_sound : (q : ℕ) (known : Bool) → AreSameNames s.leases mid → Binds mid name spot t → spot.number ≡ length s.book.history →
      after_binding (Leasing q) known → IsSound (record s { book = book; leases = t })
  leased_sound q known same after number accepts =
      let asked : Request = record { call = Leasing q; is_known = known; is_fresh = true } in
      let longer : length s.book.history ≤ length book.history = accepted_longer s.book book asked accepts in
      let binds : Binds s.leases name spot t = bound_after s.leases mid t name spot same after in
      record {
        kept = kept;
        node_pairs = sound.node_pairs;
        hub_pairs = sound.hub_pairs;
        resource_pairs = sound.resource_pairs;
        lease_pairs = paired;
        nodes = placed_longer s.book.history book.history s.nodes sound.nodes longer;
        hubs = placed_longer s.book.history book.history s.hubs sound.hubs longer;
        resources = λ r. sound.resources r ∙ sym (kept_same (Leasing q) accepts.step refl r);
        leases = λ l. ap is_some (binds.names l) ∙ some_cond (spot.number == l) name (name_of_number s.leases l)
            ∙ (λ i. cond (number i == l) true (sound.leases l i)) ∙ sym (out_leased sound.kept.lawful accepts.step l);
        unnamed = sound.unnamed;
      }

  pub hub_bound : AreSameNames s.hubs mid → Binds mid name spot t → spot.number ≡ length s.book.history → BindsHub s name (record s { book = book; hubs = t })
  hub_bound same binds number = search (rules, bound_after)

  pub hub_sound : (asked : Request) → AreSameNames s.hubs mid → Binds mid name spot t → spot.number ≡ length s.book.history → Accepts s.book asked book →
      keeps_resources asked.call ≡ true → keeps_leases asked.call ≡ true → length s.book.history < length book.history →
      IsSound (record s { book = book; hubs = t })
  hub_sound asked same after number accepts resources leases longer = search (rules, bound_after, placed_longer, placed_bound, kept_same, out_same)

-- a lease that is given back -------------------------------------------------------------------------

pub forgot : (old new : Names) (number : ℕ) (name : Name) (result : Option (String Global)) → name_of_number old number ≡ Some name →
    option_map string_bytes result ≡ name_of_number old number → IfSome result (λ n. Forgets old number (string_bytes n) new) → Forgets old number name new
forgot old new number name x4 known value some = search (rules, none-some, same_Some, string_bytes)

pub returned_sound : {s : Session} {book : State} {q : ℕ} (known : Bool) (name : Name) (t : Names) → IsSound s → IsPromised book → IsPaired t →
    Forgets s.leases q name t →
    Accepts s.book (record { call = GivingBack q; is_known = known; is_fresh = true }) book → IsSound (record s { book = book; leases = t })
returned_sound {s} {book} {q} known name t sound kept paired forgets accepts =
    let asked : Request = record { call = GivingBack q; is_known = known; is_fresh = true } in
    let longer : length s.book.history ≤ length book.history = accepted_longer s.book book asked accepts in
    record {
      kept = kept;
      node_pairs = sound.node_pairs;
      hub_pairs = sound.hub_pairs;
      resource_pairs = sound.resource_pairs;
      lease_pairs = paired;
      nodes = placed_longer s.book.history book.history s.nodes sound.nodes longer;
      hubs = placed_longer s.book.history book.history s.hubs sound.hubs longer;
      resources = λ r. sound.resources r ∙ sym (kept_same (GivingBack q) accepts.step refl r);
      leases = λ l. ap is_some (forgets.names l) ∙ some_gone (q == l) (name_of_number s.leases l)
          ∙ ap (λ (b : Bool). cond (q == l) false b) (sound.leases l) ∙ sym (out_returned accepts.step l);
      unnamed = sound.unnamed;
    }

-- the name of a lease that is out
by_spot : (s : Session) (name : Name) (k : LeaseKey) (o : Option Spot) → IsSound s → spot_of s.leases name ≡ o → option_map lease_key_at o ≡ Some k →
    name_of_number s.leases k.number ≡ Some name
by_spot s name k x3 sound found is = search (rules, none-some, same_Some)

pub lease_named : (s : Session) (name : Name) (k : LeaseKey) → IsSound s → lease_by_name s name ≡ Some k → name_of_number s.leases k.number ≡ Some name
lease_named s name k sound found = by_spot s name k (spot_of s.leases name) sound refl found

-- a token that is new
pub is_new : {tag : ℕ} {t : Token} → t ≡ record { tag = tag; life = Live; uses = 0 } → (is_live t.life && t.uses == 0) ≡ true
is_new made = ap (λ (t : Token). is_live t.life && t.uses == 0) made

pub tag_of_new : {tag : ℕ} {t : Token} → t ≡ record { tag = tag; life = Live; uses = 0 } → t.tag ≡ tag
tag_of_new made = ap (λ (t : Token). t.tag) made
