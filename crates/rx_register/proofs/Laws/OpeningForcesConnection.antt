-- Which openings force a connection: just those of a subscriber of a RefCount hub that has none.
use Rattle.std.proofs.Common.{◌≡◌, ℕ, Bool, true, false, List, [], ◌∷◌, ◌++◌, length, Option, cond, refl}
use Rattle.std.proofs.Common.{sym, ap, subst, ◌∙◌, arith, inl, inr, ◌⊎◌, length-append, nat_lt, rules}
use Rattle.std.proofs.Math.Bool.{◌&&◌}
use Rattle.std.proofs.lemmas.Bool.{cases_Bool, not_from_false, false≢true, and_parts, and_from, ltb-false}
use Rattle.rx_event.specs.Kept.{Kept}
use Rattle.rx_event.specs.Events.{makes_hub, is_auto_hub, is_connect_of}
use Rattle.rx_event.specs.Tree.{at, places, is_open, shuts}
use Rattle.rx_event.specs.Tree.{open_connections}
use Rattle.rx_event.specs.Allowed.{IsHubbed}
use Rattle.rx_event.specs.Lawful.{IsLawful}
use Rattle.rx_event.specs.Causes.{has_connection, forces_connect}
use Rattle.rx_event.specs.declared.event.Place.{Place}
use Rattle.rx_event.specs.declared.event.Kind.{Kind}
use Rattle.rx_event.specs.declared.event.Event.{Event}
use Rattle.rx_event.specs.declared.event.Event.TheVariants.{Open}
use Rattle.rx_event.specs.declared.event.Kind.TheVariants.{Leaf, Pass, Flat, Switch, Until, Sub}
use Rattle.rx_event.specs.Forced.{IsConnectDue, IsSettled, MayWait, none_waits, one_waits}
use Rattle.rx_event.proofs.Laws.Lists.{first_passes, filter_nonempty}
use Rattle.rx_event.proofs.Laws.Places.{at-append, at_within}
use Rattle.rx_event.proofs.Laws.Openness.{is_open-push}
use Rattle.rx_event.proofs.Laws.Hubs.{at_connect}
use Rattle.rx_event.proofs.Laws.Waits.{alone, kept_unsubscribed, kept_subscribed, settled_connected}

no_member : {X : Type 0} (xs : List X) → nat_lt 0 (length xs) ≡ false → xs ≡ []
no_member [] none = refl
no_member (x ∷ xs) none = absurd (let l = ltb-false 0 (length (x ∷ xs)) none in omega arith)

some_member : {X : Type 0} (xs : List X) → nat_lt 0 (length xs) ≡ true → (x : X) × (rest : List X) × (xs ≡ x ∷ rest)
some_member [] some = absurd (false≢true some)
some_member (x ∷ xs) some = (x, xs, refl)

-- a hub without one has no open connections, and one with one has a first
pub connects_none : (h : List Event) (g : ℕ) → has_connection h g ≡ false → open_connections h g ≡ []
connects_none h g none = no_member (open_connections h g) none

pub connects_one : (h : List Event) (g : ℕ) → has_connection h g ≡ true → (c : ℕ) × (rest : List ℕ) × (open_connections h g ≡ c ∷ rest)
connects_one h g some = some_member (open_connections h g) some

-- an opening takes no connection away
spared : (h : List Event) (place : Place) (kind : Kind) (c g : ℕ) → at (is_connect_of g) h c ≡ true → shuts h c (Open place kind) ≡ false
spared h x1 kind c g connects = search (rules, cases_Bool, and_parts, false≢true, Option, at_connect)

still_open : (h : List Event) (place : Place) (kind : Kind) (c g : ℕ) → at (is_connect_of g) h c ≡ true → is_open h c ≡ true →
    is_open (h ++ Open place kind ∷ []) c ≡ true
still_open h place kind c g connects alive =
    is_open-push h (Open place kind) c (at_within (is_connect_of g) h c connects) ∙
    rw (alive, alone h c g (at_connect h g c connects), spared h place kind c g connects) refl

still_connected : (h : List Event) (place : Place) (kind : Kind) (g : ℕ) → open_connections (h ++ Open place kind ∷ []) g ≡ [] → has_connection h g ≡ false
still_connected h place kind g none = by_test (cases_Bool (has_connection h g)) where
  by_test : (has_connection h g ≡ true) ⊎ (has_connection h g ≡ false) → has_connection h g ≡ false
  by_test (inr out) = out
  by_test (inl some) =
      let one = connects_one h g some in
      let c = one.0 in
      let first : (at (is_connect_of g) h c && is_open h c) ≡ true = first_passes (λ n. at (is_connect_of g) h n && is_open h n) (places h) c one.1 one.2 in
      let parts : (at (is_connect_of g) h c ≡ true) × (is_open h c ≡ true) = and_parts _ _ first in
      let within = at_within (is_connect_of g) h c parts.0 in
      let later : at (is_connect_of g) (h ++ Open place kind ∷ []) c ≡ true = at-append (is_connect_of g) h (Open place kind ∷ []) c within ∙ parts.0 in
      absurd (filter_nonempty (λ n. at (is_connect_of g) (h ++ Open place kind ∷ []) n && is_open (h ++ Open place kind ∷ []) n) 0
      (length (h ++ Open place kind ∷ [])) c (omega arith) (let n = length-append h (Open place kind ∷ []) in omega arith)
      (and_from _ _ later (still_open h place kind c g parts.0 parts.1)) none)

-- an opening after which a hub waits is one that forces a connection
pub opening_connects : {base : Kept} → (h : List Event) (place : Place) (kind : Kind) (g : ℕ) → IsLawful base h → IsSettled base h → IsHubbed h place kind →
    IsConnectDue (h ++ Open place kind ∷ []) g → forces_connect h kind ≡ true
opening_connects {base} h place (Sub k) g law settled hubbed d =
    let same : g ≡ k = kept_subscribed base h place k law (settled_connected base h settled) g d in
    let later : at is_auto_hub (h ++ Open place (Sub k) ∷ []) k ≡ true = ap (at is_auto_hub (h ++ Open place (Sub k) ∷ [])) (sym same) ∙ d.auto in
    let auto : at is_auto_hub h k ≡ true = sym (at-append is_auto_hub h (Open place (Sub k) ∷ []) k (at_within makes_hub h k hubbed.0)) ∙ later in
    let unconnected : open_connections (h ++ Open place (Sub k) ∷ []) k ≡ [] =
    ap (open_connections (h ++ Open place (Sub k) ∷ [])) (sym same) ∙ d.unconnected in
    and_from _ _ auto (not_from_false (has_connection h k) (still_connected h place (Sub k) k unconnected))
opening_connects {base} h place Leaf g law settled hubbed d =
    absurd (kept_unsubscribed base h (Open place Leaf) law (settled_connected base h settled) refl refl g d)
opening_connects {base} h place Pass g law settled hubbed d =
    absurd (kept_unsubscribed base h (Open place Pass) law (settled_connected base h settled) refl refl g d)
opening_connects {base} h place Flat g law settled hubbed d =
    absurd (kept_unsubscribed base h (Open place Flat) law (settled_connected base h settled) refl refl g d)
opening_connects {base} h place Switch g law settled hubbed d =
    absurd (kept_unsubscribed base h (Open place Switch) law (settled_connected base h settled) refl refl g d)
opening_connects {base} h place Until g law settled hubbed d =
    absurd (kept_unsubscribed base h (Open place Until) law (settled_connected base h settled) refl refl g d)

-- so many hubs wait after an opening: one where it forces a connection, else none
pub opening_waits : (base : Kept) → (h : List Event) (place : Place) (kind : Kind) → IsLawful base h → IsSettled base h → IsHubbed h place kind →
    MayWait (h ++ Open place kind ∷ []) (cond (forces_connect h kind) 1 0)
opening_waits base h place kind law settled hubbed = by_test (forces_connect h kind) refl where
  only : (k g : ℕ) → kind ≡ Sub k → IsConnectDue (h ++ Open place kind ∷ []) g → g ≡ k
  only k g is d = kept_subscribed base h place k law (settled_connected base h settled) g (subst (λ x. IsConnectDue (h ++ Open place x ∷ []) g) is d)

  one : (x : Kind) → kind ≡ x → forces_connect h x ≡ true → MayWait (h ++ Open place kind ∷ []) 1
  one (Sub k) is forced = one_waits {g = k} (λ g d. only k g is d)
  one _ is forced = absurd (false≢true forced)

  by_test : (b : Bool) → forces_connect h kind ≡ b → MayWait (h ++ Open place kind ∷ []) (cond b 1 0)
  by_test true forced = one kind refl forced
  by_test false quiet = none_waits (λ g d. false≢true (sym quiet ∙ opening_connects h place kind g law settled hubbed d))
