-- Which names are held, along acts and from session to session.
use Rattle.rx_live.proofs.Common.{◌≡◌, ℕ, Bool, false, List, Option, ◌++◌, refl, ◌∙◌, subst, is_some, ◌||◌, bytes_eq, option_map_or, Name, Order}
use Rattle.rx_live.proofs.Common.{Session, has_resource, IsAlike, Renews, NameAct, LeadsNames, no_act, hands_in, releases, IsNewSession, IsAged, as_it_was}
use Rattle.rx_live.proofs.Common.{renewed}
use Rattle.rx_live.proofs.Common.{WaitsFor, IsPutOff}
use Rattle.std.proofs.Common.{rules}

-- acts ------------------------------------------------------------------------------------------------

pub leads_same : (a b c : Name → Bool) (acts : List NameAct) → ((n : Name) → b n ≡ a n) → LeadsNames b acts c → LeadsNames a acts c
leads_same a b c acts same leads = subst (λ (held : Name → Bool). LeadsNames held acts c) (λ i n. same n i) leads

pub leads_on : {a b c : Name → Bool} {xs ys : List NameAct} → LeadsNames a xs b → LeadsNames b ys c → LeadsNames a (xs ++ ys) c
leads_on {a} {b} {c} {xs} {ys} (no_act same) q = leads_same a b c ys same q
leads_on (hands_in name free rest) q = hands_in name free (leads_on rest q)
leads_on (releases name was rest) q = releases name was (leads_on rest q)

-- sessions --------------------------------------------------------------------------------------------

pub alike_held : (old new : Session) → IsAlike old new → (n : Name) → has_resource new n ≡ has_resource old n
alike_held old new alike n = λ i. is_some (alike.resources.spots n i) || option_map_or (bytes_eq n) (alike.unnamed i) false

pub renewed_held : (old mid aged : Session) → IsAlike old mid → Renews mid aged → (n : Name) → has_resource aged n ≡ has_resource old n
renewed_held old mid aged alike renews n = search (rules, is_some, option_map_or, bytes_eq, alike_held)

pub aged_held : {asked : Option Order} {old aged : Session} → IsAged asked old aged → (n : Name) → has_resource aged n ≡ has_resource old n
aged_held as_it_was n = refl
aged_held {asked} {old} {aged} (renewed mid c order full renews) n = renewed_held old mid aged full.alike renews n

pub waits_held : {asked : Option Order} (old new : Session) → WaitsFor asked old new → (n : Name) → has_resource new n ≡ has_resource old n
waits_held {asked} old new waits n = alike_held waits.aged new waits.alike n ∙ aged_held waits.ages n

pub put_off_held : {line : List ℕ} (old new : Session) → IsPutOff line old new → (n : Name) → has_resource new n ≡ has_resource old n
put_off_held {line} old new off n = waits_held old new off.waits n

pub fresh_held : (s : Session) → IsNewSession s → (n : Name) → has_resource s n ≡ false
fresh_held s fresh n = λ i. is_some (fresh.resources.0 n i) || option_map_or (bytes_eq n) (fresh.unnamed i) false
