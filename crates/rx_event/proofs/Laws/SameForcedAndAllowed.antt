-- Stored histories that agree: the same is forced and allowed in both, and followed by one event they agree again.
use Rattle.rx_event.proofs.Laws.Common.{◌≡◌, ℕ, true, List, length, sym, subst, ◌∙◌, filter, range_with_len, false≢true, Mode, Event}
use Rattle.rx_event.proofs.Laws.Common.{Hub, makes_hub, at, is_open, IsForced, IsSettled, IsInOrderAt, IsAllowed, Kept, Agree, AreRead, forced}
use Rattle.rx_event.proofs.Laws.Common.{allowed, opened_with, MayFollow, IsLawful}
use Rattle.std.specs.Cmp.{both_ways as same_test}
use Rattle.rx_event.specs.Tree.{hubs}
use Rattle.rx_event.proofs.Laws.SameTree.{Alike, alike_of, alike_back, at_hub_alike, within_alike}
use Rattle.rx_event.proofs.Laws.ReadDue.{trees_of, forced_read, settled_read}
use Rattle.rx_event.proofs.Laws.TreeRead.{event_by_itself}
use Rattle.rx_event.proofs.Laws.LetGo.{connected_hub}
use Rattle.rx_event.proofs.Laws.ClosedInEveryCourse.{open_above}
use Rattle.rx_event.proofs.Laws.ReadAllowed.{MayAlike, allowed_by}
use Rattle.std.proofs.Common.{rules}

pub agree_back : (b : Kept) (h : List Event) (c : Kept) (k : List Event) → Agree b h c k → Agree c k b h
agree_back b h c k a = search rules

pub reads_of : {b : Kept} {h : List Event} {c : Kept} {k : List Event} → Agree b h c k → IsLawful b h → IsLawful c k → AreRead b c (λ n. n) (λ n. n) h k
reads_of a law law_k = record { law = law; other_law = law_k; there = a.there; back = a.back }

pub hub_is : (e : Event) → makes_hub e ≡ true → (mode : Mode) × (e ≡ Hub mode)
hub_is x0 is = search (rules, false≢true)

-- allowed -------------------------------------------------------------------------------------------

pub hubs_alike : (h k : List Event) → Alike h k → hubs h ≡ hubs k
hubs_alike h k a = (λ i. filter (λ n. same n i) (range_with_len 0 (a.same_length i))) where
  same : (n : ℕ) → at makes_hub h n ≡ at makes_hub k n
  same n = same_test (at makes_hub h n) (at makes_hub k n) (at_hub_alike h k a makes_hub hub_is n) (at_hub_alike k h (alike_back h k a) makes_hub hub_is n)

pub in_order_too : (h k : List Event) → Alike h k → (g p : ℕ) → is_open h p ≡ true → IsInOrderAt h g p → IsInOrderAt k g p
in_order_too h k a g p o ordered m j within connects = search (rules, within_alike, open_above)

agree_may : {b : Kept} {h : List Event} {c : Kept} {k : List Event} → Agree b h c k → IsLawful b h → IsLawful c k → MayAlike b c (λ n. n) (λ n. n) h k
agree_may {b} {h} {c} {k} a law law_k = search (rules, trees_of, reads_of, length, hubs_alike, alike_of, connected_hub)

module _ (b : Kept) (h : List Event) (c : Kept) (k : List Event) (a : Agree b h c k) (law : IsLawful b h) (law_k : IsLawful c k) where
  pub allowed_too : {e : Event} → IsAllowed b h e → IsAllowed c k e
  allowed_too {e} may = subst (λ (x : Event). IsAllowed c k x) (event_by_itself e) (allowed_by (agree_may a law law_k) law law_k a.there.ended may)

  pub forced_too : {e : Event} → IsForced b h e → IsForced c k e
  forced_too {e} f = subst (λ (x : Event). IsForced c k x) (event_by_itself e) (forced_read (reads_of a law law_k) f)

  pub settled_too : IsSettled b h → IsSettled c k
  settled_too = settled_read (reads_of a law law_k)

  pub follows_too : {e : Event} → MayFollow b h e → MayFollow c k e
  follows_too (forced f) = forced (forced_too f)
  follows_too (allowed s x) = allowed (settled_too s) (allowed_too x)
  follows_too (opened_with {n = n} at_n long o) =
      let alike = alike_of a in opened_with (sym (alike.same_made n o) ∙ at_n) (sym a.same_length ∙ long) (a.there.alive n o)
