-- From the first line to the end without memory, each name that was handed in is released once.
use Rattle.rx_live.proofs.Common.{◌≡◌, ◌⊎◌, inl, inr, ℕ, zero, suc, ◌<◌, ◌≤◌, ◌==◌, Bool, true, false, cond, List, [], ◌∷◌, ◌++◌, length, map, Option, Some, None}
use Rattle.rx_live.proofs.Common.{refl, sym, ap, ◌∙◌, subst, arith, is_some, ◌||◌, at, makes_resource, Contains, All-contains, bytes_eq, option_map_or, Event, State, is_kept}
use Rattle.rx_live.proofs.Common.{is_held, is_waiting, Name, Spot, spot_of, Session, IsSound, has_resource, released, LeadsNames, no_act, Takes, none_taken}
use Rattle.rx_live.proofs.Common.{one_taken, take_request}
use Rattle.rx_live.proofs.Common.{IsTrue, kept_taken, at_within}
use Rattle.rx_tree.specs.declared.node.ResKey.{ResKey}
use Rattle.rx_live.specs.Promise.{NameAct}
use Rattle.rx_live.specs.Shut.{ReleasesEach, none_waits, one_dropped, AreNamesKeptToTheEnd}
use Rattle.rx_live.proofs.Laws.HeldStaysHeld.{leads_on, leads_same, fresh_held}
use Rattle.rx_live.proofs.Soundness.{accepted_longer}
use Rattle.rx_live.proofs.Drops.{contains_number, takes_on, drop_leads}
use Rattle.rx_live.proofs.Acts.{goes_leads}
use Rattle.rx_live.proofs.ShutSound.{none_in}
use Rattle.rx_live.proofs.ClosedSessionIsSound.{kept_where}
use Rattle.std.proofs.lemmas.Bool.{and_parts}

-- what is kept behind some takings was kept before, and has the key that it had
record Took (a b : State) : Type 0 where
  longer : length a.history ≤ length b.history
  kept : (r : ℕ) → is_kept b.history r ≡ true → is_kept a.history r ≡ true
  keys : (k : ResKey) → Contains b.res_keys k → k.number < length a.history → Contains a.res_keys k

still : (gone was : Bool) → cond gone false was ≡ true → was ≡ true
still true was is = absurd (cc)
still false was is = is

below : (r m n : ℕ) → r < m → m ≤ n → r < n
below r m n less longer = omega (arith, less, longer)

took : {a b : State} → Takes a b → Took a b
took none_taken = record { longer = omega arith; kept = λ r is. is; keys = λ k there less. there }
took {a} {b} (one_taken mid q before accepts) =
    let t = took before in
    let first : length a.history ≤ length mid.history = t.longer in
    let more : length mid.history ≤ length b.history = accepted_longer mid b (take_request q) accepts in
    record {
      longer = omega (arith, first, more);
      kept = λ r is. t.kept r (still (q == r) (is_kept mid.history r) (sym (kept_taken accepts.step r) ∙ is));
      keys = λ k there less. t.keys k (accepts.res_keys k there (below k.number (length a.history) (length mid.history) less first)) less;
    }

-- a number on a list of keys is that of one of them
record HasNumber {L : Type 0} (number : L → ℕ) (ls : List L) (r : ℕ) : Type 0 where
  one : L
  inside : Contains ls one
  is : number one ≡ r

of_number : {L : Type 0} (number : L → ℕ) (ls : List L) (r : ℕ) → Contains (map number ls) r → HasNumber number ls r
of_number number [] r c = absurd (omega (arith, c.1))
of_number number (l ∷ ls) r (zero, within, there) = record { one = l; inside = (0, omega arith, refl); is = there }
of_number number (l ∷ ls) r (suc k, within, there) =
    let rest = of_number number ls r (k, omega arith, there) in
    let c = rest.inside in
    record { one = rest.one; inside = (suc c.0, (let m = c.1 in omega arith), c.2); is = rest.is }

kept_within : (h : List Event) (r : ℕ) → is_kept h r ≡ true → r < length h
unfolding is_kept
kept_within h r is = at_within makes_resource h r (and_parts (at makes_resource h r) _ is).0

module _ (shut new : Session) (none_held : shut.book.held ≡ []) (sound : IsSound shut) (after : IsSound new) (t : Took shut.book new.book) where
  held_none : (r : ℕ) → is_kept new.book.history r ≡ true → is_held new.book.history r ≡ true → ⊥
  held_none r kept held =
      let k = of_number (λ (k : ResKey). k.number) new.book.res_keys r (after.kept.res_keys.every r held) in
      let less : r < length shut.book.history = kept_within shut.book.history r (t.kept r kept) in
      let there = t.keys k.one k.inside (subst (λ (m : ℕ). m < length shut.book.history) (sym k.is) less) in
      let number : Contains (map (λ (k : ResKey). k.number) shut.book.res_keys) r =
      contains_number (λ (k : ResKey). k.number) shut.book.res_keys k.one r there (sym k.is) in
      none_in (λ l. l.number) shut.book.held r none_held (sound.kept.held.every r (All-contains (λ n. IsTrue (is_held shut.book.history n))
      (map (λ (k : ResKey). k.number) shut.book.res_keys) r sound.kept.res_keys.each number))

  module _ (none_waits : new.book.waiting ≡ []) (unnamed : new.unnamed ≡ None) where
    by_where : (r : ℕ) → is_kept new.book.history r ≡ true → (is_held new.book.history r ≡ true) ⊎ (is_waiting new.book.history r ≡ true) → ⊥
    by_where r kept (inl held) = held_none r kept held
    by_where r kept (inr waits) = none_in (λ l. l.number) new.book.waiting r none_waits (after.kept.waiting.every r waits)

    by_spot : (n : Name) (o : Option Spot) → spot_of new.resources n ≡ o → has_resource new n ≡ false
    by_spot n None is = λ i. is_some (is i) || option_map_or (bytes_eq n) (unnamed i) false
    by_spot n (Some p) is =
        let kept : is_kept new.book.history p.number ≡ true = sym (after.resources p.number) ∙ ap is_some (after.resource_pairs.named n p is) in
        absurd (by_where p.number kept (kept_where new.book.history p.number kept))

    nothing_held : (n : Name) → has_resource new n ≡ false
    nothing_held n = by_spot n (spot_of new.resources n) refl

-- all that waits is released
record Released (shut new : Session) (names : List Name) : Type 0 where
  leads : LeadsNames (has_resource shut) (map released names) (has_resource new)
  takes : Takes shut.book new.book
  waiting : new.book.waiting ≡ []
  unnamed : new.unnamed ≡ None
  sound : IsSound new

all_released : {shut new : Session} {names : List Name} → ReleasesEach shut names new → Released shut new names
all_released (none_waits waiting unnamed sound) =
    record { leads = no_act (λ n. refl); takes = none_taken; waiting = waiting; unnamed = unnamed; sound = sound }
all_released {shut} (one_dropped name mid drops rest) =
    let r = all_released rest in
    record {
      leads = leads_on (drop_leads shut mid name drops) r.leads;
      takes = takes_on drops.takes r.takes;
      waiting = r.waiting;
      unnamed = r.unnamed;
      sound = r.sound;
    }

pub kept_to_the_end : AreNamesKeptToTheEnd
kept_to_the_end first last shut new acts names fresh goes shuts each =
    let r = all_released each in
    let all : List NameAct = acts ++ map released names in
    let ended : LeadsNames (has_resource last) (map released names) (has_resource new) =
    leads_same (has_resource last) (has_resource shut) (has_resource new) (map released names) shuts.held r.leads in
    let begun : LeadsNames (λ n. false) all (has_resource new) =
    leads_same (λ n. false) (has_resource first) (has_resource new) all (fresh_held first fresh) (leads_on (goes_leads goes) ended) in
    subst (λ (held : Name → Bool). LeadsNames (λ n. false) all held)
    (λ i n. nothing_held shut new shuts.none_held shuts.sound r.sound (took r.takes) r.waiting r.unnamed n i) begun
