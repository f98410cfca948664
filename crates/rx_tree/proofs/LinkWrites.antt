-- A write of one link in a store: what it says of every place's link, and of the one side that it writes.
use Rattle.rx_tree.proofs.Common.{◌≡◌, ℕ, Some, refl, sym, ap, value_at, with_value_at, Link, Place, Children, Held, Sibling, Noted, Stored}
use Rattle.rx_tree.proofs.Common.{Record, Store, set_step, places, link_at, set_link_at, next_of, previous_of, Relinks}
use Rattle.rx_tree.specs.declared.store.Stored.{Stored as Kept}
use Rattle.rx_tree.proofs.StoreLemmas.{linked-Children, linked-Held, linked-Sibling, linked-Noted, linked-Stored, relinks-Children, relinks-Held}
use Rattle.rx_tree.proofs.StoreLemmas.{relinks-Sibling, relinks-Noted, relinks-Stored}
use Rattle.rx_tree.proofs.TieLemmas.{wrote_next, wrote_previous, left_next, left_previous}
use Rattle.std.proofs.Common.{rules}

module _ {T : Type 0} where
  -- the link of one place is written, and nothing else
  pub record WritesLink (old new : Store T) (place : Place) (before link : Link) : Type 0 where
    pub linked : (q : Place) → link_at new q ≡ set_link_at place link old q
    pub was : link_at old place ≡ before
    pub rest : Relinks old new

  module _ {old new : Store T} {place to : Place} {before : Link} where
    -- what comes after the place is written, and what comes before it stays
    pub next-written : WritesLink old new place before (record before { next = to }) → (q : Place) → next_of new q ≡ set_step places place to (next_of old) q
    next-written w = wrote_next (link_at old) (link_at new) place (record before { next = to }) w.linked to refl

    pub previous-kept : WritesLink old new place before (record before { next = to }) → (q : Place) → previous_of new q ≡ previous_of old q
    previous-kept w = left_previous (link_at old) (link_at new) place (record before { next = to }) w.linked (sym (ap (λ k. k.previous) w.was))

    -- what comes before the place is written, and what comes after it stays
    pub previous-written : WritesLink old new place before (record before { previous = to }) → (q : Place) →
        previous_of new q ≡ set_step places place to (previous_of old) q
    previous-written w = wrote_previous (link_at old) (link_at new) place (record before { previous = to }) w.linked to refl

    pub next-kept : WritesLink old new place before (record before { previous = to }) → (q : Place) → next_of new q ≡ next_of old q
    next-kept w = left_next (link_at old) (link_at new) place (record before { previous = to }) w.linked (sym (ap (λ k. k.next) w.was))

-- each kind of place that has a slot
module _ {T : Type 0} (s : Store T) (slot : ℕ) (link : Link) where
  pub writes-Children : (l : Record) → value_at s.nodes slot ≡ Some l →
      WritesLink s (record s { nodes = with_value_at s.nodes slot (record l { children = link }) }) (Children slot) l.children link
  writes-Children l at = search (rules, linked-Children, relinks-Children)

  pub writes-Held : (l : Record) → value_at s.nodes slot ≡ Some l →
      WritesLink s (record s { nodes = with_value_at s.nodes slot (record l { held = link }) }) (Held slot) l.held link
  writes-Held l at = search (rules, linked-Held, relinks-Held)

  pub writes-Sibling : (l : Record) → value_at s.nodes slot ≡ Some l →
      WritesLink s (record s { nodes = with_value_at s.nodes slot (record l { sibling = link }) }) (Sibling slot) l.sibling link
  writes-Sibling l at = search (rules, linked-Sibling, relinks-Sibling)

  pub writes-Noted : (l : Record) → value_at s.nodes slot ≡ Some l →
      WritesLink s (record s { nodes = with_value_at s.nodes slot (record l { noted = link }) }) (Noted slot) l.noted link
  writes-Noted l at = search (rules, linked-Noted, relinks-Noted)

  pub writes-Stored : (r : Kept T) → value_at s.resources slot ≡ Some r →
      WritesLink s (record s { resources = with_value_at s.resources slot (record r { link = link }) }) (Stored slot) r.link link
  writes-Stored r at = search (rules, linked-Stored, relinks-Stored)
