-- What a book that stores a base, and tallies, say of the whole history.
use Rattle.rx_script.proofs.Common.{◌≡◌, ℕ, Bool, false, List, length, Option, sym, ap, ◌∙◌, ◌&&◌, slice_get, count_by, is_some, list_any}
use Rattle.rx_script.proofs.Common.{range_with_len, option_and_then, option_map_or, Event, makes_resource, is_take_of, places, is_open, is_held}
use Rattle.rx_script.proofs.Common.{is_taken, open_count, held_count, waiting_count, alike_of, Key, ResKey, State, has_key, has_res_key, accepted_tag}
use Rattle.rx_script.proofs.Common.{IsPromised, Tallies, IsNodeKey, IsHeldKey, IsWhole}
use Rattle.rx_script.proofs.KeysByNumber.{has_key-is_open, has_res_key-is_held}
use Rattle.std.proofs.Common.{rules}

-- what is counted at each place alike
same_count : (p q : ℕ → Bool) (h k : List Event) → length h ≡ length k → ((n : ℕ) → p n ≡ q n) → count_by p (places h) ≡ count_by q (places k)
same_count p q h k long same = (λ i. count_by (λ n. same n i) (range_with_len 0 (long i)))

module _ (h : List Event) (t : Tallies) (s : State) (w : IsWhole h t s) where
  pub open_total : open_count s.history ≡ open_count h
  open_total = sym (same_count _ _ h s.history w.agree.same_length (alike_of w.agree).same_open)

  pub held_total : held_count s.history ≡ held_count h
  held_total = sym (same_count _ _ h s.history w.agree.same_length w.agree.held)

  pub waiting_total : waiting_count s.history ≡ waiting_count h
  waiting_total = sym (same_count _ _ h s.history w.agree.same_length w.agree.waiting)

  -- what a key that the book gave is good for
  pub open_here : (k : Key) → IsPromised s → IsNodeKey s k → has_key s.keys k ≡ is_open h k.number
  open_here k kept known = has_key-is_open s k kept known ∙ sym ((alike_of w.agree).same_open k.number)

  pub held_here : (k : ResKey) → IsPromised s → IsHeldKey s k → has_res_key s.res_keys k ≡ is_held h k.number
  held_here k kept known = has_res_key-is_held s k kept known ∙ sym (w.agree.held k.number)

-- a resource that has a tag was accepted
accepted_there : (o : Option Event) → is_some (option_and_then accepted_tag o) ≡ option_map_or makes_resource o false
accepted_there x0 = search rules

pub tagged-taken : (h : List Event) (r : ℕ) → (is_some (option_and_then accepted_tag (slice_get h r)) && list_any (is_take_of r) h) ≡ is_taken h r
unfolding is_taken
tagged-taken h r = ap (λ b. b && list_any (is_take_of r) h) (accepted_there (slice_get h r))
