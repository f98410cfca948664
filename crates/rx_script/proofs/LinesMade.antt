-- The lines of nodes and of resources, one more at a time.
use Rattle.rx_script.proofs.Common.{◌≡◌, ◌<◌, ◌+◌, ◌++◌, ◌∷◌, [], ℕ, List, Bool, true, false, map, filter, length, take, get_or, cond, refl, sym, ap, ◌∙◌}
use Rattle.rx_script.proofs.Common.{append_assoc, append-nil, flat_map, take_more, map-append, flat_map-append, Event, at, is_open, notes_to, Key, Named}
use Rattle.rx_script.proofs.Common.{name_bytes, node_binding, node_line, Binding, is_held, is_taken, Held, Waiting, Taken, is_told, line_of_node, node_lines}
use Rattle.rx_script.proofs.Common.{res_shown, res_lines}
use Rattle.rx_note.specs.declared.note.Note.{Note}
use Rattle.rx_script.specs.Lines.{whereabouts}
use Rattle.std.proofs.Common.{rules}

-- one line more
filter-push : {A : Type 0} (p : A → Bool) (xs : List A) (x : A) → filter p (xs ++ x ∷ []) ≡ filter p xs ++ cond (p x) (x ∷ []) []
filter-push p [] x = elim (p x) as (λ b. cond b (x ∷ []) [] ≡ [] ++ cond b (x ∷ []) []) [ true ↦ refl | false ↦ refl ]
filter-push p (y ∷ ys) x =
    elim (p y) as (λ b. cond b (y ∷ filter p (ys ++ x ∷ [])) (filter p (ys ++ x ∷ [])) ≡ cond b (y ∷ filter p ys) (filter p ys) ++ cond (p x) (x ∷ []) [])
    [ true ↦ ap (λ l. y ∷ l) (filter-push p ys x) | false ↦ filter-push p ys x ]

node_lines-push : (h : List Event) (nodes : List Binding) (b : Binding)
    → node_lines h (nodes ++ b ∷ []) ≡ node_lines h nodes ++ cond (at is_told h b.number) (line_of_node h b) []
node_lines-push h nodes b = search (rules, flat_map, filter-push, flat_map-append, filter, cond, append-nil)

res_lines-push : (h : List Event) (resources : List Binding) (b : Binding) → res_lines h (resources ++ b ∷ []) ≡ res_lines h resources ++ res_shown h b
res_lines-push h resources b = search (rules, flat_map-append, append-nil)

module _ {A : Type 0} (binding : A → Binding) (xs : List A) (i : ℕ) (x : A) (within : i < length xs) (is : x ≡ get_or xs i x) where
  bindings_more : map binding (take (i + 1) xs) ≡ map binding (take i xs) ++ binding x ∷ []
  bindings_more = ap (map binding) (take_more xs i x within ∙ ap (λ y. take i xs ++ y ∷ []) (sym is)) ∙ map-append binding (take i xs) (x ∷ [])

  pub node_line_told : (h : List Event) (old mid new : List ℕ) → mid ≡ old ++ node_lines h (map binding (take i xs))
      → at is_told h (binding x).number ≡ true → new ≡ mid ++ line_of_node h (binding x) → new ≡ old ++ node_lines h (map binding (take (i + 1) xs))
  node_line_told h old mid new before told here = search (rules, append_assoc, map, take, cond, bindings_more, node_lines-push)

  pub node_line_untold : (h : List Event) (old mid : List ℕ) → mid ≡ old ++ node_lines h (map binding (take i xs)) → at is_told h (binding x).number ≡ false
      → mid ≡ old ++ node_lines h (map binding (take (i + 1) xs))
  node_line_untold h old mid before untold = search (rules, append-nil, map, take, cond, bindings_more, node_lines-push)

  pub res_line_more : (h : List Event) (old mid new : List ℕ) → mid ≡ old ++ res_lines h (map binding (take i xs)) → new ≡ mid ++ res_shown h (binding x)
      → new ≡ old ++ res_lines h (map binding (take (i + 1) xs))
  res_line_more h old mid new before here = search (rules, append_assoc, map, take, bindings_more, res_lines-push)

-- a node's line, from what the book and its tallies say
pub node_line_shown : (h : List Event) (x : Named Key) (name : List ℕ) (open_now : Bool) (told : List Note)
    → name ≡ name_bytes x → open_now ≡ is_open h x.key.number → told ≡ notes_to h x.key.number → node_line name open_now told ≡ line_of_node h (node_binding x)
node_line_shown h x name open_now told same_name same_open same_notes = search rules

-- where a resource is
pub where_held : (h : List Event) (r : ℕ) → is_held h r ≡ true → whereabouts h r ≡ Held
where_held h r held = rw held refl

pub where_taken : (h : List Event) (r : ℕ) → is_held h r ≡ false → is_taken h r ≡ true → whereabouts h r ≡ Taken
where_taken h r unheld taken = rw (unheld, taken) refl

pub where_waiting : (h : List Event) (r : ℕ) → is_held h r ≡ false → is_taken h r ≡ false → whereabouts h r ≡ Waiting
where_waiting h r unheld untaken = rw (unheld, untaken) refl
