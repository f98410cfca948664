-- Steps from their parts.
use Rattle.std.proofs.Common.{◌≡◌, ℕ, ◌+◌, ◌<◌, List, [], ◌∷◌, ◌++◌, append_assoc, append-nil, ◌∙◌, ap, length, drop, get_or}
use Rattle.std.proofs.Common.{Option, Some, None, option_map, refl, sym, add-one, drop-cons, Global, ◌≤◌}
use Rattle.std.proofs.lemmas.List.{drop_all}
use Rattle.json.specs.Value.{value_view, items_view}
use Rattle.json.specs.declared.value.Value.{Value}
use Rattle.serde_json.specs.Data.{Data}
use Rattle.rx_device.specs.Part.{data_of, items_data}
use Rattle.rx_scenario.specs.Scenario.{Name, Step, steps_of, labels_in, labels_of}
use Rattle.rx_scenario.specs.Reading.{each_step}

-- the steps that a loop has read, before those that are left
abbrev pub with_front : List Step → Option (List Step) → Option (List Step)
with_front front read = option_map (λ steps. front ++ steps) read

pub labels_in-push : (ss : List Step) (s : Step) → labels_in (steps_of (ss ++ s ∷ [])) ≡ labels_in (steps_of ss) ++ labels_of s
labels_in-push [] s = simp append-nil
labels_in-push (x ∷ xs) s = ap (λ (ls : List (Option Name)). labels_of x ++ ls) (labels_in-push xs s)
    ∙ sym (append_assoc (labels_of x) (labels_in (steps_of xs)) (labels_of s))

in_front : (front : List Step) (s : Step) (rest : Option (List Step))
    → with_front front (option_map (λ ss. s ∷ ss) rest) ≡ with_front (front ++ s ∷ []) rest
in_front front s None = refl
in_front front s (Some ss) = ap Some (sym (append_assoc front (s ∷ []) ss))

pub with_front-more : (read : Data → Option Step) (front : List Step) (values : List (Value Global)) (i : ℕ) (value : Value Global) (s : Step)
    → i < length values → value ≡ get_or values i value → read (data_of (value_view value)) ≡ Some s
    → with_front front (each_step read (items_data (items_view (drop i values))))
    ≡ with_front (front ++ s ∷ []) (each_step read (items_data (items_view (drop (i + 1) values))))
with_front-more read front values i value s within is gives = rw (add-one, drop-cons values i value within, ← is, gives) (in_front front s _)

-- none is left
pub with_front-all : (read : Data → Option Step) (front : List Step) (values seen : List (Value Global)) (i : ℕ) (all : Option (List Step))
    → seen ≡ values → length seen ≤ i
    → all ≡ with_front front (each_step read (items_data (items_view (drop i values)))) → all ≡ Some front
with_front-all read front values seen i all is past so_far =
    so_far ∙ rw (drop_all i values (rw is at past)) (ap Some (append-nil front))
