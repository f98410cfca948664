-- The events that a loop has read, before those that are left.
use Rattle.rx_dump.proofs.Common.{◌≡◌, List, [], ◌∷◌, ◌++◌, Option, Some, None, option_map, refl, sym, ap, append_assoc, Event}

abbrev pub with_past : List Event → Option (List Event) → Option (List Event)
with_past past read = option_map (λ events. past ++ events) read

pub one_past : (past : List Event) (e : Event) (read : Option (List Event)) → with_past past (option_map (λ es. e ∷ es) read) ≡ with_past (past ++ e ∷ []) read
one_past past e None = refl
one_past past e (Some es) = ap Some (sym (append_assoc past (e ∷ []) es))
