-- The lists that a grammar accepts.
use Rattle.std.proofs.Common.{◌≡◌, true, false, Option, Some, None, List, [], ◌∷◌, ◌++◌, refl, ap}
use Rattle.std.specs.Prelude.{IsTrue}
use Rattle.std.proofs.Math.Bool.{not}
use Rattle.std.specs.List.{list_all}
use Rattle.std.specs.Option.{option_to_list, option_map}
use Rattle.std.proofs.lemmas.Bool.{false≢true}
use Rattle.rx_note.specs.declared.note.Terminal.{Terminal}
use Rattle.rx_note.specs.declared.note.Note.{Note}
use Rattle.rx_note.specs.declared.note.Note.TheVariants.{Next, Project, End}
use Rattle.rx_note.specs.Notes.{is_end, accepts, IsGrammatical}

-- an item before a list that has the form
IsGrammatical-cons : (item : Note) (rest : List Note) → is_end item ≡ false → IsGrammatical rest → IsGrammatical (item ∷ rest)
IsGrammatical-cons item rest e g =
    record { items = item ∷ g.items; last = g.last; no_end = rw e g.no_end; whole = ap (λ (notes : List Note). item ∷ notes) g.whole }

pub accepted_form : (notes : List Note) → IsTrue (accepts false notes) → IsGrammatical notes
accepted_form [] a = record { items = []; last = None; no_end = refl; whole = refl }
accepted_form (Next value ∷ rest) a = IsGrammatical-cons (Next value) rest refl (accepted_form rest a)
accepted_form (Project value ∷ rest) a = IsGrammatical-cons (Project value) rest refl (accepted_form rest a)
accepted_form (End terminal ∷ []) a = record { items = []; last = Some terminal; no_end = refl; whole = refl }
accepted_form (End terminal ∷ note ∷ rest) a = absurd (false≢true a)

accepts_items : (items : List Note) (last : Option Terminal) → list_all (λ note. not (is_end note)) items ≡ true →
    IsTrue (accepts false (items ++ option_to_list (option_map End last)))
accepts_items [] None e = refl
accepts_items [] (Some terminal) e = refl
accepts_items (Next value ∷ rest) last e = accepts_items rest last e
accepts_items (Project value ∷ rest) last e = accepts_items rest last e
accepts_items (End terminal ∷ rest) last e = absurd (false≢true e)

pub form_accepted : (notes : List Note) → IsGrammatical notes → IsTrue (accepts false notes)
form_accepted notes g = rw g.whole (accepts_items g.items g.last g.no_end)
