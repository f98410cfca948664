-- What a session promises of the names of resources: each that was handed in stands in exactly one `release` behind that, before it is
-- handed in again, and no other name does.
use Rattle.std.specs.Prelude.{◌≡◌, Bool, true, false, cond, List, [], ◌∷◌}
use Rattle.std.specs.Str.{bytes_eq}
use Rattle.rx_scenario.specs.Scenario.{Name}

-- a `using`, a `hold` or an `open` was answered `ok` and names it as its resource; it stands in a `release`
pub data NameAct : Type 0 where
  handed_in : Name → NameAct
  released : Name → NameAct

-- a set of names, and the same where one of them is or is not in it
abbrev pub with_held : Bool → Name → (Name → Bool) → Name → Bool
with_held now name held n = cond (bytes_eq name n) now (held n)

-- what is held before and after such acts: a name is handed in while it is not held, and released while it is
pub data LeadsNames : (Name → Bool) → List NameAct → (Name → Bool) → Type 0 where
  no_act : {held last : Name → Bool} → ((n : Name) → last n ≡ held n) → LeadsNames held [] last
  hands_in : {held last : Name → Bool} {acts : List NameAct} (name : Name) → held name ≡ false
      → LeadsNames (with_held true name held) acts last → LeadsNames held (handed_in name ∷ acts) last
  releases : {held last : Name → Bool} {acts : List NameAct} (name : Name) → held name ≡ true
      → LeadsNames (with_held false name held) acts last → LeadsNames held (released name ∷ acts) last

-- of all acts of a session, to its last line
abbrev pub IsKept : List NameAct → Type 0
IsKept acts = LeadsNames (λ n. false) acts (λ n. false)
