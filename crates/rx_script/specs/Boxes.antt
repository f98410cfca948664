-- The program's resources, as a contract sees them.
use Rattle.std.specs.Prelude.{◌==◌, ◌%◌, ℕ, Result, Ok, Err, if◌then◌else◌, bit_xor}
use Rattle.rx_resource.specs.declared.Life.{Life}
use Rattle.rx_resource.specs.declared.Life.TheVariants.{Live}
use Rattle.rx_script.specs.declared.boxes.ResourceKind.{ResourceKind}
use Rattle.rx_script.specs.declared.boxes.ResourceKind.TheVariants.{Plain, Tally, Faulty}

-- a resource: its tag, whether it was released, how often it was applied, and the exclusive or of all words that it was applied to
pub record Box : Type 0 where
  pub tag : ℕ
  pub life : Life
  pub uses : ℕ
  pub sum : ℕ

-- the kind of the stock's resource of this tag
abbrev pub kind_of_tag : ℕ → ResourceKind
kind_of_tag tag = if tag % 8 == 3 then Faulty else (if tag % 8 == 5 then Tally else Plain)

-- what it answers to a word: a tally the exclusive or of all its words, the others the word
abbrev pub word_answered : ResourceKind → (sum word : ℕ) → ℕ
word_answered Tally sum word = bit_xor sum word
word_answered _ sum word = word

-- what its release answers: a faulty one the fault of code 2
abbrev pub release_of : ResourceKind → Result (Unit {0}) ℕ
release_of Faulty = Err 2
release_of _ = Ok tt

-- as the stock has it for this tag
abbrev pub fresh_by : ℕ → Box
fresh_by tag = record { tag = tag; life = Live; uses = 0; sum = 0 }
