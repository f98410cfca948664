-- What a node remembers, as words and numbers. No public clause cites this module.
use Rattle.std.specs.Prelude.{◌≡◌, ℕ, Bool, true, false, Option, Some, None, refl}
use Rattle.rx_note.specs.declared.Terminal.{Terminal}
use Rattle.rx_note.specs.declared.Terminal.TheVariants.{Completed, Error}
use Rattle.rx_marks.specs.declared.flags.Two.{Two}
use Rattle.rx_marks.specs.declared.marks.EndWord.{EndWord}
use Rattle.rx_marks.specs.declared.marks.Marks.TheInside.{Inside}
use Rattle.rx_event.specs.Marks.{Marks}

-- two flags in one word
abbrev pub two_of : Bool → Bool → Two
two_of false false = Two.Neither
two_of true false = Two.First
two_of false true = Two.Second
two_of true true = Two.Both

abbrev pub first_in : Two → Bool
first_in Two.Neither = false
first_in Two.First = true
first_in Two.Second = false
first_in Two.Both = true

abbrev pub second_in : Two → Bool
second_in Two.Neither = false
second_in Two.First = false
second_in Two.Second = true
second_in Two.Both = true

-- how a child ended, without the code of an error
abbrev pub end_word : Option Terminal → EndWord
end_word None = EndWord.Unended
end_word (Some Completed) = EndWord.Completed
end_word (Some (Error code)) = EndWord.Error

-- the code of an error, 0 where there is none
abbrev pub code_in : Option Terminal → ℕ
code_in (Some (Error code)) = code
code_in _ = 0

-- the end of a word and a code
abbrev pub terminal_at : EndWord → ℕ → Option Terminal
terminal_at EndWord.Unended code = None
terminal_at EndWord.Completed code = Some Completed
terminal_at EndWord.Error code = Some (Error code)

-- what the words and the numbers tell
abbrev pub marks_in : Inside → Marks
marks_in i =
    record {
      source_opened = first_in i.source;
      notifier_opened = first_in i.notifier;
      fired = second_in i.notifier;
      source_completed = second_in i.source;
      child_terminal = terminal_at i.ended i.code;
      owed = i.owed;
      open_children = i.open_children;
    }

-- there is no code but that of an error
abbrev pub IsPlain : Inside → Type 0
IsPlain i = code_in (terminal_at i.ended i.code) ≡ i.code

-- the words of what a node remembers
abbrev pub words_of : Marks → Inside
words_of m =
    record {
      owed = m.owed;
      open_children = m.open_children;
      code = code_in m.child_terminal;
      ended = end_word m.child_terminal;
      source = two_of m.source_opened m.source_completed;
      notifier = two_of m.notifier_opened m.fired;
    }

-- which are those that it was told by -------------------------------------------------------------

two_back : (w : Two) → two_of (first_in w) (second_in w) ≡ w
two_back Two.Neither = refl
two_back Two.First = refl
two_back Two.Second = refl
two_back Two.Both = refl

end_back : (w : EndWord) (code : ℕ) → end_word (terminal_at w code) ≡ w
end_back EndWord.Unended code = refl
end_back EndWord.Completed code = refl
end_back EndWord.Error code = refl

pub words_back : (i : Inside) → IsPlain i → words_of (marks_in i) ≡ i
words_back i plain = λ k. record {
  owed = i.owed;
  open_children = i.open_children;
  code = plain k;
  ended = end_back i.ended i.code k;
  source = two_back i.source k;
  notifier = two_back i.notifier k;
}
