-- What stands behind a value that was made of options.
use Rattle.rx_script.proofs.Common.{◌≡◌, ◌||◌, Option, Some, is_none, option_map, option_and_then, none-some, same_Some}
use Rattle.std.proofs.Common.{rules}

pub made_of : {A B : Type 0} (f : A → B) (o : Option A) (b : B) → option_map f o ≡ Some b → (a : A) × (o ≡ Some a) × (f a ≡ b)
made_of f x1 b is = search (rules, none-some, same_Some)

pub made_of_two : {A B C : Type 0} (f : A → B → C) (o : Option A) (p : Option B) (c : C) → option_and_then (λ a. option_map (f a) p) o ≡ Some c
    → (a : A) × (b : B) × (o ≡ Some a) × (p ≡ Some b) × (f a b ≡ c)
made_of_two f x1 p c is = search (rules, none-some, same_Some)

-- there is none just where one of them is none
pub is_none-map : {A B : Type 0} (f : A → B) (o : Option A) → is_none (option_map f o) ≡ is_none o
is_none-map f x1 = search rules

pub is_none-two : {A B C : Type 0} (f : A → B → C) (o : Option A) (p : Option B)
    → is_none (option_and_then (λ a. option_map (f a) p) o) ≡ (is_none o || is_none p)
is_none-two f x1 p = search rules
