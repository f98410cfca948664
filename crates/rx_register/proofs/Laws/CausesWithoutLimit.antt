-- The causes against a call, but for its limit.
use Rattle.std.proofs.Common.{◌≡◌, ℕ, ◌+◌, Bool, false, List, length, None, refl, arith, rules}
use Rattle.std.proofs.lemmas.Bool.{le-ltb}
use Rattle.rx_event.specs.declared.event.Event.{Event}
use Rattle.rx_event.specs.declared.refusal.Refusal.{Refusal}
use Rattle.rx_event.specs.declared.refusal.Refusal.TheVariants.{Full, NoMemory}
use Rattle.rx_event.specs.Kept.{Kept}
use Rattle.rx_event.specs.Totals.{debt}
use Rattle.rx_event.specs.Calls.{Call, Opening, OpeningUsing, Holding, Applying, Leasing, Emitting, Publishing, Connecting}
use Rattle.rx_event.specs.Refusals.{first_cause}
use Rattle.rx_event.specs.Causes.{causes, unlimited, added_by, is_over}

-- no row has want of memory
pub never_NoMemory : (base : Kept) → (h : List Event) (limit : ℕ) (fresh : Bool) (call : Call) → causes base h limit fresh call NoMemory ≡ false
never_NoMemory base h limit fresh x4 = search rules

-- but for room the limit does not matter
pub any_limit : (base : Kept) → (h : List Event) (l m : ℕ) (fresh : Bool) (call : Call) (why : Refusal) →
    unlimited (causes base h l fresh call) why ≡ unlimited (causes base h m fresh call) why
any_limit base h l m fresh x5 x6 = search rules

-- a limit that the call does not reach
pub limit_for : Kept → List Event → Call → ℕ
limit_for base h call = length h + debt base h + added_by h call

not_over : (base : Kept) → (h : List Event) (limit more : ℕ) → limit ≡ length h + debt base h + more → is_over base h limit more ≡ false
not_over base h limit more is = le-ltb (base.at_length + limit) (length h + debt base h + more) (omega (arith, is))

pub has_room : (base : Kept) → (h : List Event) (fresh : Bool) (call : Call) → causes base h (limit_for base h call) fresh call Full ≡ false
unfolding limit_for
has_room base h fresh (Opening place kind) = not_over base h _ (added_by h (Opening place kind)) refl
has_room base h fresh (OpeningUsing place tag) = not_over base h _ (added_by h (OpeningUsing place tag)) refl
has_room base h fresh (Holding n tag) = not_over base h _ (added_by h (Holding n tag)) refl
has_room base h fresh (Applying r) = not_over base h _ (added_by h (Applying r)) refl
has_room base h fresh (Leasing r) = not_over base h _ (added_by h (Leasing r)) refl
has_room base h fresh (Emitting l v) = not_over base h _ (added_by h (Emitting l v)) refl
has_room base h fresh (Publishing mode) = not_over base h _ (added_by h (Publishing mode)) refl
has_room base h fresh (Connecting g) = not_over base h _ (added_by h (Connecting g)) refl
has_room base h fresh _ = refl

-- which causes stand decides which stands first
pub first_cause-same : (p q : Refusal → Bool) → ((why : Refusal) → p why ≡ q why) → first_cause p ≡ first_cause q
first_cause-same p q same = λ i. first_cause (λ why. same why i)

-- where none stands there is no first one
pub none_first : (stands : Refusal → Bool) → ((why : Refusal) → stands why ≡ false) → first_cause stands ≡ None
none_first stands none = first_cause-same stands (λ why. false) none

-- where there is room, the limit changes nothing
pub unlimited_room : (stands : Refusal → Bool) → stands Full ≡ false → (why : Refusal) → stands why ≡ unlimited stands why
unlimited_room stands room Full = room
unlimited_room stands room _ = refl
