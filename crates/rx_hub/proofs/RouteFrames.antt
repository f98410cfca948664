-- The frames of a way: how many there may be, and how it goes on over them.
use Rattle.rx_hub.proofs.Common.{◌≡◌, ℕ, suc, ◌+◌, ◌<◌, ◌≤◌, ◌==◌, ◌||◌, ◌++◌, cond, Bool, true, false, List, [], ◌∷◌, length, Option, Some, None, refl}
use Rattle.rx_hub.proofs.Common.{option_map, sym, ap, ◌∙◌, arith, nat_lt, cons_option, option_map_or, false≢true, nat_tests, same_Some, none-some, Key}
use Rattle.rx_hub.proofs.Common.{is_key, is_on, first_of, key_is, Frame, Hub, Hubs, IsPromised, find_hub, key_after, AreAbove, Rises, keys_from, frame_keys}
use Rattle.rx_hub.proofs.Common.{after_frames, IsFrame, IsBehind, AreFrames, GoesOn}
use Rattle.rx_hub.proofs.Laws.Walks.{found_hub}
use Rattle.std.proofs.Common.{rules}

-- keys from one on ----------------------------------------------------------------------------------

is_key-itself : (k : Key) → is_key k k ≡ true
is_key-itself k = search (rules, nat_tests)

older : (a b : Key) → b.number < a.number → is_key a b ≡ false
older a b l = search (rules, nat_tests)

above_on : (n : ℕ) (keys : List Key) (key : Key) → AreAbove n keys → is_on key keys ≡ true → n < key.number
above_on n [] key above on = absurd (false≢true on)
above_on n (k ∷ ks) key above on = search (rules, key_is, above_on n ks key above.1)

pub next_on : (key next : Key) (keys : List Key) → key_after key keys ≡ Some next → is_on next keys ≡ true
next_on key next [] e = absurd (none-some next e)
next_on key next (k ∷ ks) e = search (rules, none-some, same_Some, is_key-itself, next_on key next ks)

-- a key, and then the next one with what follows it
from_next : (key : Key) (keys : List Key) → Rises keys → is_on key keys ≡ true →
    keys_from key keys ≡ key ∷ option_map_or (λ (k : Key). keys_from k keys) (key_after key keys) []
from_next key [] rises on = absurd (false≢true on)
from_next key (x ∷ xs) rises on = by_test (is_key key x) refl on (from_next key xs rises.1) where
  past : (k : Key) → is_on k xs ≡ true → cond (is_key k x) (x ∷ xs) (keys_from k xs) ≡ keys_from k xs
  past k there = ap (λ b. cond b (x ∷ xs) (keys_from k xs)) (older k x (above_on x.number xs k rises.0 there))

  at_first : (ys : List Key) → AreAbove x.number ys → ys ≡ option_map_or (λ (k : Key). cond (is_key k x) (x ∷ ys) (keys_from k ys)) (first_of ys) []
  at_first [] above = refl
  at_first (y ∷ ys) above = sym (search (rules, older, is_key-itself))

  by_after : (o : Option Key) → key_after key xs ≡ o →
      option_map_or (λ (k : Key). keys_from k xs) o [] ≡ option_map_or (λ (k : Key). cond (is_key k x) (x ∷ xs) (keys_from k xs)) o []
  by_after None after = refl
  by_after (Some k) after = sym (past k (next_on key k xs after))

  by_test : (b : Bool) → is_key key x ≡ b → (b || is_on key xs) ≡ true →
      (is_on key xs ≡ true → keys_from key xs ≡ key ∷ option_map_or (λ (k : Key). keys_from k xs) (key_after key xs) []) →
      cond b (x ∷ xs) (keys_from key xs) ≡
      key ∷ option_map_or (λ (k : Key). cond (is_key k x) (x ∷ xs) (keys_from k xs)) (cond b (first_of xs) (key_after key xs)) []
  by_test true e here later = λ i. sym (key_is key x e) i ∷ at_first xs rises.0 i
  by_test false e there later = later there ∙ ap (λ (ks : List Key). key ∷ ks) (by_after (key_after key xs) refl)

-- the first of a list, with what follows it, is the list
pub from_first : (keys : List Key) → option_map_or (λ (k : Key). keys_from k keys) (first_of keys) [] ≡ keys
from_first x0 = search (rules, is_key-itself)

-- how many frames there may be ------------------------------------------------------------------------

abbrev count_before : List Hub → ℕ → ℕ
count_before [] n = 0
count_before (hub ∷ hubs) n = cond (nat_lt hub.number n) 1 0 + count_before hubs n

one_before : (a b c : ℕ) → b ≤ c → cond (nat_lt a b) 1 0 ≤ cond (nat_lt a c) 1 0
one_before a b c l = grind (arith, nat_tests, l)

count_more : (hubs : List Hub) (a b : ℕ) → a ≤ b → count_before hubs a ≤ count_before hubs b
count_more [] a b l = omega arith
count_more (hub ∷ hubs) a b l = search (rules, one_before, count_more hubs a b l)

count_all : (hubs : List Hub) (n : ℕ) → count_before hubs n ≤ length hubs
count_all [] n = omega arith
count_all (hub ∷ hubs) n = let rest = count_all hubs n in search (rules, count_before)

count_there : (hubs : List Hub) (g n : ℕ) (hub : Hub) → find_hub hubs g ≡ Some hub → g < n → count_before hubs g + 1 ≤ count_before hubs n
count_there [] g n hub found l = absurd (none-some hub found)
count_there (x ∷ hubs) g n hub found l = by_test (x.number == g) refl found (λ there. count_there hubs g n hub there l) where
  by_test : (b : Bool) → (x.number == g) ≡ b → cond b (Some x) (find_hub hubs g) ≡ Some hub →
      (find_hub hubs g ≡ Some hub → count_before hubs g + 1 ≤ count_before hubs n) →
      cond (nat_lt x.number g) 1 0 + count_before hubs g + 1 ≤ cond (nat_lt x.number n) 1 0 + count_before hubs n
  by_test true e here later =
      let rest = count_more hubs g n (omega (arith, l)) in
      let before : ◌≡◌ {A = ℕ} (cond (nat_lt x.number g) 1 0) 0 = grind (arith, nat_tests, e) in
      let after : ◌≡◌ {A = ℕ} (cond (nat_lt x.number n) 1 0) 1 = grind (arith, nat_tests, e, l) in omega (arith, rest, before, after)
  by_test false e there later = let rest = later there in let here = one_before x.number g n (omega (arith, l)) in omega (arith, rest, here)

frames_fit : (hubs : List Hub) (frames : List Frame) (n : ℕ) → AreFrames hubs frames → IsBehind n frames → length frames ≤ count_before hubs n
frames_fit hubs [] n are behind = omega arith
frames_fit hubs (f ∷ frames) n are behind =
    let rest = frames_fit hubs frames f.hub are.2 are.1 in
    let own = are.0 in
    let here = count_there hubs f.hub n own.hub own.there behind in omega (arith, rest, here)

-- where a frame's hub comes after all others, there is room for it
pub frame_fits : (hubs : List Hub) (frames : List Frame) (frame : Frame) → AreFrames hubs frames →
    IsFrame hubs frame → IsBehind frame.hub frames → length frames < length hubs
frame_fits hubs frames frame are is behind = search (rules, frames_fit, count_there, count_all)

-- how it goes on ----------------------------------------------------------------------------------------

pub behind_later : (frames : List Frame) (a b : ℕ) → a ≤ b → IsBehind a frames → IsBehind b frames
behind_later x0 a b l behind = search rules

-- the frame of the next younger subscriber, if there is one
abbrev pub next_frame : Frame → Option Key → List Frame → List Frame
next_frame frame next frames = cons_option (option_map (λ (k : Key). record { hub = frame.hub; key = k }) next) frames

-- from a subscriber, and after it from the next
pub turned : {s : Hubs} → IsPromised s → (frames : List Frame) (frame : Frame) (next : Option Key) → IsFrame s.hubs frame → IsBehind frame.hub frames →
    AreFrames s.hubs frames →
    ((n : ℕ) (h : Hub) → find_hub s.hubs n ≡ Some h → is_on frame.key h.subscribers ≡ true → next ≡ key_after frame.key h.subscribers) →
    GoesOn s.hubs frames (next_frame frame next frames) (Some frame) (Some frame.key)
turned {s} p frames frame next is behind are follows = by_next next (follows frame.hub is.hub is.there is.subscribes) where
  hub : Hub
  hub = is.hub

  keys_in : (key : Key) → frame_keys s.hubs (record { hub = frame.hub; key = key }) ≡ keys_from key hub.subscribers
  keys_in key = ap (λ (o : Option Hub). option_map_or (λ (h : Hub). keys_from key h.subscribers) o []) is.there

  rises : Rises hub.subscribers
  rises = let r = found_hub s.hubs frame.hub hub is.there in p.rises r.0 hub r.1.0

  split : (o : Option Key) → o ≡ key_after frame.key hub.subscribers →
      keys_from frame.key hub.subscribers ≡ frame.key ∷ option_map_or (λ (k : Key). keys_from k hub.subscribers) o []
  split o same = from_next frame.key hub.subscribers rises is.subscribes ∙
      ap (λ (x : Option Key). frame.key ∷ option_map_or (λ (k : Key). keys_from k hub.subscribers) x []) (sym same)

  by_next : (o : Option Key) → o ≡ key_after frame.key hub.subscribers → GoesOn s.hubs frames (next_frame frame o frames) (Some frame) (Some frame.key)
  by_next None same = record {
    turn = record { hub = frame.hub; frame = is; behind = behind_later frames frame.hub (suc frame.hub) (omega arith) behind };
    frames = are;
    todo = sym (ap (λ (ks : List Key). ks ++ after_frames s.hubs frames) (keys_in frame.key ∙ split None same));
    ended = tt;
  }
  by_next (Some k) same = record {
    turn = record { hub = frame.hub; frame = is; behind = omega arith };
    frames = (record { hub = hub; there = is.there; subscribes = next_on frame.key k hub.subscribers (sym same) }, behind, are);
    todo = sym (ap (λ (ks : List Key). ks ++ after_frames s.hubs frames)
        (keys_in frame.key ∙ split (Some k) same ∙ ap (λ (ks : List Key). frame.key ∷ ks) (sym (keys_in k))));
    ended = tt;
  }
