-- What a window keeps through each change.
use Rattle.bd_buffers.proofs.Words.{All, All-push, All_remove, AreNoted, AreStarts, AreSums, Bool, Buffer, IfSome, IsApart, IsInBudget, IsPlaced, IsTrue, IsWindow, IsWithout, List, None, Ok, Option, Some, WordMap, all_pairs_push, all_pairs_remove, ap, arith, at_pointer, buffer_in, by_key, changed, common_steps}
use Rattle.bd_buffers.proofs.Words.{cond, eq-eqb, eqb-true, false, filter, find, found_has, get_or, hand_out, is_made_at, kept, length, needed, none_found, noted, one_way_from, one_way_share, one_way_size, pointer, refl, remove, share_from, slice_index, start_for, sum_at, sum_by, sum_by-cons, sym, ℕ, [], ◌%◌}
use Rattle.bd_buffers.proofs.Words.{◌&&◌, ◌++◌, ◌+◌, ◌-◌, ◌/◌, ◌<◌, ◌==◌, ◌∙◌, ◌∷◌, ◌≡◌, ◌≤◌}
use Rattle.bd_buffers.proofs.{Made.{All_changed, pairs_changed}, Places.{given_says}}

-- ---- what those that pass take

module _ (pass : Buffer → Bool) where
  abbrev pub share : Buffer → ℕ
  share b = cond (pass b) b.size 0

  abbrev pub total : List Buffer → ℕ
  total bs = sum_by (λ b. b.size) (filter pass bs)

  pub share_within : (b : Buffer) → share b ≤ b.size
  share_within b = grind arith

  pub total_cons : (b : Buffer) (bs : List Buffer) → total (b ∷ bs) ≡ share b + total bs
  total_cons b bs = grind (arith, common_steps, sum_by-cons)

  pub total_push : (bs : List Buffer) (b : Buffer) → total (bs ++ b ∷ []) ≡ total bs + share b
  total_push bs b = grind (arith, common_steps)

  pub total_handed : ((b : Buffer) → pass (hand_out b) ≡ pass b) → (p : Buffer → Bool) (bs : List Buffer) → total (changed p hand_out bs) ≡ total bs
  total_handed same p [] = refl
  total_handed same p (x ∷ bs) = grind (arith, total_cons, total_handed same p bs)

  pub total_removed : (bs : List Buffer) (i : ℕ) (d : Buffer) → i < length bs → total (remove bs i) + share (get_or bs i d) ≡ total bs
  total_removed [] i d lt = absurd (omega arith)
  total_removed (x ∷ bs) i d lt = let rest = total_removed bs in let one = total_cons x bs in grind (arith, total_cons)

abbrev pub is_one_way : Buffer → Bool
is_one_way b = b.one_way

-- ---- the window

pub window_empty : (size : ℕ) → size % 8 ≡ 0 → size ≤ 4194304 → IsWindow size []
window_empty size whole small = search arith

placed : (size : ℕ) (b : Buffer) → b.start % 8 ≡ 0 → b.size ≡ needed (length b.bytes) (length b.offsets) → b.start + b.size ≤ size → IsPlaced size b
placed size b aligned sized inside = search arith

in_budget : (size : ℕ) (bs : List Buffer) (b : Buffer) → IsInBudget size bs 0 → (IsTrue b.one_way → IsInBudget size bs b.size) → IsInBudget size (bs ++ b ∷ []) 0
in_budget size bs b old more = let pushed = total_push is_one_way bs b in grind arith

pub window_push : (size : ℕ) (bs : List Buffer) (b : Buffer) → IsWindow size bs → All (λ x. x.made < b.made) bs → b.size ≡ needed (length b.bytes) (length b.offsets)
    → start_for size bs b.one_way b.size ≡ Ok b.start → IsWindow size (bs ++ b ∷ [])
window_push size bs b is newest sized place =
    let given = given_says size bs b.one_way b.size b.start place in
    let budget = in_budget size bs b is.budget given.budget in
    search (arith, all_pairs_push, All-push, placed)

-- where one buffer ends
pub window_removed : (size i : ℕ) (bs : List Buffer) (d : Buffer) → IsWindow size bs → i < length bs → IsWindow size (remove bs i)
window_removed size i bs d is lt = let less = total_removed is_one_way bs i d lt in search (arith, all_pairs_remove, All_remove)

handed_placed : (size : ℕ) (b : Buffer) → IsPlaced size b → IsPlaced size (hand_out b)
handed_placed size b is = search arith

pub window_handed : (size : ℕ) (p : Buffer → Bool) (bs : List Buffer) → IsWindow size bs → IsWindow size (changed p hand_out bs)
window_handed size p bs is = let same = total_handed is_one_way (λ b. refl) p bs in search (arith, All_changed, pairs_changed, handed_placed)

-- ---- what is so of each live buffer

-- of a window of at most the greatest size
pub found_placed : (size : ℕ) (q : Buffer → Bool) (bs : List Buffer) (r : Option Buffer) → IsWindow size bs → r ≡ find q bs → IfSome r (λ b. IsPlaced 4194304 b)
found_placed size q bs None is e = tt
found_placed size q bs (Some b) is e = let placed = (found_has q (IsPlaced size) bs b (sym e) is.placed).0 in let small = is.small in search arith

-- ---- how much the one-way buffers of each sender take

-- a one-way call of this sender
abbrev pub sent_by : ℕ → Buffer → Bool
sent_by m b = b.one_way && (b.sender == m)

-- where one buffer ended
pub from_without : (m : ℕ) (b : Buffer) (bs new : List Buffer) → IsWithout b bs new → one_way_from new m + share_from m b ≡ one_way_from bs m
from_without m b bs new gone = let less = total_removed (sent_by m) bs gone.index b gone.within in let own = gone.at b in let rest = gone.left in grind arith

-- ---- one sender's are no more than all

pub from_within : (m : ℕ) (bs : List Buffer) → one_way_from bs m ≤ one_way_size bs
from_within m [] = omega arith
from_within m (x ∷ bs) = let rest = from_within m bs in let own = total_cons (sent_by m) x bs in let all = total_cons is_one_way x bs in grind arith

-- ---- sums as they are noted

-- the sum of each sender
pub at_sender : (sums : WordMap ℕ) (f : ℕ → ℕ) → AreNoted sums f → (m : ℕ) → sum_at sums m ≡ f m
at_sender sums f is m = let noted = is m in grind (arith, eqb-true)

-- ---- the sums of a window

pub sums_pushed : (bs : List Buffer) (b : Buffer) (sums : WordMap ℕ) → AreNoted sums (λ m. one_way_from bs m + share_from m b) → AreSums (bs ++ b ∷ []) sums
sums_pushed bs b sums is = λ m. is m ∙ ap noted (sym (total_push (sent_by m) bs b))

pub sums_handed : (p : Buffer → Bool) (bs : List Buffer) (sums : WordMap ℕ) → AreSums bs sums → AreSums (changed p hand_out bs) sums
sums_handed p bs sums is = λ m. is m ∙ ap noted (sym (total_handed (sent_by m) (λ b. refl) p bs))

pub sums_without : (b : Buffer) (bs new : List Buffer) (sums : WordMap ℕ) → IsWithout b bs new → AreSums bs sums → AreNoted sums (λ m. one_way_from new m + share_from m b)
sums_without b bs new sums gone is = λ m. is m ∙ ap noted (sym (from_without m b bs new gone))

-- a live buffer's share is in its sender's sum
pub share_there : (b : Buffer) (bs new : List Buffer) (sums : WordMap ℕ) → IsWithout b bs new → AreSums bs sums → one_way_share b ≤ sum_at sums b.sender
share_there b bs new sums gone is =
    let sum = at_sender sums (one_way_from bs) is b.sender in let less = from_without b.sender b bs new gone in grind (arith, eq-eqb)

-- ---- each buffer is found by where it begins

-- buffers that lie apart begin with different units
units_differ : (p n size : ℕ) (b : Buffer) → p % 8 ≡ 0 → 0 < n → IsPlaced size b → IsApart p n b → b.start / 8 ≡ p / 8 → ⊥
units_differ p n size b aligned pos placed h e = search arith

-- a buffer comes
pub starts_noted : (size : ℕ) (bs : List Buffer) (b : Buffer) (old new : List ℕ) → IsWindow size bs → AreStarts bs old → b.start % 8 ≡ 0 → 0 < b.size → All (IsApart b.start b.size) bs
    → slice_index new (b.start / 8) ≡ b.made → ((j : ℕ) → (j ≡ b.start / 8 → ⊥) → slice_index new j ≡ slice_index old j) → AreStarts (bs ++ b ∷ []) new
starts_noted size bs b old new window are aligned full apart at others = grind (arith, common_steps, All-push, units_differ)

-- the buffer that has a pointer is the one that was made where it is noted, if it has it
pub by_start : (size p : ℕ) (bs : List Buffer) (starts : List ℕ) (o : Option Buffer) → IsWindow size bs → AreStarts bs starts
    → o ≡ buffer_in bs (slice_index starts ((p - 65536) / 8)) → kept (at_pointer p) o ≡ find (at_pointer p) bs
by_start size p bs starts o window are e = at (find (at_pointer p) bs) refl
  where
    m : ℕ
    m = slice_index starts ((p - 65536) / 8)

    at : (r : Option Buffer) → find (at_pointer p) bs ≡ r → kept (at_pointer p) o ≡ r
    at None f = let none = none_found (at_pointer p) bs f in let has = found_has (is_made_at m) (λ x. at_pointer p x ≡ false) bs in grind arith
    at (Some b) f =
        let has = found_has (at_pointer p) (λ x. slice_index starts (x.start / 8) ≡ x.made) bs b f are in
        let here = eqb-true (pointer b) p has.1 in
        let unit : (p - 65536) / 8 ≡ b.start / 8 = omega arith in
        let found = by_key (λ (x : Buffer). x.made) (at_pointer p) bs m window.in_order in
        grind arith
