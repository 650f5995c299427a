-- The bits of words, the marks of seats, and the word of the ready seats.
use Rattle.std.proofs.Common.{◌≡◌, ℕ, zero, suc, ◌+◌, ◌-◌, ◌*◌, ◌%◌, ◌^◌, ◌<◌, ◌≤◌, ◌==◌, ◌||◌, Bool, true, false, not, cond, List, Some, None, length, get_or, set, replicate, IfSome, arith, refl, sym, ap, ◌∙◌, eqb-true, eq-eqb, ne_eqb, ◌&&◌, [], ◌∷◌, bit_and, bit_or, pow_pos, pow_mono, w32, ⊎_elim, ◌⊎◌, inl, inr}
use Rattle.std.proofs.{lemmas.Bool.{eqb-false, cases_lt, false≢true}, lemmas.List.{get_or-set_same, get_or-set_other}, Math.Nat.{two-pow-succ}}
use Rattle.std.proofs.lemmas.Nat.Bits.{bit_at_set_same, bit_at_set_other, bit_at_clear_same, bit_at_clear_other, bit_at_and, bit_at_not, bit_at-zero, bit_at-lt, bit_at_ones, bit_at_ones_above, bit_at_above, bit_at_cat_low, bit_at_cat_high, same_from_bits_below}
use Rattle.std.specs.{Int.{bit_at, bit_not}, Option.{is_none}, Prelude.{Option}}
use Rattle.bd_ways.specs.Words.{Thread, Frame, Space, is_some_and}
use Rattle.bd_space.specs.{Frames.{innermost_in}, Histories.{is_ready, ready_below}, ReadItems.{none_due}, Todo.{has_work_in, list_to_read}}
use Rattle.bd_calls.specs.{declared.seen.Seen.{Seen}, Marked.{is_known, may_read, AreKnown, AreMarked}, Ready.{IsSeen}}
use Rattle.bd_calls.proofs.Seats.{seen_ready}

-- one bit is set, and one is cleared
pub bit_set : (word k i : ℕ) → k < 32 → i < 32 → bit_at (bit_or word (1 * 2 ^ k % 2 ^ 32)) i ≡ cond (i == k) 1 (bit_at word i)
bit_set word k i within low = by (i == k) refl
  where
    by : (b : Bool) → (i == k) ≡ b → bit_at (bit_or word (1 * 2 ^ k % 2 ^ 32)) i ≡ cond b 1 (bit_at word i)
    by true e = ap (bit_at (bit_or word (1 * 2 ^ k % 2 ^ 32))) (eqb-true i k e) ∙ bit_at_set_same w32 word k within
    by false e = bit_at_set_other w32 word k within i (eqb-false i k e)

pub bit_cleared : (word k i : ℕ) → k < 32 → i < 32 → bit_at (bit_and word (bit_not w32 (1 * 2 ^ k % 2 ^ 32))) i ≡ cond (i == k) 0 (bit_at word i)
bit_cleared word k i within low = by (i == k) refl
  where
    by : (b : Bool) → (i == k) ≡ b → bit_at (bit_and word (bit_not w32 (1 * 2 ^ k % 2 ^ 32))) i ≡ cond b 0 (bit_at word i)
    by true e = ap (bit_at (bit_and word (bit_not w32 (1 * 2 ^ k % 2 ^ 32)))) (eqb-true i k e) ∙ bit_at_clear_same w32 word k within
    by false e = bit_at_clear_other w32 word k within i low (eqb-false i k e)

-- what a choice by a bit's place comes to there, and beside it
pub at_bit : (i k x y : ℕ) → i ≡ k → cond (i == k) x y ≡ x
at_bit i k x y e = ap (λ b. cond b x y) (eq-eqb i k e)

pub beside_bit : (i k x y : ℕ) → (i ≡ k → ⊥) → cond (i == k) x y ≡ y
beside_bit i k x y e = ap (λ b. cond b x y) (ne_eqb i k e)

-- the lowest bits of a word
pub one_up : (k : ℕ) → k < 32 → 1 * 2 ^ k % 2 ^ 32 ≡ 2 ^ k
one_up k within =
    let small : 2 ^ k < 2 ^ 32 = omega (arith, two-pow-succ k, pow_pos k, pow_mono {i = suc k} {j = 32} (omega arith)) in
    omega arith

pub low_kept : (word count i : ℕ) → i < count → bit_at (bit_and word (2 ^ count - 1)) i ≡ bit_at word i
low_kept word count i l = omega (arith, bit_at_and word (2 ^ count - 1) i, bit_at_ones count i l)

pub low_only : (word count i : ℕ) → bit_at (bit_and word (2 ^ count - 1)) i ≡ 1 → i < count
low_only word count i set =
    ⊎_elim (λ l. l) (λ ge. absurd (omega (arith, bit_at_and word (2 ^ count - 1) i, bit_at_ones_above count i ge))) (cases_lt i count)

-- ---- the marks of seats

-- a seat's bit, by what is kept of it
abbrev one_if : Bool → ℕ
one_if b = cond b 1 0

abbrev bit_of : Option Seen → ℕ
bit_of o = one_if (may_read o)

-- nothing is kept of any seat, and each is marked
pub all_marked : (seats : List (Option Seen)) → ((i : ℕ) → get_or seats i None ≡ None) → AreMarked seats (2 ^ 32 - 1)
all_marked seats none i low = bit_at_ones 32 i low ∙ ap bit_of (sym (none i))

abbrev nothing : Option Seen
nothing = None

pub none_kept : (n i : ℕ) → get_or (replicate n nothing) i None ≡ None
none_kept zero i = refl
none_kept (suc n) zero = refl
none_kept (suc n) (suc i) = none_kept n i

-- nothing is kept of any seat, and none is known
pub none_known : (seats : List (Option Seen)) → ((i : ℕ) → get_or seats i None ≡ None) → AreKnown seats 0
none_known seats none i low = bit_at-zero i ∙ ap (λ o. one_if (is_known o)) (sym (none i))

-- what is kept of a seat changes, and its bit in a word of what is so of the seats
pub told_with : (f : Option Seen → Bool) (seats : List (Option Seen)) (at : ℕ) (seen : Option Seen) (word new : ℕ) → at < length seats
    → ((i : ℕ) → i < 32 → bit_at word i ≡ cond (f (get_or seats i None)) 1 0) → ((i : ℕ) → i < 32 → bit_at new i ≡ cond (i == at) (cond (f seen) 1 0) (bit_at word i))
    → (i : ℕ) → i < 32 → bit_at new i ≡ cond (f (get_or (set seats at seen) i None)) 1 0
told_with f seats at seen word new inside told bits i low = by (i == at) refl
  where
    bit : Option Seen → ℕ
    bit o = one_if (f o)

    by : (b : Bool) → (i == at) ≡ b → bit_at new i ≡ cond (f (get_or (set seats at seen) i None)) 1 0
    by true e =
        bits i low ∙ ap (λ b. cond b (cond (f seen) 1 0) (bit_at word i)) e
        ∙ ap bit (sym (ap (λ n. get_or (set seats at seen) n None) (eqb-true i at e) ∙ get_or-set_same seats at seen None inside))
    by false e =
        bits i low ∙ ap (λ b. cond b (cond (f seen) 1 0) (bit_at word i)) e ∙ told i low
        ∙ ap bit (sym (get_or-set_other seats at i seen None (eqb-false i at e)))

-- ---- the word of the ready seats

below_small : (s : Space) (n : ℕ) → ready_below s n < 2 ^ n
below_small s zero = omega arith
below_small s (suc n) = by (is_ready s n) (below_small s n)
  where
    by : (b : Bool) → ready_below s n < 2 ^ n → ready_below s n + cond b (2 ^ n) 0 < 2 ^ suc n
    by true small = omega (arith, small, two-pow-succ n)
    by false small = omega (arith, small, two-pow-succ n)

below_bit : (s : Space) (n i : ℕ) → i < n → bit_at (ready_below s n) i ≡ cond (is_ready s i) 1 0
below_bit s zero i l = absurd (omega arith)
below_bit s (suc n) i l = at (below_bit s n i) (cases_lt i n) (is_ready s n) refl
  where
    at : (i < n → bit_at (ready_below s n) i ≡ cond (is_ready s i) 1 0) → (i < n) ⊎ (n ≤ i) → (b : Bool) → is_ready s n ≡ b
        → bit_at (ready_below s n + cond b (2 ^ n) 0) i ≡ cond (is_ready s i) 1 0
    at low (inl lt) true e =
        let sum : ready_below s n + 2 ^ n ≡ 1 * 2 ^ n + ready_below s n = omega arith in
        ap (λ x. bit_at x i) sum ∙ bit_at_cat_low 1 n (ready_below s n) i lt ∙ low lt
    at low (inl lt) false e =
        let sum : ready_below s n + 0 ≡ ready_below s n = omega arith in
        ap (λ x. bit_at x i) sum ∙ low lt
    at low (inr ge) true e =
        let same : i ≡ n = omega arith in
        let sum : ready_below s n + 2 ^ n ≡ 1 * 2 ^ n + ready_below s n = omega arith in
        let none : i - n ≡ 0 = omega arith in
        ap (λ x. bit_at x i) sum ∙ bit_at_cat_high 1 n (ready_below s n) i (below_small s n) ge ∙ ap (bit_at 1) none
        ∙ ap (λ b. cond b 1 0) (sym (ap (is_ready s) same ∙ e))
    at low (inr ge) false e =
        let same : i ≡ n = omega arith in
        let sum : ready_below s n + 0 ≡ ready_below s n = omega arith in
        ap (λ x. bit_at x i) sum ∙ bit_at_above (ready_below s n) n i (below_small s n) ge ∙ ap (λ b. cond b 1 0) (sym (ap (is_ready s) same ∙ e))

-- a word is that of the ready seats by its bits
pub is_ready_word : (s : Space) (seats word : ℕ) → seats ≤ 31 → word < 2 ^ 32 → ((i : ℕ) → i < seats → bit_at word i ≡ cond (is_ready s i) 1 0)
    → ((i : ℕ) → i < 32 → seats ≤ i → bit_at word i ≡ 0) → word ≡ ready_below s seats
is_ready_word s seats word few fits bits beyond = same_from_bits_below 32 word (ready_below s seats) fits small each
  where
    small : ready_below s seats < 2 ^ 32
    small = omega (arith, below_small s seats, pow_mono {i = seats} {j = 32} (omega arith))

    each : (i : ℕ) → i < 32 → bit_at word i ≡ bit_at (ready_below s seats) i
    each i low = at (cases_lt i seats)
      where
        at : (i < seats) ⊎ (seats ≤ i) → bit_at word i ≡ bit_at (ready_below s seats) i
        at (inl lt) = bits i lt ∙ sym (below_bit s seats i lt)
        at (inr ge) = beyond i low ge ∙ sym (bit_at_above (ready_below s seats) seats i (below_small s seats) ge)

-- a word of 32 bits whose last isn't set
pub has_31_bits : (word : ℕ) → word < 2 ^ 32 → bit_at word 31 ≡ 0 → word < 2 ^ 31
has_31_bits word fits last = omega arith

-- whether a seat that has a thread may have something to read
may_read_by : (x : Seen) (t : Thread) (b : Bool) → x.thread ≡ Some t → may_read (Some x) ≡ b → (x.own || (x.shared && t.looping)) ≡ b
may_read_by x t b is may = sym (ap (λ o. is_some_and o (λ u. x.own || (x.shared && u.looping))) is) ∙ may

-- a seat whose thread has nothing to read isn't ready
pub quiet : (s : Space) (seat : ℕ) (x : Seen) → IsSeen s.threads (has_work_in s.todo) seat x → may_read (Some x) ≡ false → is_ready s seat ≡ false
unfolding list_to_read
quiet s seat x seen none = at x.thread refl
  where
    at : (o : Option Thread) → x.thread ≡ o → is_ready s seat ≡ false
    at None e = ap (λ o. is_some_and o (λ t. not (none_due (list_to_read s t)))) (sym seen.thread ∙ e)
    at (Some t) e = grind (arith, may_read_by x t false e none, seen_ready s.frames s.threads s.todo seat x t e seen)

-- where no call is open, one that may have something to read is ready
loud : (s : Space) (seat : ℕ) (x : Seen) → length s.frames ≡ 0 → IsSeen s.threads (has_work_in s.todo) seat x → may_read (Some x) ≡ true → is_ready s seat ≡ true
unfolding list_to_read
loud s seat x calm seen some = at x.thread refl
  where
    none_open : (fs : List Frame) (n : ℕ) → length fs ≡ 0 → is_none (innermost_in fs n) ≡ true
    none_open [] n e = refl
    none_open (f ∷ fs) n e = absurd (omega (arith, e))

    at : (o : Option Thread) → x.thread ≡ o → is_ready s seat ≡ true
    at None e = absurd (false≢true (sym (ap (λ o. is_some_and o (λ u. x.own || (x.shared && u.looping))) e) ∙ some))
    at (Some t) e = grind (arith, none_open s.frames t.seat calm, may_read_by x t true e some, seen_ready s.frames s.threads s.todo seat x t e seen)

-- a seat that isn't marked isn't ready
pub unmarked : (s : Space) (seats : List (Option Seen)) (word i : ℕ) → i < 32 → AreMarked seats word → IfSome (get_or seats i None) (IsSeen s.threads (has_work_in s.todo) i)
    → bit_at word i ≡ 0 → is_ready s i ≡ false
unmarked s seats word i low marked kept none = at (get_or seats i None) refl kept
  where
    bit : (b : Bool) → one_if b ≡ 0 → b ≡ false
    bit true e = absurd (omega (arith, e))
    bit false e = refl

    at : (o : Option Seen) → get_or seats i None ≡ o → IfSome o (IsSeen s.threads (has_work_in s.todo) i) → is_ready s i ≡ false
    at None e k = absurd (let m : bit_of None ≡ 0 = sym (ap bit_of e) ∙ sym (marked i low) ∙ none in omega (arith, m))
    at (Some x) e k = quiet s i x k (bit (may_read (Some x)) (sym (ap bit_of e) ∙ sym (marked i low) ∙ none))

-- a seat that is marked is ready, where something is kept of it and no call is open
pub marked_ready : (s : Space) (seats : List (Option Seen)) (marked known i : ℕ) → i < 32 → length s.frames ≡ 0 → AreKnown seats known → AreMarked seats marked
    → IfSome (get_or seats i None) (IsSeen s.threads (has_work_in s.todo) i) → bit_at known i ≡ 1 → bit_at marked i ≡ 1 → is_ready s i ≡ true
marked_ready s seats marked known i low calm are_known are_marked kept is_one is_set = at (get_or seats i None) refl kept
  where
    bit : (b : Bool) → one_if b ≡ 1 → b ≡ true
    bit true e = refl
    bit false e = absurd (omega (arith, e))

    at : (o : Option Seen) → get_or seats i None ≡ o → IfSome o (IsSeen s.threads (has_work_in s.todo) i) → is_ready s i ≡ true
    at None e k = absurd (let m : one_if (is_known None) ≡ 1 = sym (ap (λ o. one_if (is_known o)) e) ∙ sym (are_known i low) ∙ is_one in omega (arith, m))
    at (Some x) e k = loud s i x calm k (bit (may_read (Some x)) (sym (ap bit_of e) ∙ sym (are_marked i low) ∙ is_set))

-- no bit of the first word is missing in the second
pub none_missing : (first second i : ℕ) → i < 32 → second < 2 ^ 32 → bit_and first (bit_not w32 second) ≡ 0 → bit_at first i ≡ 1 → bit_at second i ≡ 1
none_missing first second i low fits none is_set =
    omega (arith, is_set, bit_at-lt second i, bit_at_not w32 second i fits low, sym (bit_at_and first (bit_not w32 second) i) ∙ ap (λ n. bit_at n i) none ∙ bit_at-zero i)

-- a bit that isn't set
none_at : (word i : ℕ) → (bit_at word i ≡ 1 → ⊥) → bit_at word i ≡ 0
none_at word i apart = omega (arith, bit_at-lt word i, apart)

-- where no call is open, the marked seats are the ready ones, if something is kept of each
pub calm_bits : (word count : ℕ) → count ≤ 31 → word < 2 ^ 32 → ((i : ℕ) → bit_at word i ≡ 1 → i < count) → word < 2 ^ 31
calm_bits word count few fits only = has_31_bits word fits (none_at word 31 (λ is_set. absurd (omega (arith, few, only 31 is_set))))

pub calm_word : (s : Space) (seats : List (Option Seen)) (marked known word count : ℕ) → count ≤ 31 → word < 2 ^ 32
    → ((i : ℕ) → i < count → bit_at word i ≡ bit_at marked i) → ((i : ℕ) → bit_at word i ≡ 1 → i < count) → AreKnown seats known → AreMarked seats marked
    → ((i : ℕ) → IfSome (get_or seats i None) (IsSeen s.threads (has_work_in s.todo) i)) → length s.frames ≡ 0 → ((i : ℕ) → i < 32 → bit_at word i ≡ 1 → bit_at known i ≡ 1)
    → word ≡ ready_below s count
calm_word s seats marked known word count few fits kept only are_known are_marked seen calm within =
    is_ready_word s count word few fits (λ i l. at i l (bit_at word i) refl (bit_at-lt word i)) (λ i low out. none_at word i (λ is_set. absurd (omega (arith, out, only i is_set))))
  where
    at : (i : ℕ) → i < count → (n : ℕ) → bit_at word i ≡ n → n < 2 → bit_at word i ≡ cond (is_ready s i) 1 0
    at i l zero e lt = e ∙ ap one_if (sym (unmarked s seats marked i (omega (arith, l, few)) are_marked (seen i) (sym (kept i l) ∙ e)))
    at i l (suc zero) e lt =
        e ∙ ap one_if (sym (marked_ready s seats marked known i (omega (arith, l, few)) calm are_known are_marked (seen i) (within i (omega (arith, l, few)) e) (sym (kept i l) ∙ e)))
    at i l (suc (suc n)) e lt = absurd (omega (arith, lt))
