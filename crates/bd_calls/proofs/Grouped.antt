-- Which seats may have a thread of which process.
use Rattle.std.proofs.Common.{◌≡◌, ℕ, zero, suc, ◌+◌, ◌<◌, ◌≤◌, ◌==◌, Bool, true, false, List, [], ◌∷◌, Some, None, cond, arith, length, get_or, set, replicate, refl, sym, ap, ◌∙◌, subst, eqb-true}
use Rattle.std.proofs.lemmas.{Bool.{eqb-false, false≢true}, List.{get_or-set_same, get_or-set_other, get_or_default, get_or_past}, Nat.Bits.{bit_at_ones}}
use Rattle.std.specs.{Int.{bit_at}, Prelude.{Option}}
use Rattle.bd_calls.specs.{declared.seen.Seen.{Seen}, declared.groups.Group.{Group}}
use Rattle.bd_calls.specs.Grouped.{whole, is_member, HasMembers, AreGrouped, IsGrouped}

-- each seat may have a thread of any process
pub whole_at : (n k : ℕ) → get_or (replicate n whole) k whole ≡ whole
whole_at zero k = refl
whole_at (suc n) zero = refl
whole_at (suc n) (suc k) = whole_at n k

pub in_whole : (groups : List Group) → ((k : ℕ) → get_or groups k whole ≡ whole) → (k i : ℕ) → i < 32 → bit_at (get_or groups k whole).seats i ≡ 1
in_whole groups all k i low = ap (λ (g : Group). bit_at g.seats i) (all k) ∙ bit_at_ones 32 i low

pub all_grouped : (seats : List (Option Seen)) (groups : List Group) → ((k : ℕ) → get_or groups k whole ≡ whole) → AreGrouped seats groups
all_grouped seats groups all k i low member = in_whole groups all k i low

-- nor has any seat a thread of which nothing is kept
pub nobody_grouped : (seats : List (Option Seen)) (groups : List Group) → ((i : ℕ) → get_or seats i None ≡ None) → AreGrouped seats groups
nobody_grouped seats groups none k i low member = absurd (false≢true (sym (ap (is_member (get_or groups k whole).process) (none i)) ∙ member))

-- of a seat without a thread nothing is asked
pub none_grouped : (groups : List Group) (at : ℕ) → IsGrouped groups at None
none_grouped groups at k member = absurd (false≢true member)

-- nor of one that has the thread that it had
pub same_grouped : (seats : List (Option Seen)) (groups : List Group) (at : ℕ) (old new : Seen) → at < 32 → AreGrouped seats groups → get_or seats at None ≡ Some old
    → new.thread ≡ old.thread → IsGrouped groups at (Some new)
same_grouped seats groups at old new low grouped is same k member =
    grouped k at low (ap (is_member (get_or groups k whole).process) is ∙ sym (ap (λ t. is_member (get_or groups k whole).process (Some (record old { thread = t }))) same) ∙ member)

-- something else is kept of a seat
pub grouped_with : (seats : List (Option Seen)) (groups : List Group) (at : ℕ) (seen : Option Seen) → at < length seats → AreGrouped seats groups → IsGrouped groups at seen
    → AreGrouped (set seats at seen) groups
grouped_with seats groups at seen inside grouped mine k i low member = by (i == at) refl
  where
    p : ℕ
    p = (get_or groups k whole).process

    by : (b : Bool) → (i == at) ≡ b → bit_at (get_or groups k whole).seats i ≡ 1
    by true e =
        ap (bit_at (get_or groups k whole).seats) (eqb-true i at e)
        ∙ mine k (sym (ap (is_member p) (ap (λ n. get_or (set seats at seen) n None) (eqb-true i at e) ∙ get_or-set_same seats at seen None inside)) ∙ member)
    by false e = grouped k i low (sym (ap (is_member p) (get_or-set_other seats at i seen None (eqb-false i at e))) ∙ member)

-- a group comes in place of another
put_at : (P : Group → Type 0) (groups : List Group) (at k : ℕ) (g : Group) → P g → ((j : ℕ) → P (get_or groups j whole)) → P (get_or (set groups at g) k whole)
put_at P [] at k g new old = old k
put_at P (x ∷ xs) zero zero g new old = new
put_at P (x ∷ xs) zero (suc k) g new old = old (suc k)
put_at P (x ∷ xs) (suc at) zero g new old = old zero
put_at P (x ∷ xs) (suc at) (suc k) g new old = put_at P xs at k g new (λ j. old (suc j))

pub grouped_put : (seats : List (Option Seen)) (groups : List Group) (at : ℕ) (g : Group) → AreGrouped seats groups → HasMembers g.process seats g.seats
    → AreGrouped seats (set groups at g)
grouped_put seats groups at g grouped mine k = put_at (λ (h : Group). HasMembers h.process seats h.seats) groups at k g mine grouped

-- the group that is there
pub grouped_at : (seats : List (Option Seen)) (groups : List Group) (at : ℕ) (d : Group) (process : ℕ) → at < length groups → AreGrouped seats groups
    → (get_or groups at d).process ≡ process → HasMembers process seats (get_or groups at d).seats
grouped_at seats groups at d process inside grouped is =
    subst (λ (p : ℕ). HasMembers p seats (get_or groups at d).seats) is
    (subst (λ (h : Group). HasMembers h.process seats h.seats) (sym (get_or_default groups at d whole inside)) (grouped at))

-- ---- looking for the members

-- one seat more was looked at
pub found_more : (process : ℕ) (seats : List (Option Seen)) (at word new : ℕ) (b : Bool) → b ≡ is_member process (get_or seats at None)
    → ((i : ℕ) → i < at → is_member process (get_or seats i None) ≡ true → bit_at word i ≡ 1) → (i : ℕ) → i < at + 1 → bit_at new i ≡ cond (i == at) (cond b 1 0) (bit_at word i)
    → is_member process (get_or seats i None) ≡ true → bit_at new i ≡ 1
found_more process seats at word new b is found i less bits member = by (i == at) refl
  where
    by : (e : Bool) → (i == at) ≡ e → bit_at new i ≡ 1
    by true e =
        bits ∙ ap (λ c. cond c (cond b 1 0) (bit_at word i)) e
        ∙ ap (λ c. cond c 1 0) (is ∙ ap (λ n. is_member process (get_or seats n None)) (sym (eqb-true i at e)) ∙ member)
    by false e =
        let apart : i ≡ at → ⊥ = eqb-false i at e in
        bits ∙ ap (λ c. cond c (cond b 1 0) (bit_at word i)) e ∙ found i (omega (arith, less, apart)) member

-- what is behind the seats has no thread
pub none_behind : (process : ℕ) (seats : List (Option Seen)) (i : ℕ) → length seats ≤ i → is_member process (get_or seats i None) ≡ true → ⊥
none_behind process seats i behind member = false≢true (sym (ap (is_member process) (get_or_past seats i None behind)) ∙ member)
