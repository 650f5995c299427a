-- Reading a number digit by digit.
use Rattle.std.proofs.Common.{◌≡◌, ℕ, zero, suc, ◌+◌, ◌*◌, ◌-◌, ◌<◌, ◌≤◌, Bool, true, false, ◌&&◌, cond, ltb, eqb, List, [], ◌∷◌, length, get_or, drop, Option, Some, None, refl, sym, ap, ◌∙◌, arith, add-one, drop-cons}
use Rattle.std.specs.Prelude.{nat_lt, nat_le}
use Rattle.std.specs.List.{list_all}
use Rattle.std.proofs.lemmas.Bool.{ltb-false, ltb-true, leb-true, leb-false, le-leb, le-ltb, lt-ltb}
use Rattle.std.proofs.lemmas.List.{drop_all}
use Rattle.bd_script.specs.Numbers.{is_digit, decimal, with_digit, number_of}

-- what is read of the digits that are left, behind those of n
abbrev pub then_digits : Option ℕ → (ℕ → Option ℕ) → Option ℕ
then_digits None f = None
then_digits (Some n) f = f n

abbrev pub digits_from : ℕ → List ℕ → Option ℕ
digits_from n [] = Some n
digits_from n (b ∷ bs) = then_digits (with_digit n b) (λ m. digits_from m bs)

-- ---- the loop

pub goes_on : (word : List ℕ) (i n m b : ℕ) (total : Option ℕ) → i < length word → get_or word i 0 ≡ b → with_digit n b ≡ Some m → digits_from n (drop i word) ≡ total → digits_from m (drop (i + 1) word) ≡ total
goes_on word i n m b total lt here step so_far =
    let rest : drop i word ≡ get_or word i 0 ∷ drop (i + 1) word = rw (add-one, drop-cons word i 0) refl in
    let one : digits_from n (drop i word) ≡ digits_from m (drop (i + 1) word) = rw (rest, here, step) refl in
    sym one ∙ so_far

pub ends : (word : List ℕ) (i n b : ℕ) (total : Option ℕ) → i < length word → get_or word i 0 ≡ b → with_digit n b ≡ None → digits_from n (drop i word) ≡ total → total ≡ None
ends word i n b total lt here step so_far =
    let rest : drop i word ≡ get_or word i 0 ∷ drop (i + 1) word = rw (add-one, drop-cons word i 0) refl in
    let one : digits_from n (drop i word) ≡ None = rw (rest, here, step) refl in
    sym so_far ∙ one

-- ---- what the digits say

decimal_grows : (bs : List ℕ) (n : ℕ) → n ≤ decimal n bs
decimal_grows [] n = omega arith
decimal_grows (b ∷ bs) n = let h = decimal_grows bs (10 * n + (b - 48)) in omega arith

abbrev pub below64 : ℕ → Bool
below64 n = nat_lt n 18446744073709551616

none_of : (a : Bool) (d : ℕ) → None ≡ cond (a && false) (Some d) None
none_of true d = refl
none_of false d = refl

-- If the digits behind are read rightly from m on, they are so behind one digit more; past 64 bits nothing is read.
longer : (bs : List ℕ) (m : ℕ) → (m < 18446744073709551616 → digits_from m bs ≡ cond (list_all is_digit bs && below64 (decimal m bs)) (Some (decimal m bs)) None) → (a : Bool)
    → then_digits (cond (a && below64 m) (Some m) None) (λ k. digits_from k bs) ≡ cond ((a && list_all is_digit bs) && below64 (decimal m bs)) (Some (decimal m bs)) None
longer bs m others false = refl
longer bs m others true = by_size (below64 m) refl
  where
    by_size : (t : Bool) → below64 m ≡ t → then_digits (cond t (Some m) None) (λ k. digits_from k bs) ≡ cond (list_all is_digit bs && below64 (decimal m bs)) (Some (decimal m bs)) None
    by_size true h = others (ltb-true _ _ h)
    by_size false h =
        let grown = decimal_grows bs m in
        let large : below64 (decimal m bs) ≡ false = le-ltb _ _ (omega (arith, ltb-false _ _ h)) in
        rw large (none_of (list_all is_digit bs) (decimal m bs))

pub digits_are : (bs : List ℕ) (n : ℕ) → n < 18446744073709551616 → digits_from n bs ≡ cond (list_all is_digit bs && below64 (decimal n bs)) (Some (decimal n bs)) None
digits_are [] n lt = rw (lt-ltb n 18446744073709551616 lt) refl
digits_are (b ∷ bs) n lt = longer bs (10 * n + (b - 48)) (λ h. digits_are bs (10 * n + (b - 48)) h) (is_digit b)

-- The last test of a number: that it is at most this.
abbrev pub at_most : ℕ → ℕ → Option ℕ
at_most most v = cond (ltb most v) None (Some v)

tested : (a : Bool) (d most : ℕ) → most < 18446744073709551616 → then_digits (cond (a && below64 d) (Some d) None) (at_most most) ≡ cond (a && nat_le d most) (Some d) None
tested false d most lt = refl
tested true d most lt = by (below64 d) (nat_le d most) refl refl
  where
    by : (s t : Bool) → below64 d ≡ s → nat_le d most ≡ t → then_digits (cond s (Some d) None) (at_most most) ≡ cond t (Some d) None
    by true true p q = rw (le-ltb most d (leb-true _ _ q)) refl
    by true false p q = rw (lt-ltb most d (leb-false _ _ q)) refl
    by false true p q = absurd (omega (arith, ltb-false _ _ p, leb-true _ _ q))
    by false false p q = refl

pub number_is : (most : ℕ) (word : List ℕ) → most < 18446744073709551616 → 1 ≤ length word → length word ≤ 20 → number_of most word ≡ then_digits (digits_from 0 word) (at_most most)
unfolding number_of
number_is most word lt some few = rw (le-leb 1 (length word) some, le-leb (length word) 20 few, digits_are word 0 (omega arith)) (sym (tested (list_all is_digit word) (decimal 0 word) most lt))

some_word : (n : ℕ) → false ≡ eqb n 0 → 1 ≤ n
some_word zero e = absurd cc
some_word (suc n) e = omega arith

-- where the loop ends, and where it gives up
finishes : (word : List ℕ) (i most v : ℕ) → most < 18446744073709551616 → length word ≤ 20 → false ≡ eqb (length word) 0 → length word ≤ i → digits_from v (drop i word) ≡ digits_from 0 word
    → at_most most v ≡ number_of most word
finishes word i most v lt few some done so_far =
    let all : digits_from 0 word ≡ Some v = sym so_far ∙ ap (digits_from v) (drop_all i word done) in
    sym (number_is most word lt (some_word (length word) some) few ∙ ap (λ (o : Option ℕ). then_digits o (at_most most)) all)

pub gives_up : (word : List ℕ) (i n most : ℕ) → most < 18446744073709551616 → length word ≤ 20 → false ≡ eqb (length word) 0 → i < length word → with_digit n (get_or word i 0) ≡ None
    → digits_from n (drop i word) ≡ digits_from 0 word → None ≡ number_of most word
gives_up word i n most lt few some inside step so_far =
    let all : digits_from 0 word ≡ None = ends word i n (get_or word i 0) (digits_from 0 word) inside refl step so_far in
    sym (number_is most word lt (some_word (length word) some) few ∙ ap (λ (o : Option ℕ). then_digits o (at_most most)) all)

kept : (most v : ℕ) → v ≤ most → Some v ≡ at_most most v
kept most v le = rw (le-ltb most v le) refl

dropped : (most v : ℕ) → most < v → None ≡ at_most most v
dropped most v lt = rw (lt-ltb most v lt) refl

pub says_some : (word : List ℕ) (i most v : ℕ) → most < 18446744073709551616 → length word ≤ 20 → false ≡ eqb (length word) 0 → length word ≤ i → v ≤ most → digits_from v (drop i word) ≡ digits_from 0 word
    → Some v ≡ number_of most word
says_some word i most v lt few some done le so_far = kept most v le ∙ finishes word i most v lt few some done so_far

pub says_none : (word : List ℕ) (i most v : ℕ) → most < 18446744073709551616 → length word ≤ 20 → false ≡ eqb (length word) 0 → length word ≤ i → most < v → digits_from v (drop i word) ≡ digits_from 0 word
    → None ≡ number_of most word
says_none word i most v lt few some done more so_far = dropped most v more ∙ finishes word i most v lt few some done so_far
