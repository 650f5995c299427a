-- The first from a number on, of those whose numbers rise.
use Rattle.std.proofs.Common.{◌≡◌, ℕ, zero, suc, ◌<◌, ◌≤◌, ltb, cond, List, [], ◌∷◌, length, get_or, Some, None, find, ap, sym, refl, ◌∙◌, arith}
use Rattle.std.specs.Prelude.{Option, nat_le, is_some, IfSome, slice_get, option_copied}
use Rattle.std.proofs.lemmas.Bool.{ltb-true, ltb-false, le-leb, lt-leb}
use Rattle.std.proofs.lemmas.Option.{slice_get_past, slice_get_read}
use denote.Ref.{Bor}

-- the numbers before an index are lower, and those from it on are not: what stands there is the first
pub first_at : {A : Type 0} (key : A → ℕ) (from : ℕ) (xs : List A) (i : ℕ) → ((k : ℕ) (d : A) → k < i → key (get_or xs k d) < from)
    → ((k : ℕ) (d : A) → i ≤ k → k < length xs → from ≤ key (get_or xs k d)) → slice_get xs i ≡ find (λ x. nat_le from (key x)) xs
first_at key from [] i low high = refl
first_at key from (x ∷ xs) zero low high =
    sym (ap (λ b. cond b (Some x) (find (λ y. nat_le from (key y)) xs)) (le-leb from (key x) (high 0 x (omega arith) (omega arith))))
first_at key from (x ∷ xs) (suc i) low high =
    first_at key from xs i (λ k d lt. low (suc k) d (omega arith)) (λ k d le lt. high (suc k) d (omega arith) (omega arith))
    ∙ sym (ap (λ b. cond b (Some x) (find (λ y. nat_le from (key y)) xs)) (lt-leb from (key x) (low 0 x (omega arith))))

-- what `get` answers
pub got : {A : Type 0} (o : Option (Bor A)) (xs : List A) (i : ℕ) → is_some o ≡ ltb i (length xs) → IfSome o (λ x. x.now ≡ get_or xs i x.now) → option_copied o ≡ slice_get xs i
got None xs i e at = sym (slice_get_past xs i (ltb-false i (length xs) (sym e)))
got (Some x) xs i e at = sym (slice_get_read xs (length xs) i x.now refl (ltb-true i (length xs) (sym e)) at)
