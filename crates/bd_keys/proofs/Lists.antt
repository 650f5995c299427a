-- Lists without one of their elements, and tests that agree.
use Rattle.std.proofs.Common.{◌≡◌, ℕ, zero, suc, ◌<◌, ◌==◌, Bool, false, cond, List, [], ◌∷◌, filter, length, get_or, refl, ap, sym, arith, All}
use Rattle.std.specs.Prelude.{remove}
use Rattle.std.specs.List.{list_any}
use Rattle.std.specs.Cmp.{both_ways}
use Rattle.std.proofs.lemmas.Bool.{eqb-true, eq-eqb}
use Rattle.std.proofs.lemmas.List.Elements.{All-cons, All-head, All-tail}

pub filter_remove : {A : Type 0} (q : A → Bool) (xs : List A) (i : ℕ) (d : A) → i < length xs → q (get_or xs i d) ≡ false → filter q (remove xs i) ≡ filter q xs
filter_remove q [] i d h e = absurd (omega arith)
filter_remove q (x ∷ xs) zero d h e = rw e refl
filter_remove q (x ∷ xs) (suc i) d h e = ap (λ ys. cond (q x) (x ∷ ys) ys) (filter_remove q xs i d (omega arith) e)

pub All_remove : {A : Type 0} (P : A → Type 0) (xs : List A) (i : ℕ) → i < length xs → All P xs → All P (remove xs i)
All_remove P [] i h all = absurd (omega arith)
All_remove P (x ∷ xs) zero h all = All-tail P x xs all
All_remove P (x ∷ xs) (suc i) h all =
    All-cons P x (remove xs i) (All-head P x xs all) (All_remove P xs i (omega arith) (All-tail P x xs all))

pub any_same : {A : Type 0} (p q : A → Bool) (xs : List A) → ((x : A) → p x ≡ q x) → list_any p xs ≡ list_any q xs
any_same p q xs is = ap (λ t. list_any t xs) (λ i x. is x i)

pub eqb_turned : (m n : ℕ) → (m == n) ≡ (n == m)
eqb_turned m n = both_ways (m == n) (n == m) (λ e. eq-eqb n m (sym (eqb-true m n e))) (λ e. eq-eqb m n (sym (eqb-true n m e)))
