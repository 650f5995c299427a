-- Names of which none has a number past the limit.
use Rattle.bd_records.proofs.Words.{Bool, List, Name, None, [], arith, eqb, eqb-true, false, filter, has_number_past_limit, list_any, list_any-append, named_in, nat_lt, nat_tests, or_from, or_parts, refl, true, ℕ, ◌++◌, ◌<◌, ◌∙◌, ◌∷◌, ◌≡◌}

none_filter : {A : Type 0} (p q : A → Bool) (xs : List A) → list_any p xs ≡ false → list_any p (filter q xs) ≡ false
none_filter p q [] h = refl
none_filter p q (x ∷ xs) h = grind (arith, none_filter p q xs, h)

pub fits_filter : (q : Name → Bool) (names : List Name) → has_number_past_limit names ≡ false → has_number_past_limit (filter q names) ≡ false
fits_filter q names h = none_filter (λ (m : Name). nat_lt 4294967294 m.number) q names h

-- Names within the limit and one more within it are within it.
pub fits_push : (names : List Name) (m : Name) → has_number_past_limit names ≡ false → nat_lt 4294967294 m.number ≡ false → has_number_past_limit (names ++ m ∷ []) ≡ false
fits_push names m h e = list_any-append (λ (m : Name). nat_lt 4294967294 m.number) names (m ∷ []) ∙ or_from _ _ h (rw e refl)

-- No number past the limit names anything.
pub past_unnamed : (names : List Name) → has_number_past_limit names ≡ false → (p n : ℕ) → 4294967294 < n → named_in names p n ≡ None
past_unnamed [] h p n past = refl
past_unnamed (m ∷ ms) h p n past =
    let parts = or_parts (nat_lt 4294967294 m.number) (has_number_past_limit ms) h in
    at (eqb m.process p) (eqb m.number n) refl refl parts.0 (past_unnamed ms parts.1 p n past)
  where
    at : (a b : Bool) → eqb m.process p ≡ a → eqb m.number n ≡ b → nat_lt 4294967294 m.number ≡ false → named_in ms p n ≡ None → named_in (m ∷ ms) p n ≡ None
    at true true e f within rest = let s : m.number ≡ n = eqb-true m.number n f in absurd (grind (arith, nat_tests))
    at true false e f within rest = rw (e, f) rest
    at false b e f within rest = rw e rest
