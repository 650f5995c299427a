-- The least number that names nothing is the one that a new name gets.
use Rattle.bd_records.proofs.Words.{Bool, List, Name, None, [], arith, eqb, false, find, free_number_from, is_some, list_any, named_in, none_is, not, option_map, refl, subst, sym, true, ℕ, ◌&&◌, ◌∙◌, ◌∷◌, ◌≡◌}
use Rattle.bd_records.proofs.FreeNumbers.{free_is}

pub any_is_some : {A B : Type 0} (f : A → B) (key : A → Bool) (xs : List A) → list_any key xs ≡ is_some (option_map f (find key xs))
any_is_some f key [] = refl
any_is_some f key (x ∷ xs) = grind (arith, any_is_some f key xs)

module _ (p : ℕ) (names : List Name) where
  abbrev used : ℕ → Bool
  used n = list_any (λ (m : Name). eqb m.process p && eqb m.number n) names

  pub used_named : (n : ℕ) → used n ≡ is_some (named_in names p n)
  used_named n = any_is_some (λ (m : Name). m.object) (λ m. eqb m.process p && eqb m.number n) names

  not_true : (b : Bool) → not b ≡ true → b ≡ false
  not_true true h = absurd (cc)
  not_true false h = refl

  -- a number that is free names nothing
  pub free_unnamed : (first n : ℕ) → n ≡ free_number_from names p first → named_in names p n ≡ None
  free_unnamed first n e =
      let f = free_is p names first in
      none_is (named_in names p n) (sym (used_named n) ∙ subst (λ k. used k ≡ false) (sym e) (not_true (used (free_number_from names p first)) f.passes))
