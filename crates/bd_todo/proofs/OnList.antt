-- What is found among the work items on a list.
use Rattle.std.proofs.Common.{◌≡◌, Bool, true, false, not, ◌&&◌, List, [], ◌∷◌, length, filter, refl, is_some, ◌+◌, arith}
use Rattle.std.specs.List.{list_any, slice_get}
use Rattle.bd_space.specs.{declared.space.Work.{Work}, ReadItems.{none_due}, Words.{without_first}}

pub any_filter : (p q : Work → Bool) (ws : List Work) → list_any q (filter p ws) ≡ list_any (λ w. p w && q w) ws
any_filter p q [] = refl
any_filter p q (w ∷ ws) = grind (arith, any_filter p q ws)

module _ (p : Work → Bool) where
  -- something is left exactly where something passes
  pub any_left : (ws : List Work) → list_any p ws ≡ not (none_due (filter p ws))
  any_left [] = refl
  any_left (w ∷ ws) = grind (arith, any_left ws)

  -- the list's first item is there
  pub any_first : (ws : List Work) → is_some (slice_get (filter p ws) 0) ≡ list_any p ws
  any_first [] = refl
  any_first (w ∷ ws) = grind (arith, any_first ws)

  -- ---- the first on a list goes

  -- where none is to go, all stay
  pub nothing_goes : (ws : List Work) → list_any p ws ≡ false → filter (λ w. not (p w)) ws ≡ ws
  nothing_goes [] e = refl
  nothing_goes (w ∷ ws) e = grind (arith, nothing_goes ws)

  -- none that is to go is among those that stay
  pub none_stays : (ws : List Work) → list_any p (filter (λ w. not (p w)) ws) ≡ false
  none_stays [] = refl
  none_stays (w ∷ ws) = grind (arith, none_stays ws)

  pub no_first : (ws : List Work) → list_any p ws ≡ false → without_first p ws ≡ ws
  no_first [] e = refl
  no_first (w ∷ ws) e = grind (arith, no_first ws)

  pub rest_same : (ws : List Work) → filter (λ w. not (p w)) (without_first p ws) ≡ filter (λ w. not (p w)) ws
  rest_same [] = refl
  rest_same (w ∷ ws) = grind (arith, rest_same ws)

  pub one_less : (ws : List Work) → list_any p ws ≡ true → length (without_first p ws) + 1 ≡ length ws
  one_less [] e = grind arith
  one_less (w ∷ ws) e = grind (arith, one_less ws)
