-- A thread has an innermost frame exactly where it takes part in one, however the frames lie.
use Rattle.std.proofs.Common.{◌≡◌, ℕ, zero, suc, ◌≤◌, ◌==◌, nat_le, Bool, true, false, not, ◌&&◌, ◌||◌, cond, List, [], ◌∷◌, Option, refl, ap, sym, ◌∙◌, max, arith}
use Rattle.std.proofs.lemmas.Bool.{and_parts, and_from, eq-eqb, eqb-true, le-leb}
use Rattle.std.specs.Option.{is_some, is_none}
use Rattle.bd_ways.specs.Words.{Frame, list_any, list_all}
use Rattle.bd_keys.proofs.Found.{any_some}
use Rattle.bd_space.specs.Frames.{takes_part, depth_in, is_deepest_in, innermost_in}

any_implied : (p q : Frame → Bool) → ((f : Frame) → p f ≡ true → q f ≡ true) → (fs : List Frame) → list_any p fs ≡ true → list_any q fs ≡ true
any_implied p q h [] e = e
any_implied p q h (f ∷ fs) e = grind (arith, e, h f, any_implied p q h fs)

module _ (d : Frame → ℕ) (p : Frame → Bool) where
  -- one more than the depth of the deepest that passes, or 0 where none does
  abbrev top : List Frame → ℕ
  top [] = 0
  top (f ∷ fs) = cond (p f) (max (suc (d f)) (top fs)) (top fs)

  none_above : (n : ℕ) (fs : List Frame) → top fs ≤ suc n → list_all (λ f. not (p f) || nat_le (d f) n) fs ≡ true
  none_above n [] h = refl
  none_above n (f ∷ fs) h = grind (arith, h, none_above n fs, le-leb (d f) n)

  at_top : (n : ℕ) (fs : List Frame) → top fs ≡ suc n → list_any (λ f. p f && (d f == n)) fs ≡ true
  at_top n [] e = absurd (omega (arith, e))
  at_top n (f ∷ fs) e = grind (arith, e, at_top n fs, eq-eqb (d f) n)

  none_there : (fs : List Frame) → top fs ≡ 0 → list_any p fs ≡ false
  none_there [] e = refl
  none_there (f ∷ fs) e = grind (arith, e, none_there fs)

pub in_no_call : (fs : List Frame) (seat : ℕ) → is_none (innermost_in fs seat) ≡ not (list_any (takes_part seat) fs)
in_no_call fs seat = none_is (innermost_in fs seat) ∙ ap not (sym (any_some deepest fs) ∙ at (top depth takes fs) refl)
  where
    none_is : (o : Option Frame) → is_none o ≡ not (is_some o)
    none_is o = grind arith

    depth : Frame → ℕ
    depth = depth_in fs

    takes : Frame → Bool
    takes = takes_part seat

    deepest : Frame → Bool
    deepest = is_deepest_in fs seat

    some : list_any deepest fs ≡ true → list_any takes fs ≡ true
    some = any_implied deepest takes (λ f h. (and_parts _ _ h).0) fs

    at : (n : ℕ) → top depth takes fs ≡ n → list_any deepest fs ≡ list_any takes fs
    at zero e = grind (arith, none_there depth takes fs e, some)
    at (suc n) e =
        let there = any_implied (λ f. takes f && (depth f == n)) deepest
        (λ f h. let k = and_parts _ _ h in and_from _ _ k.0 (none_above depth takes (depth f) fs (omega (arith, e, eqb-true (depth f) n k.1)))) fs (at_top depth takes n fs e) in
        there ∙ sym (some there)
