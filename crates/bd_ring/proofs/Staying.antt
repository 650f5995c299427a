-- Rings stay rings.
use Rattle.std.proofs.Common.{◌≡◌, ◌==◌, ℕ, Bool, true, false, not, List, [], ◌∷◌, ◌++◌, cond, refl, arith, ◌||◌, ◌&&◌}
use Rattle.std.proofs.{lemmas.Bool.Decides.{nat_tests}, lemmas.Grind.{common_steps}}
use Rattle.bd_ring.specs.Turns.{wants, is_ring, after_leave, after_turn, after_pass}

pub wants_more : (xs : List ℕ) (z y : ℕ) → wants (xs ++ z ∷ []) y ≡ (wants xs y || (z == y))
wants_more xs z y = grind (arith, common_steps)

both : (a b : Bool) → a ≡ true → b ≡ true → (a && b) ≡ true
both a b p q = rw (p, q) refl

pub first_apart : (a b : Bool) → (not a && b) ≡ true → a ≡ false
first_apart true b e = cc
first_apart false b e = refl

pub rest_of : (a b : Bool) → (not a && b) ≡ true → b ≡ true
rest_of true b e = cc
rest_of false b e = e

pub ring_more : (xs : List ℕ) (z : ℕ) → is_ring xs ≡ true → wants xs z ≡ false → is_ring (xs ++ z ∷ []) ≡ true
ring_more [] z r none = refl
ring_more (x ∷ xs) z r none =
    let later = ring_more xs z (rest_of (wants xs x) (is_ring xs) r) (grind (arith, nat_tests, common_steps)) in
    both (not (wants (xs ++ z ∷ []) x)) (is_ring (xs ++ z ∷ []))
    (let more = wants_more xs z x in let out = first_apart (wants xs x) (is_ring xs) r in grind (arith, nat_tests, common_steps, more, out)) later

pub wants_left : (xs : List ℕ) (z t : ℕ) → (t ≡ z → ⊥) → wants (after_leave xs z) t ≡ wants xs t
wants_left [] z t apart = refl
wants_left (x ∷ xs) z t apart = let rest = wants_left xs z t apart in grind (arith, nat_tests, common_steps)

wants_fewer : (xs : List ℕ) (z t : ℕ) → wants xs t ≡ false → wants (after_leave xs z) t ≡ false
wants_fewer [] z t none = refl
wants_fewer (x ∷ xs) z t none = let rest = wants_fewer xs z t in grind (arith, nat_tests, common_steps, rest)

pub ring_fewer : (xs : List ℕ) (z : ℕ) → is_ring xs ≡ true → is_ring (after_leave xs z) ≡ true
ring_fewer [] z r = refl
ring_fewer (x ∷ xs) z r =
    with_first (not (x == z)) x (after_leave xs z) (wants_fewer xs z x (first_apart (wants xs x) (is_ring xs) r)) (ring_fewer xs z (rest_of (wants xs x) (is_ring xs) r))
  where
    with_first : (b : Bool) (x : ℕ) (ys : List ℕ) → wants ys x ≡ false → is_ring ys ≡ true → is_ring (cond b (x ∷ ys) ys) ≡ true
    with_first true x ys none rest = rw (none, rest) refl
    with_first false x ys none rest = rest

pub ring_turned : (xs : List ℕ) → is_ring xs ≡ true → is_ring (after_turn xs) ≡ true
ring_turned [] r = refl
ring_turned (x ∷ xs) r = rest_of (wants xs x) (is_ring xs) r

pub ring_passed : (xs : List ℕ) → is_ring xs ≡ true → is_ring (after_pass xs) ≡ true
ring_passed [] r = refl
ring_passed (x ∷ xs) r = ring_more xs x (rest_of (wants xs x) (is_ring xs) r) (first_apart (wants xs x) (is_ring xs) r)
