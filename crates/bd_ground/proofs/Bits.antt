-- What is free of a window where a span is taken or given back.
use Rattle.std.proofs.{Common.{Bool, arith, false, true, ℕ, ◌+◌, ◌<◌, ◌≡◌, ◌≤◌, ◌⊎◌}, lemmas.Bool.{le-leb, le-ltb, lt-leb, lt-ltb}}
use Rattle.bd_ground.specs.Tiles.{is_in, with_span}

abbrev pub IsOut : ℕ → ℕ → ℕ → Type 0
IsOut p n u = (u < p) ⊎ (p + n ≤ u)

abbrev pub IsIn : ℕ → ℕ → ℕ → Type 0
IsIn p n u = (p ≤ u) × (u < p + n)

pub in_or_out : (p n u : ℕ) → IsIn p n u ⊎ IsOut p n u
in_or_out p n u = grind arith

pub is_in_true : (p n u : ℕ) → IsIn p n u → is_in p n u ≡ true
is_in_true p n u h = grind (arith, le-leb, lt-ltb)

pub is_in_false : (p n u : ℕ) → IsOut p n u → is_in p n u ≡ false
is_in_false p n u h = search (arith, lt-leb, le-ltb)

module _ (free : ℕ → Bool) (p n u : ℕ) where
  pub with_out : IsOut p n u → with_span p n free u ≡ free u
  with_out h = let out = is_in_false p n u h in grind arith

  pub with_in : IsIn p n u → with_span p n free u ≡ true
  with_in h = let own = is_in_true p n u h in grind arith

  pub with_free : free u ≡ true → with_span p n free u ≡ true
  with_free h = grind arith

  pub with_true : with_span p n free u ≡ true → (free u ≡ true) ⊎ IsIn p n u
  with_true h = let out = is_in_false p n u in grind (arith, in_or_out)
