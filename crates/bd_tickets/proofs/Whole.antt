-- What comes with a request is kept whole.
use Rattle.std.proofs.Common.{◌≡◌, ℕ, Bool, true, false, refl}
use Rattle.std.specs.Prelude.{◌==◌, ◌&&◌, ◌||◌, if◌then◌else◌}
use Rattle.std.proofs.lemmas.Bool.{eq-eqb}
use Rattle.bd_tickets.specs.Came.{kept, WhatComesIsKeptWhole}

same : (n : ℕ) → (n == n) ≡ true
same n = eq-eqb n n refl

by : (b : Bool) (came wanted : ℕ) → (came == wanted) ≡ b → (((if b then came else 0) == came) && (came == wanted)) || ((if b then came else 0) == 0) ≡ true
by true came wanted e = rw (same came, e) refl
by false came wanted e = last (0 == came) (came == wanted)
  where
    last : (a b : Bool) → ((a && b) || (0 == 0)) ≡ true
    last true true = refl
    last true false = refl
    last false b = refl

none : (came wanted : ℕ) → ((0 == came) && (came == wanted)) || (0 == 0) ≡ true
none came wanted = last (0 == came) (came == wanted)
  where
    last : (a b : Bool) → ((a && b) || (0 == 0)) ≡ true
    last true true = refl
    last true false = refl
    last false b = refl

whole : (wanted came : ℕ) (is_whole is_run : Bool) → ((kept wanted came is_whole is_run == came) && (came == wanted)) || (kept wanted came is_whole is_run == 0) ≡ true
whole wanted came true true = by (came == wanted) came wanted refl
whole wanted came false true = none came wanted
whole wanted came true false = none came wanted
whole wanted came false false = none came wanted

pub kept_whole : WhatComesIsKeptWhole
kept_whole = record {
  whole = whole;
  run = λ wanted. rw (same wanted) refl;
  refused = λ wanted came is_whole. refl;
}
