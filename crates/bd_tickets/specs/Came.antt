-- The descriptors that come with a request.
use Rattle.std.specs.Prelude.{◌≡◌, ℕ, Bool, true, false, ◌==◌, ◌&&◌, ◌||◌, if◌then◌else◌}

abbrev pub kept : ℕ → ℕ → Bool → Bool → ℕ
kept wanted came is_whole is_run = if is_run && is_whole && (came == wanted) then came else 0

-- ---- a law

pub record WhatComesIsKeptWhole : Type 0 where
  -- All are its own, as many as it says, or none is: then all are closed.
  pub whole : (wanted came : ℕ) (is_whole is_run : Bool)
      → ((kept wanted came is_whole is_run == came) && (came == wanted)) || (kept wanted came is_whole is_run == 0) ≡ true
  -- It gets all that it has sent.
  pub run : (wanted : ℕ) → kept wanted wanted true true ≡ wanted
  -- What isn't run keeps none.
  pub refused : (wanted came : ℕ) (is_whole : Bool) → kept wanted came is_whole false ≡ 0
