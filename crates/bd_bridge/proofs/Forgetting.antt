-- That whoever waits is watched goes on over a step.
use Rattle.std.proofs.Common.{◌≡◌, ◌⊎◌, inl, inr, ℕ, Bool, true, false, Some, sym, subst}
use Rattle.std.proofs.lemmas.Bool.{cases_eq}
use Rattle.bd_bridge.specs.declared.{waiters.{Waiter.{Waiter}, Waiters.{Waiters}}, suspects.Suspects.{Suspects}, resting.Resting.{Resting}}
use Rattle.bd_bridge.specs.{Suspects.{is_suspect}, Waiting.{at}, Forgotten.{IsInformed, IsSeenTo, NobodyIsForgotten, NobodyIsForgottenBut}}

-- whom nothing has named is told as rightly as before, and whoever is named is a suspect, as whoever was seen to still is
pub goes_on : {N U V : Type 0} (now before : ℕ → Bool → Type 0) (t : ℕ) (w : Waiter) → (before t w.is_rung → now t w.is_rung ⊎ N) → (N → V) → (U → V) → IsInformed before t w ⊎ U → IsInformed now t w ⊎ V
goes_on now before t w step named kept (inr u) = inr (kept u)
goes_on now before t w step named kept (inl r) = elim (step r.0) [ inl s ↦ inl (s, r.1) | inr n ↦ inr (named n) ]

-- after a step whoever was seen to is a suspect, those who rested among them
pub seen_again : {R L : Type 0} (old new : Suspects) (t : ℕ) → (is_suspect old t ≡ true → is_suspect new t ≡ true) → (R → is_suspect new t ≡ true)
    → (is_suspect old t ≡ true) ⊎ (R × L) → is_suspect new t ≡ true
seen_again old new t kept roused (inl s) = kept s
seen_again old new t kept roused (inr (r, l)) = roused r

-- once a suspect is taken out, all but that one are watched
pub taken : (Sees : ℕ → Bool → Type 0) (IsOf : ℕ → ℕ → Type 0) (CanRest : ℕ → Type 0) (table : Waiters) (old new : Suspects) (resting : Resting) (seat : ℕ)
    → ((t : ℕ) → is_suspect old t ≡ true → (t ≡ seat) ⊎ (is_suspect new t ≡ true)) → NobodyIsForgotten Sees IsOf CanRest table old resting → NobodyIsForgottenBut seat Sees IsOf CanRest table new resting
taken Sees IsOf CanRest table old new resting seat left was = record {
  placed = was.placed;
  informed = λ t w apart waits. by t w apart (was.informed t w waits);
}
  where
    still : (t : ℕ) (w : Waiter) → (t ≡ seat → ⊥) → (t ≡ seat) ⊎ (is_suspect new t ≡ true) → IsInformed Sees t w ⊎ IsSeenTo CanRest new resting t w
    still t w apart (inl same) = absurd (apart same)
    still t w apart (inr s) = inr (inl s)

    by : (t : ℕ) (w : Waiter) → (t ≡ seat → ⊥) → IsInformed Sees t w ⊎ IsSeenTo CanRest old resting t w → IsInformed Sees t w ⊎ IsSeenTo CanRest new resting t w
    by t w apart (inl r) = inl r
    by t w apart (inr (inl s)) = still t w apart (left t s)
    by t w apart (inr (inr rests)) = inr (inr rests)

-- whatever is so of all is so of all but one
pub all_but : (Sees : ℕ → Bool → Type 0) (IsOf : ℕ → ℕ → Type 0) (CanRest : ℕ → Type 0) (waiters : Waiters) (suspects : Suspects) (resting : Resting) (seat : ℕ)
    → NobodyIsForgotten Sees IsOf CanRest waiters suspects resting → NobodyIsForgottenBut seat Sees IsOf CanRest waiters suspects resting
all_but Sees IsOf CanRest waiters suspects resting seat was = record {
  placed = was.placed;
  informed = λ t w apart waits. was.informed t w waits;
}

-- and where that one is informed or seen to, of all
pub with_one : (Sees : ℕ → Bool → Type 0) (IsOf : ℕ → ℕ → Type 0) (CanRest : ℕ → Type 0) (waiters : Waiters) (suspects : Suspects) (resting : Resting) (seat : ℕ)
    → ((w : Waiter) → at waiters seat ≡ Some w → IsInformed Sees seat w ⊎ IsSeenTo CanRest suspects resting seat w)
    → NobodyIsForgottenBut seat Sees IsOf CanRest waiters suspects resting → NobodyIsForgotten Sees IsOf CanRest waiters suspects resting
with_one Sees IsOf CanRest waiters suspects resting seat that was = record {
  placed = was.placed;
  informed = λ t w waits. by t w waits (cases_eq t seat);
}
  where
    by : (t : ℕ) (w : Waiter) → at waiters t ≡ Some w → (t ≡ seat) ⊎ (t ≡ seat → ⊥) → IsInformed Sees t w ⊎ IsSeenTo CanRest suspects resting t w
    by t w waits (inl same) = subst (λ k. IsInformed Sees k w ⊎ IsSeenTo CanRest suspects resting k w) (sym same) (that w (subst (λ k. at waiters k ≡ Some w) same waits))
    by t w waits (inr apart) = was.informed t w apart waits

-- more suspects do no harm
pub more_suspects_but : (Sees : ℕ → Bool → Type 0) (IsOf : ℕ → ℕ → Type 0) (CanRest : ℕ → Type 0) (waiters : Waiters) (old new : Suspects) (resting : Resting) (seat : ℕ)
    → ((t : ℕ) → is_suspect old t ≡ true → is_suspect new t ≡ true) → NobodyIsForgottenBut seat Sees IsOf CanRest waiters old resting → NobodyIsForgottenBut seat Sees IsOf CanRest waiters new resting
more_suspects_but Sees IsOf CanRest waiters old new resting seat kept was = record {
  placed = was.placed;
  informed = λ t w apart waits. by t w (was.informed t w apart waits);
}
  where
    by : (t : ℕ) (w : Waiter) → IsInformed Sees t w ⊎ IsSeenTo CanRest old resting t w → IsInformed Sees t w ⊎ IsSeenTo CanRest new resting t w
    by t w (inl r) = inl r
    by t w (inr (inl s)) = inr (inl (kept t s))
    by t w (inr (inr rests)) = inr (inr rests)

-- where that one is a suspect, of all
pub with_that : (Sees : ℕ → Bool → Type 0) (IsOf : ℕ → ℕ → Type 0) (CanRest : ℕ → Type 0) (waiters : Waiters) (old new : Suspects) (resting : Resting) (seat : ℕ) → is_suspect new seat ≡ true
    → ((t : ℕ) → is_suspect old t ≡ true → is_suspect new t ≡ true) → NobodyIsForgottenBut seat Sees IsOf CanRest waiters old resting → NobodyIsForgotten Sees IsOf CanRest waiters new resting
with_that Sees IsOf CanRest waiters old new resting seat added kept was =
    with_one Sees IsOf CanRest waiters new resting seat (λ w waits. inr (inl added)) (more_suspects_but Sees IsOf CanRest waiters old new resting seat kept was)

-- whoever is no suspect is informed, or left what it has
pub told_rightly : {P R L : Type 0} (suspect : Bool) → suspect ≡ false → P ⊎ ((suspect ≡ true) ⊎ (R × L)) → P ⊎ L
told_rightly suspect none (inl p) = inl p
told_rightly suspect none (inr (inl s)) = cc
told_rightly suspect none (inr (inr (rests, left))) = inr left
