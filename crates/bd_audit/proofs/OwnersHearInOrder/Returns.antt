-- For OwnersHearInOrder, OnlyOwnersHear and NoticesAreDue: what a reading tells an owner of one object.
use Rattle.bd_laws.proofs.words.Logic.{◌≡◌, ℕ, ◌+◌, Bool, true, false, cond, not, ◌&&◌, List, [], ◌∷◌, ◌++◌, Option, Some, None, ◌⊎◌, inl, inr, refl, ap, sym, ◌∙◌, length, append-nil, arith, flat_map, filter_map}
use Rattle.bd_laws.proofs.words.Types.{Return, Identity, Reference, Handshake, Work, WorkKind}
use Rattle.bd_laws.proofs.words.Space.{same, is_some_and, Space, reference_of, is_shaking, is_notice, notice_of, returns_of, shakes, handshakes_for, handshakes_of, handshakes, is_told_by}
use Rattle.bd_uapi.specs.declared.command.Return.TheVariants as br
use Rattle.bd_space.specs.declared.space.WorkKind.TheVariants as work
use Rattle.bd_laws.specs.Lists.{In}
use Rattle.bd_laws.specs.Items.{Once}
use Rattle.bd_laws.proofs.Lists.{any_found, any_in}
use Rattle.bd_laws.proofs.Tests.{same_eq, eq_same, notice_kind, notice_named, to_false}
use Rattle.bd_laws.proofs.FollowingIsLocal.Handshakes.{for_object, shaken_by, shaken_object}
use Rattle.bd_laws.proofs.NothingIsPending.Noticing.{notice_is}
use Rattle.bd_audit.specs.Hearing.{event_of, heard_in}
use Rattle.bd_audit.proofs.OwnersHearInOrder.Orders.{Hearing, unheard, weakly, strongly, ended, hears_all}
use Rattle.bd_audit.proofs.OwnersHearInOrder.Tallies.{tally, tally_append, tally_none}
use Rattle.bd_audit.proofs.OwnersHearInOrder.Tracking.{is_weak, is_strong, waits, number, shaken}

-- ---- the items that are read

told_notice : (f : Option Identity) (o : Identity) → is_some_and f (same o) ≡ true → f ≡ Some o
told_notice f o e = search (arith, same_eq)

-- a return that is to be acknowledged in this strength
abbrev pub is_strength : Bool → Bool → Bool
is_strength b c = cond b c (not c)

module _ (o : Identity) (b : Bool) where
  one_shaking : (n k : ℕ) (c d : Bool) → is_shaking o c (reference_of n k o d Handshake) ≡ is_strength c d
  one_shaking n k c d = search (arith, eq_same)

  for_own : (n : ℕ) (cs : List Bool) (k : ℕ) → shaken (handshakes_for n k o cs) o b ≡ tally (is_strength b) cs
  for_own n [] k = refl
  for_own n (c ∷ cs) k = let e = for_own n cs (k + 1) in rw (one_shaking n k b c) omega arith

middle_false : (x y z : Bool) → y ≡ false → (x && y && z) ≡ false
middle_false x y z h = search arith

pub shakes_object : (o : Identity) (b : Bool) (r : Reference) → (r.object ≡ o → ⊥) → is_shaking o b r ≡ false
shakes_object o b r other = search (arith, same_eq, middle_false)

pub notice_is_of : (kind : WorkKind) (o : Identity) → is_notice o kind ≡ true → notice_of kind ≡ Some o
notice_is_of kind o e = ap notice_of (notice_kind o kind e)

module _ (s : Space) (o : Identity) where
  -- none of them is a Notice of the object
  abbrev pub Silent : List Work → Type 0
  Silent ws = (w : Work) → In w ws → notice_of w.kind ≡ Some o → ⊥

  unnoticed : (kind : WorkKind) → (notice_of kind ≡ Some o → ⊥) → is_notice o kind ≡ false
  unnoticed kind h = to_false (is_notice o kind) (λ e. h (notice_is_of kind o e))

  pub silent_heard : (ws : List Work) → Silent ws → heard_in s o ws ≡ []
  silent_heard [] h = refl
  silent_heard (w ∷ ws) h = rw (unnoticed w.kind (h w (inl refl))) (silent_heard ws (λ v l. h v (inr l)))

  pub silent_untold : (ws : List Work) → Silent ws → is_told_by ws o ≡ false
  silent_untold ws h = search (arith, any_found, told_notice)

  pub silent_shaken : (ws : List Work) (k : ℕ) (b : Bool) → Silent ws → shaken (handshakes s k ws) o b ≡ 0
  silent_shaken ws k b h =
      tally_none (is_shaking o b) (handshakes s k ws)
      (λ r l. let x = shaken_by s ws k r l in shakes_object o b r (λ e. h x.item x.here (x.tells ∙ ap (λ i. Some i) (sym (shaken_object s ws r x) ∙ e))))

  -- the Handshakes for a Notice of another object, or for no Notice
  other_shaken : (f : Option Identity) (cs : List Bool) (k : ℕ) (b : Bool) → (f ≡ Some o → ⊥)
      → shaken (elim f as (λ (g : Option Identity). List Reference) [ None ↦ [] | Some p ↦ handshakes_for s.steps k p cs ]) o b ≡ 0
  other_shaken None cs k b h = refl
  other_shaken (Some p) cs k b h =
      tally_none (is_shaking o b) (handshakes_for s.steps k p cs) (λ r l. shakes_object o b r (λ e. h (ap (λ i. Some i) (sym (for_object s.steps k p cs r l) ∙ e))))

  -- one of them, and one alone, is a Notice of the object
  rest_silent : (w : Work) (ws : List Work) → Once (w ∷ ws) → notice_of w.kind ≡ Some o → Silent ws
  rest_silent w ws h e v l f = h.0 v l o e f

  same_notice : (v w : Work) → v ≡ w → notice_of w.kind ≡ Some o → notice_of v.kind ≡ Some o
  same_notice v w is e = ap (λ (x : Work). notice_of x.kind) is ∙ e

  pub once_heard : (ws : List Work) → Once ws → (w : Work) → In w ws → notice_of w.kind ≡ Some o → heard_in s o ws ≡ filter_map event_of (returns_of s (work.Notice o))
  once_heard [] h w l e = absurd l
  once_heard (v ∷ ws) h w (inl is) e =
      let f = same_notice v w is e in
      rw (notice_is v.kind o f, notice_named v.kind o f, silent_heard ws (rest_silent v ws h f)) (append-nil (filter_map event_of (returns_of s (work.Notice o))))
  once_heard (v ∷ ws) h w (inr m) e = rw (unnoticed v.kind (λ f. h.0 w m o f e)) (once_heard ws h.1 w m e)

  pub once_shaken : (ws : List Work) (k : ℕ) (b : Bool) → Once ws → (w : Work) → In w ws → notice_of w.kind ≡ Some o
      → shaken (handshakes s k ws) o b ≡ tally (is_strength b) (flat_map shakes (returns_of s (work.Notice o)))
  once_shaken [] k b h w l e = absurd l
  once_shaken (v ∷ ws) k b h w (inl is) e =
      let f = same_notice v w is e in
      let hs = handshakes_of s k v.kind in
      let both = tally_append (is_shaking o b) hs (handshakes s (k + length hs) ws) in
      let own = ap (λ i. shaken (handshakes_of s k i) o b) (notice_named v.kind o f) ∙ for_own o b s.steps (flat_map shakes (returns_of s (work.Notice o))) k in
      let none = silent_shaken ws (k + length hs) b (rest_silent v ws h f) in omega arith
  once_shaken (v ∷ ws) k b h w (inr m) e =
      let hs = handshakes_of s k v.kind in
      let both = tally_append (is_shaking o b) hs (handshakes s (k + length hs) ws) in
      let none = other_shaken (notice_of v.kind) (flat_map shakes (returns_of s v.kind)) k b (λ f. h.0 w m o f e) in
      let rest = once_shaken ws (k + length hs) b h.1 w m e in omega arith

  pub told_or_silent : (ws : List Work) → ((w : Work) × In w ws × (notice_of w.kind ≡ Some o)) ⊎ Silent ws
  told_or_silent ws = at (is_told_by ws o) refl
    where
      at : (b : Bool) → is_told_by ws o ≡ b → ((w : Work) × In w ws × (notice_of w.kind ≡ Some o)) ⊎ Silent ws
      at b e = search (arith, any_found, told_notice, any_in, eq_same)

  pub speaks_told : (ws : List Work) (w : Work) → In w ws → notice_of w.kind ≡ Some o → is_told_by ws o ≡ true
  speaks_told ws w l e = any_in (λ (v : Work). is_some_and (notice_of v.kind) (same o)) w ws l (rw e (eq_same o o refl))

-- ---- what one Notice tells

-- by what is so, and what was told
abbrev pub returns_by : Bool → Bool → Bool → Bool → ℕ → ℕ → List Return
returns_by held strong told_weak told_strong ptr cookie =
    cond (held && not told_weak) (br.Increfs ptr cookie ∷ []) [] ++ cond (strong && not told_strong) (br.Acquire ptr cookie ∷ []) []
    ++ cond (told_strong && not strong) (br.Release ptr cookie ∷ []) [] ++ cond (told_weak && not held) (br.Decrefs ptr cookie ∷ []) []

-- what was heard goes on by these returns, to what is so
pub record Turned (st : Hearing) (held strong : Bool) (rs : List Return) : Type 0 where
  pub now : Hearing
  pub hears : hears_all st (filter_map event_of rs) ≡ Some now
  pub held_now : held ≡ is_weak now
  pub strong_now : strong ≡ is_strong now
  pub shakes : (b : Bool) → number (waits st b) + tally (is_strength b) (flat_map shakes rs) ≡ number (waits now b)
  pub over : now ≡ ended → held ≡ false

abbrev pub Turning : Hearing → Bool → Bool → ℕ → ℕ → Type 0
Turning st held strong ptr cookie =
    (strong ≡ true → held ≡ true) → ((b : Bool) → waits st b ≡ true → cond b strong held ≡ true) → (st ≡ ended → ⊥) → Turned st held strong (returns_by held strong (is_weak st) (is_strong st) ptr cookie)

pub at_each : (P : Bool → Type 0) → P true → P false → (b : Bool) → P b
at_each P h k b = search arith

pub turned : (st : Hearing) (ptr cookie : ℕ) (held strong : Bool) → Turning st held strong ptr cookie
turned st ptr cookie false true up keeps over = let wrong = up refl in absurd (cc)
turned unheard ptr cookie true true up keeps over = record { now = strongly true true; hears = refl; held_now = refl; strong_now = refl; shakes = at_each _ refl refl; over = λ e. absurd (cc) }
turned unheard ptr cookie true false up keeps over = record { now = weakly true; hears = refl; held_now = refl; strong_now = refl; shakes = at_each _ refl refl; over = λ e. absurd (cc) }
turned unheard ptr cookie false false up keeps over = record { now = unheard; hears = refl; held_now = refl; strong_now = refl; shakes = λ b. refl; over = λ e. absurd (cc) }
turned (weakly i) ptr cookie true true up keeps over =
    record { now = strongly i true; hears = refl; held_now = refl; strong_now = refl; shakes = at_each _ refl (omega arith); over = λ e. absurd (cc) }
turned (weakly i) ptr cookie true false up keeps over = record { now = weakly i; hears = refl; held_now = refl; strong_now = refl; shakes = λ b. omega arith; over = λ e. absurd (cc) }
turned (weakly true) ptr cookie false false up keeps over = let wrong = keeps false refl in absurd (cc)
turned (weakly false) ptr cookie false false up keeps over = record { now = ended; hears = refl; held_now = refl; strong_now = refl; shakes = at_each _ refl refl; over = λ e. refl }
turned (strongly i a) ptr cookie true true up keeps over = record { now = strongly i a; hears = refl; held_now = refl; strong_now = refl; shakes = λ b. omega arith; over = λ e. absurd (cc) }
turned (strongly i true) ptr cookie true false up keeps over = let wrong = keeps true refl in absurd (cc)
turned (strongly i false) ptr cookie true false up keeps over =
    record { now = weakly i; hears = refl; held_now = refl; strong_now = refl; shakes = at_each _ refl (omega arith); over = λ e. absurd (cc) }
turned (strongly true a) ptr cookie false false up keeps over = let wrong = keeps false refl in absurd (cc)
turned (strongly false true) ptr cookie false false up keeps over = let wrong = keeps true refl in absurd (cc)
turned (strongly false false) ptr cookie false false up keeps over = record { now = ended; hears = refl; held_now = refl; strong_now = refl; shakes = at_each _ refl refl; over = λ e. refl }
turned ended ptr cookie held strong up keeps over = absurd (over refl)
