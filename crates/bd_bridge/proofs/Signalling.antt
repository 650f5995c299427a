-- One thing more is told.
use Rattle.std.proofs.Common.{◌≡◌, ◌==◌, ◌&&◌, ◌+◌, ◌≤◌, ℕ, List, [], ◌∷◌, ◌++◌, Bool, true, false, cond, Some, None, Option, option_map, refl, sym, ap, subst, ◌∙◌, arith, count_by}
use Rattle.std.proofs.{lemmas.Bool.Decides.{nat_tests}, lemmas.Grind.{common_steps}}
use Rattle.bd_bridge.specs.declared.{signal.Signal.{Signal}, waiters.{Waiters.{Waiters}, Waiter.{Waiter}}, suspects.Suspects.{Suspects}, resting.Resting.{Resting}}
use Rattle.bd_bridge.specs.declared.signal.Signal.TheVariants.{Read, Bell}
use Rattle.bd_bridge.specs.{Waiting.{at}, Signals.{awakened, after_signal, after_signals, wakes, is_reading, seat_of, WaitsAfter, IsDue, AreDue, HaveHad, world_after, world_then}, Settled.{HasSettled}, Forgotten.{NobodyIsForgotten}}

-- ---- what a seat waits for

signals_more : {R : Type 0} (xs : List (Signal R)) (x : Signal R) (t : ℕ) (o : Option Waiter) → after_signals (xs ++ x ∷ []) t o ≡ after_signal x t (after_signals xs t o)
signals_more [] x t o = refl
signals_more (y ∷ ys) x t o = signals_more ys x t (after_signal y t o)

-- who is woken reads no more
awake_reads_not : (o : Option Waiter) → is_reading (awakened o) ≡ false
awake_reads_not None = refl
awake_reads_not (Some w) = at_bell w.has_doorbell
  where
    at_bell : (b : Bool) → is_reading (cond b (Some (record w { reads = None })) None) ≡ false
    at_bell true = refl
    at_bell false = refl

rings_reads_as : (o : Option Waiter) (b : Bool) → is_reading (option_map (λ (w : Waiter). record w { is_rung = b }) o) ≡ is_reading o
rings_reads_as None b = refl
rings_reads_as (Some w) b = refl

-- who doesn't read won't, whatever is told
reads_not : {R : Type 0} (x : Signal R) (t : ℕ) (o : Option Waiter) → is_reading o ≡ false → is_reading (after_signal x t o) ≡ false
reads_not (Read seat read woken) t o not_so = by (woken && (seat == t))
  where
    by : (b : Bool) → is_reading (cond b (awakened o) o) ≡ false
    by true = awake_reads_not o
    by false = not_so
reads_not (Bell seat rings) t o not_so = by (seat == t)
  where
    by : (b : Bool) → is_reading (cond b (option_map (λ (w : Waiter). record w { is_rung = rings }) o) o) ≡ false
    by true = rings_reads_as o rings ∙ not_so
    by false = not_so

woken_reads_not : {R : Type 0} (x : Signal R) (t : ℕ) (o : Option Waiter) → wakes t x ≡ true → is_reading (after_signal x t o) ≡ false
woken_reads_not (Read seat read woken) t o so = subst (λ b. is_reading (cond b (awakened o) o) ≡ false) (sym so) (awake_reads_not o)
woken_reads_not (Bell seat rings) t o so = cc

-- ---- who is woken

count_cons : {X : Type 0} (p : X → Bool) (x : X) (xs : List X) → count_by p (x ∷ xs) ≡ cond (p x) 1 0 + count_by p xs
count_cons p x xs = grind (arith, common_steps)

none_more : {X : Type 0} (p : X → Bool) (x : X) (xs : List X) → (p x ≡ true → ⊥) → count_by p xs ≡ 0 → count_by p (x ∷ xs) ≡ 0
none_more p x xs not_so later = by (p x) refl
  where
    by : (b : Bool) → p x ≡ b → count_by p (x ∷ xs) ≡ 0
    by true so = absurd (not_so so)
    by false so = count_cons p x xs ∙ rw (so, later) refl

once_more : {X : Type 0} (p : X → Bool) (x : X) (xs : List X) → (p x ≡ true → count_by p xs ≡ 0) → count_by p xs ≤ 1 → count_by p (x ∷ xs) ≤ 1
once_more p x xs none later = by (p x) refl
  where
    by : (b : Bool) → p x ≡ b → count_by p (x ∷ xs) ≤ 1
    by true so = let zero = none so in rw (count_cons p x xs, so) (omega (arith, zero))
    by false so = rw (count_cons p x xs, so) (omega (arith, later))

module _ {W R : Type 0} (Sees : W → ℕ → Bool → Type 0) (has_read : W → ℕ → R → W) (CanWait : W → ℕ → R → Type 0) where
  -- whoever is woken waited in a read
  was_reading : (h : W) (f : ℕ → Option Waiter) (x : Signal R) (t : ℕ) → IsDue (Sees h) (WaitsAfter has_read CanWait h) (f (seat_of x)) x → wakes t x ≡ true → is_reading (f t) ≡ true
  was_reading h f (Read seat read woken) t told so = let same : seat ≡ t = grind (arith, nat_tests, common_steps) in subst (λ k. is_reading (f k) ≡ true) same told.0
  was_reading h f (Bell seat rings) t told so = cc

  none_woken : (h : W) (f : ℕ → Option Waiter) (xs : List (Signal R)) (t : ℕ) → AreDue Sees has_read CanWait h f xs → is_reading (f t) ≡ false → count_by (wakes t) xs ≡ 0
  none_woken h f [] t course not_so = refl
  none_woken h f (x ∷ xs) t (told, rest) not_so =
      none_more (wakes t) x xs (λ so. let reads = was_reading h f x t told so in cc)
      (none_woken (world_after has_read h x) (λ u. after_signal x u (f u)) xs t rest (reads_not x t (f t) not_so))

  -- nobody is woken twice
  woken_once : (h : W) (f : ℕ → Option Waiter) (xs : List (Signal R)) (t : ℕ) → AreDue Sees has_read CanWait h f xs → count_by (wakes t) xs ≤ 1
  woken_once h f [] t course = omega arith
  woken_once h f (x ∷ xs) t (told, rest) =
      once_more (wakes t) x xs (λ so. none_woken (world_after has_read h x) (λ u. after_signal x u (f u)) xs t rest (woken_reads_not x t (f t) so))
      (woken_once (world_after has_read h x) (λ u. after_signal x u (f u)) xs t rest)

  -- ---- one more at the end

  pub world_more : (h : W) (xs : List (Signal R)) (x : Signal R) → world_then has_read h (xs ++ x ∷ []) ≡ world_after has_read (world_then has_read h xs) x
  world_more h [] x = refl
  world_more h (y ∷ ys) x = world_more (world_after has_read h y) ys x

  course_more : (h : W) (f : ℕ → Option Waiter) (xs : List (Signal R)) (x : Signal R)
      → AreDue Sees has_read CanWait h f xs → IsDue (Sees (world_then has_read h xs)) (WaitsAfter has_read CanWait (world_then has_read h xs)) (after_signals xs (seat_of x) (f (seat_of x))) x
      → AreDue Sees has_read CanWait h f (xs ++ x ∷ [])
  course_more h f [] x course told = (told, tt)
  course_more h f (y ∷ ys) x (first, rest) told = (first, course_more (world_after has_read h y) (λ u. after_signal y u (f u)) ys x rest told)

  module _ (h : W) (table : Waiters) (xs : List (Signal R)) (now : Waiters) where
    pub told_at : HaveHad Sees has_read CanWait h table xs now → (x : Signal R) (left : Waiters) (seat : ℕ) → seat_of x ≡ seat
        → IsDue (Sees (world_then has_read h xs)) (WaitsAfter has_read CanWait (world_then has_read h xs)) (at now seat) x → ((t : ℕ) → at left t ≡ after_signal x t (at now t))
        → HaveHad Sees has_read CanWait h table (xs ++ x ∷ []) left
    told_at so x left seat same told goes =
        let there : at now seat ≡ after_signals xs (seat_of x) (at table (seat_of x)) = so.waiting seat ∙ ap (λ k. after_signals xs k (at table k)) (sym same) in
        let course = course_more h (at table) xs x so.due (subst (λ o. IsDue (Sees (world_then has_read h xs)) (WaitsAfter has_read CanWait (world_then has_read h xs)) o x) there told) in
        record {
          waiting = λ t. goes t ∙ ap (after_signal x t) (so.waiting t) ∙ sym (signals_more xs x t (at table t));
          due = course;
          once = λ t. woken_once h (at table) (xs ++ x ∷ []) t course;
        }

-- ---- a look

module _ {S W R : Type 0} (Follows : S → W → Type 0) (Sees : W → ℕ → Bool → Type 0) (IsOf : W → ℕ → ℕ → Type 0) (has_read : W → ℕ → R → W) (CanWait : W → ℕ → R → Type 0) (CanRest : W → ℕ → Type 0)
    (h : W) (table : Waiters) (xs : List (Signal R)) (engine' : S) (now left : Waiters) (suspects' : Suspects) (resting' : Resting) where
  abbrev here : W
  here = world_then has_read h xs

  abbrev Leaves : W → Type 0
  Leaves w = Follows engine' w × NobodyIsForgotten (Sees w) (IsOf w) (CanRest w) left suspects' resting'

  -- one was told
  pub on_more : HaveHad Sees has_read CanWait h table xs now → (x : Signal R) (seat : ℕ) → seat_of x ≡ seat → IsDue (Sees here) (WaitsAfter has_read CanWait here) (at now seat) x
      → ((t : ℕ) → at left t ≡ after_signal x t (at now t)) → Leaves (world_after has_read here x)
      → HasSettled Follows Sees IsOf has_read CanWait CanRest h table (xs ++ x ∷ []) engine' left suspects' resting'
  on_more so x seat same told goes leaves =
      let more = sym (world_more Sees has_read CanWait h xs x) in
      let there : Leaves (world_then has_read h (xs ++ x ∷ [])) = subst Leaves more leaves in
      record { follows = there.0; watched = there.1; had = told_at Sees has_read CanWait h table xs now so x left seat same told goes }

  -- none was
  pub on_none : HaveHad Sees has_read CanWait h table xs now → left ≡ now → Leaves here → HasSettled Follows Sees IsOf has_read CanWait CanRest h table xs engine' left suspects' resting'
  on_none so same leaves =
      record { follows = leaves.0; watched = leaves.1; had = subst (λ u. HaveHad Sees has_read CanWait h table xs u) (sym same) so }
