-- What a live engine follows, from step to step.
use Rattle.bd_engine.proofs.Words.{Before, Bool, Entry, EntryFollows, Follows, History, List, Live, Some, Space, Step, StepAnswer, Tables, WindowsOf, Within, [], after, always_steps, ap, arith, change, counted, extended, false, has_number_past_limit, history_of, is_at_end, is_at_limit, le-leb, leb-false, leb-true, length, length-append, list_all-append, lt-ltb, nat_le, nat_lt, next, numbers_fit, opening, or-true, refl, space_after, step, subst, suc, sym, true, ℕ, ◌&&◌, ◌++◌, ◌+◌, ◌<◌, ◌||◌, ◌∙◌, ◌∷◌, ◌≡◌, ◌≤◌}
use Rattle.bd_space.specs.Histories.{Follows as EntriesFollow}

pub follows_new : (l : Live) (seats : ℕ) → l.seats ≡ seats → 1 ≤ seats → seats ≤ 65536 → Before l.tables.value opening → Follows l (history_of seats [])
unfolding space_after
follows_new l seats same some few stands = record {
  seats_are = same;
  some = some;
  few = few;
  lawful = record { short = omega arith; seats = refl; follows = tt };
  stands = stands;
}

-- ---- one entry more

pub after_more : (s : Space) (es : List Entry) (e : Entry) → after s (es ++ e ∷ []) ≡ next (after s es) e
after_more s [] e = refl
after_more s (x ∷ xs) e = after_more (next s x) xs e

follows_more : (s : Space) (es : List Entry) (e : Entry) → EntriesFollow s es → EntryFollows (after s es) e → EntriesFollow s (es ++ e ∷ [])
follows_more s [] e f k = (k, tt)
follows_more s (x ∷ xs) e f k = (f.0, follows_more (next s x) xs e f.1 k)

-- ---- the place of the next step

pub place : (h : History) → (space_after h).steps ≡ length h.entries
unfolding space_after
place h = always_steps h.entries

-- ---- after a step

counted_stands : (t : Tables) (z : Space) → Within t z → Before (record t { steps = t.steps + 1 }) (counted z)
unfolding counted
counted_stands t z h =
    let more : z.steps + 1 ≡ suc z.steps = omega arith in
    record {
      own = record {
        steps_are = sym more ∙ ap (λ n. n + 1) h.own.steps_are;
        processes_are = h.own.processes_are;
        manager_is = h.own.manager_is;
      };
      objects_stand = h.objects_stand;
      calls_stand = h.calls_stand;
      windows_stand = subst (λ n. WindowsOf t.windows n z.processes z.buffers) more h.windows_stand;
    }

-- a live engine whose tables made the step, and count it
pub follows_step : (h : History) (old new : Live) (t : Tables) (seat : ℕ) (x : Step) (answer : StepAnswer) → Follows old h → seat < h.seats → length h.entries < 18446744073709551615
    → answer ≡ (change (space_after h) seat x).answer → Within t (change (space_after h) seat x).space
    → new.seats ≡ old.seats → new.tables.value ≡ record t { steps = t.steps + 1 } → Follows new (extended h seat x answer)
unfolding space_after counted change
follows_step h old new t seat x answer k seated short answered stands same is =
    let s = space_after h in
    let z = (change s seat x).space in
    let e : Entry = record { seat = seat; step = x; answer = answer } in
    let lt = lt-ltb seat h.seats seated in
    record {
      seats_are = same ∙ k.seats_are;
      some = k.some;
      few = k.few;
      lawful = record {
        short = omega (arith, length-append h.entries (e ∷ []));
        seats = list_all-append (λ (y : Entry). nat_lt y.seat h.seats) h.entries (e ∷ []) ∙ ap (λ b. b && (nat_lt seat h.seats && true)) k.lawful.seats ∙ ap (λ b. b && true) lt;
        follows = follows_more opening h.entries e k.lawful.follows (record { answer = sym answered; numbers = numbers_fit _ _ _ _ _ stands.objects_stand });
      };
      stands = subst (λ (u : Tables). Before u (after opening (h.entries ++ e ∷ []))) (sym is)
          (subst (Before (record t { steps = t.steps + 1 })) (sym (after_more opening h.entries e)) (counted_stands t z stands));
    }

-- ---- a step that is refused

pub follows_kept : (h : History) (old new : Live) → Follows old h → new.seats ≡ old.seats → Before new.tables.value (space_after h) → Follows new h
follows_kept h old new k same stands = record { seats_are = same ∙ k.seats_are; some = k.some; few = k.few; lawful = k.lawful; stands = stands }

-- ---- why a step is refused

pub full_at_length : (h : History) (seat : ℕ) (x : Step) → nat_le 4294967295 (length h.entries) ≡ true → is_at_limit h seat (Some x) ≡ true
unfolding is_at_limit
full_at_length h seat x e = ap (λ b. b || has_number_past_limit (step (space_after h) seat x).space.names) e

pub short_of_full : (h k : History) (b : Bool) → b ≡ nat_le 4294967295 (length k.entries) → b ≡ false → h ≡ k → length h.entries < 4294967295
short_of_full h k b is fewer same = leb-false _ _ (ap (λ (z : History). nat_le 4294967295 (length z.entries)) same ∙ sym is ∙ fewer)

-- of an engine that keeps no history
pub end_at_length : (h : History) (seat : ℕ) (x : Step) → nat_le 18446744073709551615 (length h.entries) ≡ true → is_at_end h seat (Some x) ≡ true
unfolding is_at_end
end_at_length h seat x e = ap (λ b. b || has_number_past_limit (step (space_after h) seat x).space.names) e

pub end_by_number : (h : History) (seat : ℕ) (x : Step) → has_number_past_limit (change (space_after h) seat x).space.names ≡ true → is_at_end h seat (Some x) ≡ true
unfolding is_at_end counted
end_by_number h seat x e = ap (λ b. nat_le 18446744073709551615 (length h.entries) || b) e ∙ or-true (nat_le 18446744073709551615 (length h.entries))

-- whoever has no place of 64 bits left has none of 32
pub limit_at_end : (h : History) (seat : ℕ) (x : Step) → is_at_end h seat (Some x) ≡ true → is_at_limit h seat (Some x) ≡ true
unfolding is_at_end is_at_limit
limit_at_end h seat x e = either (nat_le 18446744073709551615 (length h.entries)) (has_number_past_limit (step (space_after h) seat x).space.names) refl e
  where
    either : (long past : Bool) → nat_le 18446744073709551615 (length h.entries) ≡ long → (long || past) ≡ true → (nat_le 4294967295 (length h.entries) || past) ≡ true
    either true past is e =
        let far = leb-true _ _ is in
        let long : nat_le 4294967295 (length h.entries) ≡ true = le-leb 4294967295 (length h.entries) (omega (arith, far)) in
        ap (λ b. b || past) long
    either false past is e = ap (λ b. nat_le 4294967295 (length h.entries) || b) e ∙ or-true (nat_le 4294967295 (length h.entries))

-- ---- an engine, which holds the entries

more_is : (h : History) (seat : ℕ) (x : Step) (e : Entry) (n : ℕ) (es : List Entry) → e.seat ≡ seat → e.step ≡ x → n ≡ h.seats → es ≡ h.entries ++ e ∷ []
    → history_of n es ≡ extended h seat x e.answer
more_is h seat x e n es seat_is step_is seats grown =
    let entry : e ≡ record { seat = seat; step = x; answer = e.answer } =
    ap (λ (m : ℕ). let r : Entry = record { seat = m; step = e.step; answer = e.answer } in r) seat_is
    ∙ ap (λ (y : Step). let r : Entry = record { seat = seat; step = y; answer = e.answer } in r) step_is in
    ap (history_of n) (grown ∙ ap (λ (y : Entry). h.entries ++ y ∷ []) entry) ∙ ap (λ m. history_of m (extended h seat x e.answer).entries) seats

pub follows_entered : (h : History) (new : Live) (seat : ℕ) (x : Step) (e : Entry) (n : ℕ) (es : List Entry) → e.seat ≡ seat → e.step ≡ x
    → Follows new (extended h seat x e.answer) → n ≡ h.seats → es ≡ h.entries ++ e ∷ [] → Follows new (history_of n es)
follows_entered h new seat x e n es seat_is step_is follows seats grown = subst (Follows new) (sym (more_is h seat x e n es seat_is step_is seats grown)) follows
