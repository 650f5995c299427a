-- A run of one step, and a write of none.
use Rattle.bd_engine.proofs.Words.{Answer, Entry, Err, FullOnly, HasEntry, HasRun, History, IfErr, IfOk, IsAtLimit, IsOneStep, IsRun, List, Ok, OnErr, Ran, Refused, Request, Result, Run, Some, Space, Step, StepAnswer, StepError, StreamTooLong, Write, [], answered, ap, append-nil, arith, extended, inl, is_at_limit, length, lt-ltb, ltb, refl, run, single, space_after, step, subst, sym, true, write, ℕ, ◌<◌, ◌∙◌, ◌∷◌, ◌≡◌}

pub single_has_run : (old new : History) (seat : ℕ) (x : Step) (a : StepAnswer) (said : Answer) (from to : ℕ) (request : Request)
    → new ≡ extended old seat x a → a ≡ (step (space_after old) seat x).answer → said ≡ answered a → from ≡ length old.entries → to ≡ length new.entries
    → ((s : Space) → run s seat request ≡ single s seat x) → HasRun old new seat request said from to
unfolding IsRun
single_has_run old new seat x a said from to request grown is said_is starts ends one =
    let e : Entry = record { seat = seat; step = x; answer = a } in
    let same : run (space_after old) seat request ≡ record { entries = e ∷ []; answer = answered a } =
    one (space_after old) ∙ ap (λ b. let r : Run = record { entries = record { seat = seat; step = x; answer = b } ∷ []; answer = answered b } in r) (sym is) in
    record {
      seats = ap (λ (h : History). h.seats) grown;
      run = e ∷ [];
      grown = ap (λ (h : History). h.entries) grown;
      by_seat = (refl, tt);
      is_run = inl (record { all = sym (ap (λ (r : Run). r.entries) same); said = said_is ∙ sym (ap (λ (r : Run). r.answer) same) });
      starts = starts;
      ends = ends;
    }

pub too_long_has_run : (h : History) (seat : ℕ) (stream area : List ℕ) (at : ℕ) → 4096 < length stream → at ≡ length h.entries
    → HasRun h h seat (Write stream area) (Refused StreamTooLong) at at
unfolding IsRun run write
too_long_has_run h seat stream area at long here =
    let is_long : ltb 4096 (length stream) ≡ true = lt-ltb _ _ long in
    let none : Run = record { entries = []; answer = Refused StreamTooLong } in
    let same : write (space_after h) seat stream area ≡ none = rw is_long refl in
    record {
      seats = refl;
      run = [];
      grown = sym (append-nil h.entries);
      by_seat = tt;
      is_run = inl (record { all = sym (ap (λ (r : Run). r.entries) same); said = sym (ap (λ (r : Run). r.answer) same) });
      starts = here;
      ends = here;
    }

-- ---- a request that is one step

module _ (h : History) (seat : ℕ) (request : Request) (x : Step) (is : IsOneStep request x) where
  one_entry : HasEntry h seat request
  one_entry e = absurd (omega (arith, ap length (sym (ap (λ (r : Run). r.entries) (is.runs (space_after h) seat)) ∙ e)))

  pub one_some : {A : Type 0} (r : Result A StepError) → IfErr r (λ w. HasEntry h seat request)
  one_some (Ok y) = tt
  one_some (Err why) = one_entry

  pub one_full : {A : Type 0} (r : Result A StepError) → IfErr r (λ why. FullOnly why (is_at_limit h seat (Some x) ≡ true)) → IfErr r (λ why. FullOnly why (IsAtLimit h seat request))
  one_full r full = subst (λ o. IfErr r (λ why. FullOnly why (is_at_limit h seat o ≡ true))) (sym is.first) full
