-- How a write goes on: with the next command, or not at all.
use Rattle.bd_engine.proofs.{Commands.{cut_short, ended, turned_away, went_on}, Words.{Answer, Command, Course, Ends, Err, Fault, Found, FullOnly, GoesOn, GoesTo, Going, HasCome, HasPlace, HasRun, History, IsAfter, IsCommand, IsCourse, IsCutAt, IsNext, IsProgress, IsSame, IsTurnedAway, List, MatchResult, MemoryOnly, Note, Ok, Progress, Result, Some, Step, StepAnswer, StepError, Write, [], add-zero, ap, append-nil, arith, command_at, command_bytes, cond, course_of, course_or, drop, eqb-suc-zero, extended, fault_of, is_at_limit, length, length-drop, refl, space_after, step, step_of_command, stopped, subst, suc, sym, take, take-length, true, zero, ℕ, ◌+◌, ◌-◌, ◌<◌, ◌==◌, ◌∙◌, ◌∷◌, ◌≡◌, ◌≤◌}}
use Rattle.bd_space.specs.declared.step.StepAnswer.TheVariants as gave
use Rattle.bd_space.specs.declared.step.Stop.TheVariants as stop
use Rattle.bd_engine.specs.declared.write.Going.TheVariants as going
use Rattle.bd_engine.specs.Writing as writing

pub by_count : {A : Type 0} (P : A → Type 0) (n : ℕ) (a b : A) → (n ≡ 0 → P a) → (0 < n → P b) → P (cond (n == 0) a b)
by_count P zero a b first later = first refl
by_count P (suc n) a b first later = rw eqb-suc-zero (later (omega arith))

HasCome_same : (old now : History) (seat : ℕ) (stream area : List ℕ) (p q : Progress) → IsSame p q → HasCome old now seat stream area p → HasCome old now seat stream area q
HasCome_same old now seat stream area p q is h = rw (is.consumed, is.count, is.notes) h

goes : (old new : History) (seat : ℕ) (stream area : List ℕ) (r : Course) (consumed count : ℕ) (notes : List (ℕ × Note)) → GoesTo r consumed count notes
    → IsProgress old new seat stream area consumed count notes → IsCourse old new seat stream area consumed r
goes old new seat stream area (GoesOn p) consumed count notes is h = (rw (is.consumed_is, is.count_is, is.notes_are) h, is.consumed_is)
goes old new seat stream area (Ends answer) consumed count notes is h = absurd is

module _ (old now : History) (seat : ℕ) (stream area : List ℕ) (p : Progress) (come : HasCome old now seat stream area p) (c : Command) (size : ℕ) (is_next : IsNext stream p.consumed c size) where
  -- Where the command's step wasn't taken, the write is turned away as a whole or ends with what was done so far.
  cut : (why : StepError) (r : Result Course StepError) → IsCutAt p why r → FullOnly why (is_at_limit now seat (Some (step_of_command area c)) ≡ true) → MemoryOnly why (HasPlace now)
      → MatchResult r (λ course. IsCourse old now seat stream area (p.consumed + size) course) (λ w. (now ≡ old) × IsTurnedAway old seat (Write stream area) w)
  cut why r is full place =
      let P : Result Course StepError → Type 0 = λ r. MatchResult r (λ course. IsCourse old now seat stream area (p.consumed + size) course) (λ w. (now ≡ old) × IsTurnedAway old seat (Write stream area) w) in
      subst P (sym is) (by_count P p.count (Err why) (Ok (Ends (stopped p 0 (fault_of why))))
      (λ none. turned_away old now seat stream area p.consumed p.count p.notes.items come c size is_next none why full place)
      (λ some. rw add-zero (cut_short old now seat stream area p.consumed p.count p.notes.items come c size is_next some why full place)))

  module _ (new : History) where
    on : (a : StepAnswer) (r : Course) → IsAfter p a size r → a ≡ (step (space_after now) seat (step_of_command area c)).answer → new ≡ extended now seat (step_of_command area c) a
        → IsCourse old new seat stream area (p.consumed + size) r
    on (gave.Stopped x) r after is grown =
        subst (IsCourse old new seat stream area (p.consumed + size)) (sym after)
        (ended old now seat stream area p.consumed p.count p.notes.items come c size is_next new (gave.Stopped x) is grown (stop.Cause x) (λ w. refl) _ (λ h. refl) (λ h. refl))
    on (gave.Refused x) r after is grown =
        let P : Answer → Type 0 = λ answer. HasRun old new seat (Write stream area) answer (length old.entries) (length new.entries) in
        let last = ended old now seat stream area p.consumed p.count p.notes.items come c size is_next new (gave.Refused x) is grown (stop.Fault x) (λ w. refl) in
        subst (IsCourse old new seat stream area (p.consumed + size)) (sym after)
        (by_count P p.count _ (stopped p size x) (λ none. last _ (λ h. refl) (λ h. absurd (omega (arith, come.entries_counted)))) (λ some. last _ (λ h. absurd (omega (arith, come.entries_counted))) (λ h. refl)))
    on (gave.Noted n) r after is grown =
        goes old new seat stream area r _ _ _ after
        (went_on old now seat stream area p.consumed p.count p.notes.items come c size is_next new (gave.Noted n) is grown ((p.count, n) ∷ []) (λ w. refl) (λ w. refl))
    on a r after is grown =
        goes old new seat stream area r _ _ _ after
        (rw (← append-nil p.notes.items) (went_on old now seat stream area p.consumed p.count p.notes.items come c size is_next new a is grown [] (λ w. refl) (λ w. refl)))

-- ---- the command that was read

no_command : (bytes : List ℕ) (c : Command) (n : ℕ) → take n bytes ≡ command_bytes c → 0 < n
no_command bytes c zero e = absurd (cc)
no_command bytes c (suc n) e = omega arith

-- the rest of the stream, as it is sliced
rest_is : (stream : List ℕ) (at : ℕ) → take (length stream - at) (drop at stream) ≡ drop at stream
rest_is stream at = ap (λ n. take n (drop at stream)) (sym (length-drop at stream)) ∙ take-length (drop at stream)

pub next_read : (stream : List ℕ) (at : ℕ) (c : Command) (size : ℕ) → at < length stream
    → Found command_bytes IsCommand (take (length stream - at) (drop at stream)) c size
    → command_at (take (length stream - at) (drop at stream)) ≡ Ok (c, size) → IsNext stream at c size
next_read stream at c size within found read =
    let rest = rest_is stream at in
    let enough : size ≤ length (drop at stream) = rw (← rest) found.within in
    record {
      read = ap command_at (sym rest) ∙ read;
      some = no_command (take (length stream - at) (drop at stream)) c size found.spelled;
      fits = omega (arith, enough, length-drop at stream);
    }

pub next_fault : (stream : List ℕ) (at : ℕ) (x : Fault) → command_at (take (length stream - at) (drop at stream)) ≡ Err x → command_at (drop at stream) ≡ Err x
next_fault stream at x e = ap command_at (sym (rest_is stream at)) ∙ e

-- ---- how a write goes on, with room made for a note

-- A write whose step wasn't taken doesn't go on, as nothing of its command was consumed: its course is its run.
ends_in_brief : (old new : History) (seat : ℕ) (stream area : List ℕ) (q : Progress) (n : ℕ) (G : StepError → Type 0) (r : Result Going StepError)
    → q.consumed < n → MatchResult (course_or q r) (λ course. IsCourse old new seat stream area n course) G
    → MatchResult r (λ g. HasRun old new seat (Write stream area) (writing.ended q g) (length old.entries) (length new.entries)) G
ends_in_brief old new seat stream area q n G (Ok going.On) less m = absurd (omega (arith, less, m.1))
ends_in_brief old new seat stream area q n G (Ok (going.Stops y)) less m = m
ends_in_brief old new seat stream area q n G (Ok (going.Refused x)) less m = m
ends_in_brief old new seat stream area q n G (Err why) less m = m

pub course_cut : (old now new : History) (seat : ℕ) (stream area : List ℕ) (p q : Progress) (c : Command) (size : ℕ) (why : StepError) (r : Result Going StepError)
    → HasCome old now seat stream area p → IsNext stream p.consumed c size → IsSame p q → new ≡ now → IsCutAt q why (course_or q r)
    → FullOnly why (is_at_limit now seat (Some (step_of_command area c)) ≡ true) → MemoryOnly why (HasPlace now)
    → MatchResult r (λ g. HasRun old new seat (Write stream area) (writing.ended q g) (length old.entries) (length new.entries)) (λ w. (new ≡ old) × IsTurnedAway old seat (Write stream area) w)
course_cut old now new seat stream area p q c size why r come is_next same kept is full place =
    let next : IsNext stream q.consumed c size = rw same.consumed is_next in
    let F : Course → Type 0 = λ course. IsCourse old new seat stream area (p.consumed + size) course in
    let G : StepError → Type 0 = λ w. (new ≡ old) × IsTurnedAway old seat (Write stream area) w in
    let whole : MatchResult (course_or q r) F G =
    rw (kept, ← same.consumed) (cut old now seat stream area q (HasCome_same old now seat stream area p q same come) c size next why (course_or q r) is full place) in
    ends_in_brief old new seat stream area q (p.consumed + size) G r (omega (arith, same.consumed, is_next.some)) whole

pub course_on : (old now new : History) (seat y : ℕ) (stream area : List ℕ) (p q : Progress) (c : Command) (x : Step) (size : ℕ) (a : StepAnswer) (r : Course)
    → HasCome old now seat stream area p → IsNext stream p.consumed c size → IsSame p q → IsAfter q a size r
    → a ≡ (step (space_after now) y x).answer → new ≡ extended now y x a → y ≡ seat → x ≡ step_of_command area c
    → IsCourse old new seat stream area (p.consumed + size) r
course_on old now new seat y stream area p q c x size a r come is_next same after is grown seated stepped =
    let next : IsNext stream q.consumed c size = rw same.consumed is_next in
    let said = rw seated at (rw stepped at is) in
    let longer = rw seated at (rw stepped at grown) in
    rw (← same.consumed) (on old now seat stream area q (HasCome_same old now seat stream area p q same come) c size next new a r after said longer)
