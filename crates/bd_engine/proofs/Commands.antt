-- One command of a write after another.
use Rattle.bd_engine.proofs.{Keeping.{after_more}, Words.{AllBy, Answer, Command, Entry, Err, Fault, FullOnly, HasPlace, HasRun, History, HistoryFull, IsNext, IsProgress, IsRun, IsTurnedAway, IsUnrefused, List, MayStop, MemoryOnly, NoMemory, None, Note, Ok, Option, Readable, Result, Run, Some, Space, Step, StepAnswer, StepError, Stop, Write, Written, Wrote, [], add-one, add-zero, add_assoc, after, ap, append-nil, append_assoc, arith, command_at, commands_of, drop, drop-drop, drop_all, extended, false, fault_of, goes_on, inl, inr, is_at_limit, joined, le-ltb, length, length-append, length-drop, ltb, opening, option_map, readable, refl, run, run_of_written, space_after, step, step_after, step_of_command, subst, suc, sym, take, take-append_seam, true, write, write_first, written, wrote, zero, zero-add, ℕ, ◌++◌, ◌+◌, ◌-◌, ◌<◌, ◌∙◌, ◌∷◌, ◌≡◌, ◌≤◌}}
use Rattle.bd_space.specs.declared.step.StepAnswer.TheVariants as gave
use Rattle.bd_space.specs.declared.step.Stop.TheVariants as stop

-- ---- one entry more

space_extended : (h : History) (seat : ℕ) (x : Step) (a : StepAnswer) → space_after (extended h seat x a) ≡ (step (space_after h) seat x).space
unfolding space_after
space_extended h seat x a = after_more opening h.entries (record { seat = seat; step = x; answer = a })

AllBy_push : (seat : ℕ) (es : List Entry) (e : Entry) → AllBy seat es → e.seat ≡ seat → AllBy seat (es ++ e ∷ [])
AllBy_push seat [] e h is = (is, tt)
AllBy_push seat (x ∷ es) e h is = (h.0, AllBy_push seat es e h.1 is)

IsUnrefused_push : (es : List Entry) (e : Entry) → IsUnrefused es → IsUnrefused (e ∷ []) → IsUnrefused (es ++ e ∷ [])
IsUnrefused_push [] e h k = k
IsUnrefused_push (x ∷ es) e h k = h

-- an answer that begins with one that wasn't refused
wrote_unrefused : (es : List Entry) (w : Written) → IsUnrefused es → wrote w es ≡ Wrote w.consumed w.notes w.stop
wrote_unrefused [] w h = refl
wrote_unrefused (e ∷ es) w h = h w

-- ---- the next command

-- a command that is refused is the last
abbrev pub ends_here : Entry → ℕ → Stop → Written
ends_here e size x = record { entries = e ∷ []; consumed = size; notes = []; stop = Some x }

-- what a command's answer makes of the rest
abbrev pub turned : StepAnswer → Entry → ℕ → ℕ → Written → Written
turned a e size i rest =
    elim a [
      | gave.Stopped y ↦ ends_here e size (stop.Cause y)
      | gave.Refused y ↦ ends_here e size (stop.Fault y)
      | gave.Noted n ↦ goes_on e size ((i, n) ∷ []) rest
      | _ ↦ goes_on e size [] rest
    ]

written_cons : (s : Space) (seat : ℕ) (area : List ℕ) (i : ℕ) (c : Command × ℕ) (cs : List (Command × ℕ)) (fault : Option Fault) (a : StepAnswer)
    → a ≡ (step s seat (step_of_command area c.0)).answer
    → written s seat area i (c ∷ cs) fault
    ≡ turned a (record { seat = seat; step = step_of_command area c.0; answer = a }) c.1 i (written (step s seat (step_of_command area c.0)).space seat area (suc i) cs fault)
written_cons s seat area i c cs fault a is =
    ap (λ b. turned b (record { seat = seat; step = step_of_command area c.0; answer = b }) c.1 i (written (step s seat (step_of_command area c.0)).space seat area (suc i) cs fault)) (sym is)

turned_some : (a : StepAnswer) (e : Entry) (size i : ℕ) (rest : Written) → 0 < length (turned a e size i rest).entries
turned_some gave.Opened e size i rest = omega arith
turned_some gave.Set e size i rest = omega arith
turned_some gave.Exited e size i rest = omega arith
turned_some gave.Accepted e size i rest = omega arith
turned_some (gave.Noted n) e size i rest = omega arith
turned_some (gave.Stopped x) e size i rest = omega arith
turned_some (gave.Got x y z) e size i rest = omega arith
turned_some (gave.Refused x) e size i rest = omega arith

joined_goes_on : (run : List Entry) (consumed : ℕ) (notes : List (ℕ × Note)) (e : Entry) (size : ℕ) (ns : List (ℕ × Note)) (w : Written)
    → joined run consumed notes (goes_on e size ns w) ≡ joined (run ++ e ∷ []) (consumed + size) (notes ++ ns) w
joined_goes_on run consumed notes e size ns w = simp (append_assoc, add_assoc)

-- a stream that isn't at its end, by what its next command is
abbrev readable_from : ℕ → List ℕ → Result (Command × ℕ) Fault → Readable
readable_from n bytes (Ok c) = let rest = readable n (drop c.1 bytes) in record { commands = c ∷ rest.commands; fault = rest.fault }
readable_from n bytes (Err x) = record { commands = []; fault = Some x }

readable_next : (n : ℕ) (bytes : List ℕ) (r : Result (Command × ℕ) Fault) → 0 < length bytes → command_at bytes ≡ r
    → readable (suc n) bytes ≡ readable_from n bytes r
readable_next n [] r h e = absurd (omega arith)
readable_next n (b ∷ bs) r h e = ap (readable_from n (b ∷ bs)) e

readable_end : (n : ℕ) → readable n [] ≡ record { commands = []; fault = None }
readable_end zero = refl
readable_end (suc n) = refl

-- ---- counted commands

take_done : (done rest : List (Command × ℕ)) (n : ℕ) → length done ≡ n → take n (done ++ rest) ≡ done
take_done done rest n e = ap (λ k. take k (done ++ rest)) (sym e) ∙ take-append_seam done rest

step_after_done : (area : List ℕ) (done : List (Command × ℕ)) (c : Command × ℕ) (rest : List (Command × ℕ)) (n : ℕ) → length done ≡ n
    → step_after area n (done ++ c ∷ rest) ≡ Some (step_of_command area c.0)
step_after_done area [] c rest zero e = refl
step_after_done area [] c rest (suc n) e = absurd (omega arith)
step_after_done area (d ∷ done) c rest zero e = absurd (omega arith)
step_after_done area (d ∷ done) c rest (suc n) e = step_after_done area done c rest n (omega arith)

no_entries : (es : List Entry) → length es ≡ 0 → es ≡ []
no_entries [] e = refl
no_entries (x ∷ es) e = absurd (omega arith)

same_history : (h k : History) → h.seats ≡ k.seats → h.entries ≡ k.entries → h ≡ k
same_history h k seats entries =
    let f : ℕ → List Entry → History = λ n es. record { seats = n; entries = es } in
    ap (λ n. f n h.entries) seats ∙ ap (f k.seats) entries

may_stop : (why : StepError) (h : History) (seat : ℕ) (x : Option Step) → FullOnly why (is_at_limit h seat x ≡ true) → MemoryOnly why (HasPlace h) → MayStop (fault_of why) h seat x
may_stop NoMemory h seat x full place = place
may_stop HistoryFull h seat x full place = full

-- ---- the run of a write so far

pub begun : (h : History) (seat : ℕ) (stream area : List ℕ) (consumed count : ℕ) (notes : List (ℕ × Note)) → consumed ≡ 0 → count ≡ 0 → notes ≡ []
    → length stream ≤ 4096 → IsProgress h h seat stream area consumed count notes
unfolding commands_of
begun h seat stream area consumed count notes none_consumed none_counted none_noted short =
    rw (none_consumed, none_counted, none_noted) record {
      run = [];
      done = [];
      fuel = length stream;
      seats = refl;
      grown = sym (append-nil h.entries);
      by_seat = tt;
      unrefused = tt;
      entries_counted = refl;
      commands_counted = refl;
      goes_on = λ cs fault. simp zero-add;
      commands = refl;
      fault = refl;
      enough = omega arith;
      within = omega arith;
      few = omega arith;
      short = short;
    }

module _ (old now : History) (seat : ℕ) (stream area : List ℕ) (consumed count : ℕ) (notes : List (ℕ × Note)) (h : IsProgress old now seat stream area consumed count notes) where
  abbrev pub left : Readable
  left = readable h.fuel (drop consumed stream)

  -- the whole write goes on from here
  all_written : (cs : List (Command × ℕ)) (fault : Option Fault) → left ≡ record { commands = cs; fault = fault }
      → written (space_after old) seat area 0 (commands_of stream).commands (commands_of stream).fault
      ≡ joined h.run consumed notes (written (space_after now) seat area count cs fault)
  all_written cs fault e =
      let cs_are : (commands_of stream).commands ≡ h.done ++ cs = h.commands ∙ ap (λ (r : Readable). h.done ++ r.commands) e in
      let fault_is : (commands_of stream).fault ≡ fault = h.fault ∙ ap (λ (r : Readable). r.fault) e in
      rw (cs_are, fault_is) (h.goes_on cs fault)

  is_short : ltb 4096 (length stream) ≡ false
  is_short = le-ltb _ _ h.short

  -- A run whose entries and answer are those of the whole write is the write's run.
  whole : (new : History) (es : List Entry) (answer : Answer) (w : Written)
      → written (space_after old) seat area 0 (commands_of stream).commands (commands_of stream).fault ≡ w
      → new.seats ≡ old.seats → new.entries ≡ old.entries ++ es → AllBy seat es → es ≡ w.entries → answer ≡ wrote w w.entries
      → HasRun old new seat (Write stream area) answer (length old.entries) (length new.entries)
  unfolding IsRun run write
  whole new es answer w all seats grown by_seat entries said =
      let run_is : write (space_after old) seat stream area ≡ run_of_written w = rw is_short (ap run_of_written all) in
      record {
        seats = seats;
        run = es;
        grown = grown;
        by_seat = by_seat;
        is_run = inl (record { all = entries ∙ sym (ap (λ (r : Run). r.entries) run_is); said = said ∙ sym (ap (λ (r : Run). r.answer) run_is) });
        starts = refl;
        ends = refl;
      }

  -- Where no command follows, the run so far is the write's run.
  pub finished : (fault : Option Fault) → left ≡ record { commands = []; fault = fault }
      → HasRun old now seat (Write stream area) (Wrote consumed notes (option_map stop.Fault fault)) (length old.entries) (length now.entries)
  finished fault e =
      let w : Written = record { entries = h.run; consumed = consumed; notes = notes; stop = option_map stop.Fault fault } in
      let same : joined h.run consumed notes (written (space_after now) seat area count [] fault) ≡ w = simp (append-nil, add-zero) in
      whole now h.run _ w (all_written [] fault e ∙ same) h.seats h.grown h.by_seat refl (sym (wrote_unrefused h.run w h.unrefused))

  pub finished_end : length stream ≤ consumed → HasRun old now seat (Write stream area) (Wrote consumed notes None) (length old.entries) (length now.entries)
  finished_end k = finished None (ap (readable h.fuel) (drop_all consumed stream k) ∙ readable_end h.fuel)

  fuel_suc : consumed < length stream → h.fuel ≡ suc (h.fuel - 1)
  fuel_suc k = omega (arith, h.enough)

  pub finished_fault : (x : Fault) → consumed < length stream → command_at (drop consumed stream) ≡ Err x
      → HasRun old now seat (Write stream area) (Wrote consumed notes (Some (stop.Fault x))) (length old.entries) (length now.entries)
  finished_fault x k e = finished (Some x) (ap (λ n. readable n (drop consumed stream)) (fuel_suc k) ∙ readable_next (h.fuel - 1) (drop consumed stream) (Err x) (omega (arith, length-drop consumed stream)) e)

  -- What holds where a command follows.
  module _ (c : Command) (size : ℕ) (is_next : IsNext stream consumed c size) where
    abbrev others : Readable
    others = readable (h.fuel - 1) (drop (consumed + size) stream)

    left_command : left ≡ record { commands = (c, size) ∷ others.commands; fault = others.fault }
    left_command =
        ap (λ n. readable n (drop consumed stream)) (fuel_suc (omega (arith, is_next.some, is_next.fits)))
        ∙ readable_next (h.fuel - 1) (drop consumed stream) (Ok (c, size)) (omega (arith, length-drop consumed stream, is_next.some, is_next.fits)) is_next.read
        ∙ ap (λ bytes. let r = readable (h.fuel - 1) bytes in let x : Readable = record { commands = (c, size) ∷ r.commands; fault = r.fault } in x) (drop-drop size consumed stream)

    cs_are : (commands_of stream).commands ≡ h.done ++ (c, size) ∷ others.commands
    cs_are = h.commands ∙ ap (λ (r : Readable). h.done ++ r.commands) left_command

    next_step : step_after area count (commands_of stream).commands ≡ Some (step_of_command area c)
    next_step = ap (step_after area count) cs_are ∙ step_after_done area h.done (c, size) others.commands count h.commands_counted

    -- those so far, with this fault as the stop
    cut_here : Fault → Written
    cut_here x = record { entries = h.run; consumed = consumed; notes = notes; stop = Some (stop.Fault x) }

    first_are : (x : Fault) → write_first (space_after old) seat stream area count x ≡ run_of_written (cut_here x)
    unfolding write_first cut_here
    first_are x =
        let taken : take count (commands_of stream).commands ≡ h.done ++ [] =
        ap (take count) cs_are ∙ take_done h.done _ count h.commands_counted ∙ sym (append-nil h.done) in
        let here : joined h.run consumed notes (written (space_after now) seat area count [] (Some x)) ≡ cut_here x = simp (append-nil, add-zero) in
        ap run_of_written (ap (λ cs. written (space_after old) seat area 0 cs (Some x)) taken ∙ h.goes_on [] (Some x) ∙ here)

    -- the step that is left would have been one more entry
    more : count < length (write (space_after old) seat stream area).entries
    unfolding write
    more =
        let a = (step (space_after now) seat (step_of_command area c)).answer in
        let rest : Written = written (space_after now) seat area count ((c, size) ∷ others.commands) others.fault in
        let some : 0 < length rest.entries = turned_some a _ size count _ in
        let all : write (space_after old) seat stream area ≡ run_of_written (joined h.run consumed notes rest) =
        rw is_short (ap run_of_written (all_written ((c, size) ∷ others.commands) others.fault left_command)) in
        let n : length (write (space_after old) seat stream area).entries ≡ length h.run + length rest.entries =
        ap (λ (r : Run). length r.entries) all ∙ length-append h.run rest.entries in
        omega (arith, n, some, h.entries_counted)

    -- the first command's step wasn't taken
    pub turned_away : count ≡ 0 → (why : StepError) → FullOnly why (is_at_limit now seat (Some (step_of_command area c)) ≡ true) → MemoryOnly why (HasPlace now)
        → (now ≡ old) × IsTurnedAway old seat (Write stream area) why
    unfolding run
    turned_away none why full place =
        let grown : now.entries ≡ old.entries = h.grown ∙ ap (λ es. old.entries ++ es) (no_entries h.run (h.entries_counted ∙ none)) ∙ append-nil old.entries in
        let same : now ≡ old = same_history now old h.seats grown in
        let is_next_step : step_after area 0 (commands_of stream).commands ≡ Some (step_of_command area c) = ap (λ n. step_after area n (commands_of stream).commands) (sym none) ∙ next_step in
        let P : History → Option Step → Type 0 = λ k x. FullOnly why (is_at_limit k seat x ≡ true) in (
          same,
          record {
            full = subst (P old) (sym is_next_step) (subst (λ k. P k (Some (step_of_command area c))) same full);
            memory = subst (λ k. MemoryOnly why (HasPlace k)) same place;
            some = λ e. absurd (omega (arith, more, none, ap length e));
          },
        )

    -- a later one's wasn't
    pub cut_short : 0 < count → (why : StepError) → FullOnly why (is_at_limit now seat (Some (step_of_command area c)) ≡ true) → MemoryOnly why (HasPlace now)
        → HasRun old now seat (Write stream area) (Wrote consumed notes (Some (stop.Fault (fault_of why)))) (length old.entries) (length now.entries)
    unfolding IsRun cut_here
    cut_short some why full place =
        let so_far : History = record { seats = old.seats; entries = old.entries ++ h.run } in
        let same : now ≡ so_far = same_history now so_far h.seats h.grown in
        let P : History → Option Step → Type 0 = λ k x. FullOnly why (is_at_limit k seat x ≡ true) in
        let limit = subst (P so_far) (sym next_step) (subst (λ k. P k (Some (step_of_command area c))) same full) in
        let is = first_are (fault_of why) in
        record {
          seats = h.seats;
          run = h.run;
          grown = h.grown;
          by_seat = h.by_seat;
          is_run = inr (record {
            count = count;
            fault = fault_of why;
            some = some;
            fewer = more;
            entries = sym (ap (λ (r : Run). r.entries) is);
            answered = sym (ap (λ (r : Run). r.answer) is ∙ wrote_unrefused h.run (cut_here (fault_of why)) h.unrefused);
            why = may_stop why so_far seat _ limit (subst (λ k. MemoryOnly why (HasPlace k)) same place);
          });
          starts = refl;
          ends = refl;
        }

    module _ (new : History) (a : StepAnswer) (is : a ≡ (step (space_after now) seat (step_of_command area c)).answer) (grown : new ≡ extended now seat (step_of_command area c) a) where
      abbrev pub entry : Entry
      entry = record { seat = seat; step = step_of_command area c; answer = a }

      abbrev pub last : Stop → Written
      last y = record { entries = entry ∷ []; consumed = consumed + size; notes = notes; stop = Some y }

      new_seats : new.seats ≡ old.seats
      new_seats = ap (λ (k : History). k.seats) grown ∙ h.seats

      new_entries : new.entries ≡ old.entries ++ (h.run ++ entry ∷ [])
      new_entries = ap (λ (k : History). k.entries) grown ∙ ap (λ es. es ++ entry ∷ []) h.grown ∙ append_assoc old.entries h.run (entry ∷ [])

      said_last : (run : List Entry) (y : Stop) (answer : Answer) → IsUnrefused run → (length run ≡ 0 → answer ≡ wrote (last y) (entry ∷ []))
          → (0 < length run → answer ≡ Wrote (consumed + size) notes (Some y)) → answer ≡ wrote (last y) (run ++ entry ∷ [])
      said_last [] y answer fine first later = first refl
      said_last (x ∷ run) y answer fine first later = later (omega arith) ∙ sym (fine (last y))

      -- Where the write ends with this command's step, the run up to it is the write's run.
      pub ended : (y : Stop) → ((w : Written) → turned a entry size count w ≡ ends_here entry size y) → (answer : Answer)
          → (length h.run ≡ 0 → answer ≡ wrote (last y) (entry ∷ [])) → (0 < length h.run → answer ≡ Wrote (consumed + size) notes (Some y))
          → HasRun old new seat (Write stream area) answer (length old.entries) (length new.entries)
      ended y turns answer first later =
          let w : Written = record { entries = h.run ++ entry ∷ []; consumed = consumed + size; notes = notes; stop = Some y } in
          let here : joined h.run consumed notes (ends_here entry size y) ≡ w = simp append-nil in
          let all = all_written ((c, size) ∷ others.commands) others.fault left_command
          ∙ ap (joined h.run consumed notes) (written_cons (space_after now) seat area count (c, size) others.commands others.fault a is ∙ turns _) ∙ here in
          whole new (h.run ++ entry ∷ []) answer w all new_seats new_entries (AllBy_push seat h.run entry h.by_seat refl) refl (said_last h.run y answer h.unrefused first later)

      -- Where the write goes on behind this command, its step is part of the run so far.
      pub went_on : (ns : List (ℕ × Note)) → ((w : Written) → turned a entry size count w ≡ goes_on entry size ns w) → IsUnrefused (entry ∷ [])
          → IsProgress old new seat stream area (consumed + size) (count + 1) (notes ++ ns)
      went_on ns turns fine = record {
        run = h.run ++ entry ∷ [];
        done = h.done ++ (c, size) ∷ [];
        fuel = h.fuel - 1;
        seats = new_seats;
        grown = new_entries;
        by_seat = AllBy_push seat h.run entry h.by_seat refl;
        unrefused = IsUnrefused_push h.run entry h.unrefused fine;
        entries_counted = length-append h.run (entry ∷ []) ∙ ap (λ n. n + 1) h.entries_counted;
        commands_counted = length-append h.done ((c, size) ∷ []) ∙ ap (λ n. n + 1) h.commands_counted;
        goes_on = λ cs fault.
            ap (λ ds. written (space_after old) seat area 0 ds fault) (append_assoc h.done ((c, size) ∷ []) cs)
            ∙ h.goes_on ((c, size) ∷ cs) fault
            ∙ ap (joined h.run consumed notes) (written_cons (space_after now) seat area count (c, size) cs fault a is ∙ turns _)
            ∙ joined_goes_on h.run consumed notes entry size ns _
            ∙ ap (joined (h.run ++ entry ∷ []) (consumed + size) (notes ++ ns)) (on cs fault);
        commands = cs_are ∙ sym (append_assoc h.done ((c, size) ∷ []) others.commands);
        fault = h.fault ∙ ap (λ (r : Readable). r.fault) left_command;
        enough = omega (arith, h.enough, is_next.some, is_next.fits);
        within = is_next.fits;
        few = omega (arith, h.few, is_next.some);
        short = h.short;
      }
        where
          on : (cs : List (Command × ℕ)) (fault : Option Fault)
              → written (step (space_after now) seat (step_of_command area c)).space seat area (suc count) cs fault ≡ written (space_after new) seat area (count + 1) cs fault
          on cs fault =
              let space_is : (step (space_after now) seat (step_of_command area c)).space ≡ space_after new = sym (space_extended now seat (step_of_command area c) a) ∙ ap space_after (sym grown) in
              ap (λ s. written s seat area (suc count) cs fault) space_is ∙ ap (λ n. written (space_after new) seat area n cs fault) (sym (add-one count))
