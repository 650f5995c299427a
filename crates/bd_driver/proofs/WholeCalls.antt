-- What a whole call says, from what its parts say.
use Rattle.bd_driver.proofs.{Views.{starts_longer}, Words.{AllBy, Answer, Back, BeginsWith, Calls, Done, Entry, Err, Follows, FullOnly, Gives, Hands, HasEntry, HasPlace, HasRun, History, IfErr, IfOk, IsAtLimit, IsRun, IsWhy, List, MatchResult, MemoryOnly, Ok, OnErr, PageSteps, Request, Result, Slot, Some, Span, StepError, Takes, View, Why, [], ap, append-nil, arith, history_of, length, length-append, outcome_of, places, published_at, put_at, reason_of, refl, subst, sym, took_at, view_of, ℕ, ◌++◌, ◌-◌, ◌∙◌, ◌≡◌, ◌≤◌}}
use Rattle.bd_engine.specs.StepError.TheVariants.{NoMemory as Memory, HistoryFull as Full}

-- what an engine has run that was taken is of this seat, and comes after what the seat has then seen
pub run_follows : (v : View) (number : ℕ) (me : number ≡ v.who) (xs : List (ℕ × Slot)) (m : Hands) (e0 e1 : History) (request : Request) → Takes v xs m (Some e0)
    → (told : Answer) (ran : Result Span StepError) → IfOk ran (λ x. HasRun e0 e1 number request told x.from x.to) → OnErr ran (e1 ≡ e0) → Follows (view_of m.0) e1
run_follows v number me xs m e0 e1 request t told (Ok x) h same = subst (λ w. Follows w e1) (sym (ap view_of t.view)) (record {
  seats = h.seats ∙ ap (λ (e : History). e.seats) t.engine.1;
  run = h.run;
  grown = h.grown ∙ ap (λ (e : History). e.entries ++ h.run) t.engine.1;
  by_seat = subst (λ z. AllBy z h.run) me h.by_seat;
})
run_follows v number me xs m e0 e1 request t told (Err why) h same = subst (λ w. Follows w e1) (sym (ap view_of t.view)) (record {
  seats = ap (λ (e : History). e.seats) (same ∙ t.engine.1);
  run = [];
  grown = ap (λ (e : History). e.entries) (same ∙ t.engine.1) ∙ sym (append-nil t.entries);
  by_seat = tt;
})

module _ (v : View) (number : ℕ) (me : number ≡ v.who) (m m' : Hands) (e0 e1 : History) (request : Request) (xs : List (ℕ × Slot)) (t : Takes v xs m (Some e0)) (g : Gives (view_of m.0) xs e1.entries m') where
  abbrev w : View
  w = put_at (published_at (took_at v t.word t.entries) g.0 e1.entries) g.1

  w_is : view_of m'.0 ≡ w
  w_is = ap view_of g.2 ∙ ap (λ l. put_at (published_at (view_of l) g.0 e1.entries) g.1) t.view

  entries_are : e0.entries ≡ t.entries
  entries_are = ap (λ (e : History). e.entries) t.engine.1

  -- the engine's history before the run
  history_is : e0 ≡ history_of v.seats t.entries
  history_is = t.engine.1

  done_calls : (answer : Answer) (start end : ℕ) → HasRun e0 e1 number request answer start end → Calls v (view_of m'.0) request (Done answer start end)
  done_calls answer start end r =
      let run = r.run in
      let grown : e1.entries ≡ t.entries ++ run = r.grown ∙ ap (λ l. l ++ run) entries_are in
      let starts : start ≡ length t.entries = r.starts ∙ ap length entries_are in
      let count : length e1.entries - length t.entries ≡ length run = let a = ap (length {A = Entry}) grown in let b = length-append t.entries run in omega arith in
      let own : w.own ≡ v.own ++ places start (length run) = (λ i. v.own ++ places (sym starts i) (count i)) in
      let seen_first : length v.seen ≤ start = let a = ap (length {A = Entry}) t.begins.1 in let b = length-append v.seen t.begins.0 in omega arith in
      subst (λ x. Calls v x request (Done answer start end)) (sym w_is) (record {
        who = (refl, refl);
        one_take = refl;
        no_look = refl;
        no_mail = (refl, refl, refl, refl, refl, refl);
        no_opening = (refl, refl);
        page = (refl, refl);
        handover = refl;
        begins = subst (λ l. BeginsWith l v.seen) (sym grown) (starts_longer t.entries run v.seen t.begins);
        outcome = record {
          was_free = t.engine.0;
          before = t.entries;
          run = run;
          seen = grown;
          starts = starts;
          ends = r.ends;
          after_seen = seen_first;
          by_seat = subst (λ z. AllBy z run) me r.by_seat;
          is_run = subst (λ (z : History × ℕ). IsRun z.0 z.1 request run answer) (λ i. (history_is i, me i)) r.is_run;
          own = own;
        };
      })

  page : (why : StepError) → PageSteps v w (Back request (reason_of why))
  page Memory = (refl, refl)
  page Full = (refl, refl)

  back_calls : (why : StepError) → e1 ≡ e0 → IsWhy w request (reason_of why) → Calls v (view_of m'.0) request (Back request (reason_of why))
  back_calls why same is =
      let entries : e1.entries ≡ t.entries = ap (λ (e : History). e.entries) same ∙ entries_are in
      let none_more : length e1.entries - length t.entries ≡ 0 = let a = ap (length {A = Entry}) entries in omega arith in
      subst (λ x. Calls v x request (Back request (reason_of why))) (sym w_is) (record {
        who = (refl, refl);
        one_take = refl;
        no_look = refl;
        no_mail = (refl, refl, refl, refl, refl, refl);
        no_opening = (refl, refl);
        page = page why;
        handover = refl;
        begins = subst (λ l. BeginsWith l v.seen) (sym entries) t.begins;
        outcome = (refl, ap (λ c. v.own ++ places (length t.entries) c) none_more ∙ append-nil v.own, is);
      })

  -- what holds of the engine's history before a run that was refused holds of what the seat has seen after
  then_seen : (P : History → ℕ → Type 0) → e1 ≡ e0 → P e0 number → P (history_of v.seats e1.entries) v.who
  then_seen P same = subst (λ (z : History × ℕ). P z.0 z.1) (λ i. ((history_is ∙ ap (history_of v.seats) (sym entries_are ∙ ap (λ (e : History). e.entries) (sym same))) i, me i))

  is_why : (why : StepError) → e1 ≡ e0 → FullOnly why (IsAtLimit e0 number request) → MemoryOnly why (HasPlace e0) → HasEntry e0 number request → IsWhy w request (reason_of why)
  is_why Memory same full place some = (t.engine.0, then_seen (λ h _. HasPlace h) same place, then_seen (λ h n. HasEntry h n request) same some)
  is_why Full same full place some = (t.engine.0, then_seen (λ h n. IsAtLimit h n request) same full, then_seen (λ h n. HasEntry h n request) same some)

  -- a call that ran, or was refused
  pub call_ends : (told : Answer) (ran : Result Span StepError) (said : Result Span Why) → MatchResult ran (λ span. said ≡ Ok span) (λ why. said ≡ Err (reason_of why)) → IfOk ran (λ span. HasRun e0 e1 number request told span.from span.to)
      → OnErr ran (e1 ≡ e0) → IfErr ran (λ why. FullOnly why (IsAtLimit e0 number request)) → IfErr ran (λ why. MemoryOnly why (HasPlace e0)) → IfErr ran (λ _. HasEntry e0 number request)
      → Calls v (view_of m'.0) request (outcome_of request told said)
  call_ends told (Ok span) said is run same full place some =
      subst (λ (x : Result Span Why). Calls v (view_of m'.0) request (outcome_of request told x)) (sym is) (done_calls told span.from span.to run)
  call_ends told (Err why) said is run same full place some =
      subst (λ (x : Result Span Why). Calls v (view_of m'.0) request (outcome_of request told x)) (sym is) (back_calls why same (is_why why same full place some))
