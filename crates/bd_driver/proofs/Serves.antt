-- The parts of `serve`: their steps at given hands, and what they come to.
use Rattle.bd_driver.proofs.{MailboxSteps.{answers, picks, serves}, Views.{starts_all}, Words.{Allows, Answer, Answered, AnswersAll, AnswersOne, AnswersPick, Back, BeginsWith, Bool, Done, Empty, Entry, Err, FollowsFor, FullOnly, HadReason, Handed, Hands, HasEntry, HasPlace, HasRun, History, Home, IfErr, IfOk, IsAtLimit, IsPicked, IsReason, IsRun, IsTold, Kept, Letter, List, MatchBool, MatchResult, MemoryOnly, None, Nothing, Ok, OnErr, OnlyServes, Outcome, Picked, Picking, PicksOne, Ran, RanPicked, Request, Result, RunAt, RunsAs, ServedAll, ServedOne, Serves, Serving, Slot, Some, StepError, Takes, Tally, View, [], answer_places, answered_as, answered_at, ap, append-nil, append_assoc, arith, cond, either, entries_in, eq-eqb, eqb, false, history_of, if◌then◌else◌, inl, inr, length, length-append, letter_ticks, letter_to, ne_eqb, none, ones, page_word, picked_as, picked_at, places, put_at, ready_of, reason_of, refl, rest, served, served_as, served_at, slice_set, step, subst, suc, sym, tally_at, tick, ticks, took_at, true, view_of, with_places, ℕ, ◌%◌, ◌++◌, ◌+◌, ◌-◌, ◌<◌, ◌==◌, ◌∙◌, ◌∷◌, ◌≡◌, ◌≢◌}}
use Rattle.bd_engine.specs.StepError.TheVariants.{NoMemory as Memory, HistoryFull as Full}
use Rattle.bd_engine.specs.declared.run.Ran.{Ran as HasRan}

pub picks_at : (seats slots id : ℕ) (me : Hands) (i word : ℕ) → word ≡ suc i → me.0 ≡ view_of me.0 ∷ [] → (view_of me.0).taker ≡ true → (view_of me.0).pick ≡ Nothing → i < seats
    → Allows (Kept seats) slots id me word (λ n. either (eqb n 1) 2 n) (picked_as (step slots word 1 2 none) me)
picks_at seats slots id me i word at one on none_yet below =
    subst (λ (w : ℕ). Allows (Kept seats) slots id me w (λ n. either (eqb n 1) 2 n) (picked_as (step slots w 1 2 none) me)) (sym at) (picks seats slots id me one on i below none_yet)

pub serves_at : (seats slots id : ℕ) (me : Hands) (v : View) (xs : List (ℕ × Slot)) (slot i : ℕ) (e : History) (new : ℕ) → me ≡ (v ∷ [], (slot, Home e) ∷ xs) → v.taker ≡ true → FollowsFor v i e
    → new ≡ page_word v.seats 1 e.entries → (length e.entries < 4294967296) × (ready_of v.seats e.entries < 2147483648) → Allows (Kept seats) slots id me 0 (λ _. new) (served (step slots 0 new 0 none) me)
serves_at seats slots id me v xs slot i e new is on f page fits =
    subst (λ (m : Hands). Allows (Kept seats) slots id m 0 (λ _. new) (served (step slots 0 new 0 none) m)) (sym is)
    (serves seats slots id (v ∷ [], (slot, Home e) ∷ xs) refl on i f.request f.since f.run new f.pick f.grown f.by_seat f.runs page fits)

pub after_serve : (m m' : Hands) (v : View) (xs : List (ℕ × Slot)) (slot : ℕ) (e : History) (n : ℕ) → m ≡ (v ∷ [], (slot, Home e) ∷ xs) → m' ≡ (served_at (view_of m.0) n (entries_in m.1) ∷ [], m.1)
    → m' ≡ (served_at v n e.entries ∷ [], (slot, Home e) ∷ xs)
after_serve m m' v xs slot e n is after = after ∙ ap (λ (x : Hands). (served_at (view_of x.0) n (entries_in x.1) ∷ [], x.1)) is

pub answers_at : (seats slots id : ℕ) (me : Hands) (v : View) (xs : List (ℕ × Slot)) (i word : ℕ) (o : Outcome) → me ≡ (v ∷ [], (word, Answered o) ∷ xs) → word ≡ suc i → v.taker ≡ true → AnswersPick v i o
    → Allows (Kept seats) slots id me word (λ _. 3) (answered_as (step slots word 3 0 none) me)
answers_at seats slots id me v xs i word o is at on a =
    subst (λ (z : Hands × ℕ). Allows (Kept seats) slots id z.0 z.1 (λ _. 3) (answered_as (step slots z.1 3 0 none) z.0)) (λ j. (sym (is ∙ ap (λ (w : ℕ). (v ∷ [], (w, Answered o) ∷ xs)) at) j, sym at j))
    (answers seats slots id (v ∷ [], (suc i, Answered o) ∷ xs) refl on i a.request a.since a.start a.count o a.pick a.is_told a.same_places refl)

-- what a run says of what was picked
module _ (m : Hands) (i : ℕ) (r : Request) (e0 : History) (p : IsPicked m i r e0) where
  abbrev v : View
  v = view_of m.0

  entries_are : e0.entries ≡ v.seen
  entries_are = ap (λ (e : History). e.entries) p.stands

  run_here : (e1 : History) (answer : Answer) (start end : ℕ) → HasRun e0 e1 i r answer start end → RunAt v.seats e1.entries i r p.since answer start end
  run_here e1 answer start end h = record {
    before = e0.entries;
    run = h.run;
    after = [];
    parts = h.grown ∙ sym (append-nil (e0.entries ++ h.run));
    starts = h.starts;
    ends = let a = ap (length {A = Entry}) h.grown in let b = length-append e0.entries h.run in let c = h.starts in let d = h.ends in omega arith;
    late = let a : length e0.entries ≡ length v.seen = ap length entries_are in let c = h.starts in let d = p.early in omega arith;
    by_seat = h.by_seat;
    is_run = subst (λ z. IsRun z i r h.run answer) (p.stands ∙ ap (history_of v.seats) (sym entries_are)) h.is_run;
  }

  -- the engine has run what was picked, or refused it and is as it was
  pub follows_for : (e1 : History) (ran : Result HasRan StepError) → IfOk ran (λ x. HasRun e0 e1 i r x.answer x.from x.to) → OnErr ran (e1 ≡ e0) → FollowsFor v i e1
  follows_for e1 (Ok x) h same =
      let st : x.from ≡ length v.seen = h.starts ∙ ap length entries_are in
      let en : x.to ≡ length v.seen + length h.run = let a = ap (length {A = Entry}) h.grown in let b = length-append e0.entries h.run in let c = h.ends in let d : length e0.entries ≡ length v.seen = ap length entries_are in omega arith in
      record {
        request = r;
        since = p.since;
        pick = p.pick;
        seats = h.seats ∙ ap (λ (e : History). e.seats) p.stands;
        run = h.run;
        grown = h.grown ∙ ap (λ l. l ++ h.run) entries_are;
        by_seat = h.by_seat;
        runs = inr (x.answer, subst (λ (z : ℕ × ℕ). RunAt v.seats e1.entries i r p.since x.answer z.0 z.1) (λ j. (st j, en j)) (run_here e1 x.answer x.from x.to h));
      }
  follows_for e1 (Err why) h same = record {
    request = r;
    since = p.since;
    pick = p.pick;
    seats = ap (λ (e : History). e.seats) same ∙ ap (λ (e : History). e.seats) p.stands;
    run = [];
    grown = ap (λ (e : History). e.entries) same ∙ (entries_are ∙ sym (append-nil v.seen));
    by_seat = tt;
    runs = inl refl;
  }

  reason_is : (why : StepError) → FullOnly why (IsAtLimit e0 i r) → MemoryOnly why (HasPlace e0) → HasEntry e0 i r → IsReason v.seats v.seen i r (reason_of why)
  reason_is Memory full place some = (subst HasPlace p.stands place, subst (λ z. HasEntry z i r) p.stands some)
  reason_is Full full place some = (subst (λ z. IsAtLimit z i r) p.stands full, subst (λ z. HasEntry z i r) p.stands some)

  -- what came of it, and what is then published
  pub runs_as : (e1 : History) (ran : Result HasRan StepError) (o : Outcome) → MatchResult ran (λ x. o ≡ Done x.answer x.from x.to) (λ why. o ≡ Back r (reason_of why)) → IfOk ran (λ x. HasRun e0 e1 i r x.answer x.from x.to)
      → OnErr ran (e1 ≡ e0) → IfErr ran (λ why. FullOnly why (IsAtLimit e0 i r)) → IfErr ran (λ why. MemoryOnly why (HasPlace e0)) → IfErr ran (λ _. HasEntry e0 i r) → RunsAs v.seats i r o v.seen e1.entries
  runs_as e1 (Ok x) o is h same full place some =
      let now : e1 ≡ history_of v.seats e1.entries = λ j. history_of ((h.seats ∙ ap (λ (e : History). e.seats) p.stands) j) e1.entries in
      subst (λ z. RunsAs v.seats i r z v.seen e1.entries) (sym is) (subst (λ (z : History × History). HasRun z.0 z.1 i r x.answer x.from x.to) (λ j. (p.stands j, now j)) h)
  runs_as e1 (Err why) o is h same full place some =
      subst (λ z. RunsAs v.seats i r z v.seen e1.entries) (sym is) (refl, ap (λ (e : History). e.entries) same ∙ entries_are, reason_is why full place some)

  -- an outcome that tells what is published then
  answers_pick : (e1 : History) (o : Outcome) (n : ℕ) → IsTold v.seats e1.entries i r p.since o → places (length v.seen) (length e1.entries - length v.seen) ≡ answer_places o → AnswersPick (served_at v n e1.entries) i o
  answers_pick e1 o n told same = record {
    request = r;
    since = p.since;
    start = length v.seen;
    count = length e1.entries - length v.seen;
    pick = ap (λ q. with_places q (length v.seen) (length e1.entries - length v.seen)) p.pick;
    is_told = told;
    same_places = same;
  }

  -- once it is published, the outcome answers what was picked
  pub answers_ran : (e1 : History) (ran : Result HasRan StepError) (o : Outcome) (n : ℕ) (m' : Hands) → MatchResult ran (λ x. o ≡ Done x.answer x.from x.to) (λ why. o ≡ Back r (reason_of why)) → IfOk ran (λ x. HasRun e0 e1 i r x.answer x.from x.to)
      → OnErr ran (e1 ≡ e0) → IfErr ran (λ why. FullOnly why (IsAtLimit e0 i r)) → IfErr ran (λ why. MemoryOnly why (HasPlace e0)) → IfErr ran (λ _. HasEntry e0 i r) → m' ≡ (served_at v n e1.entries ∷ [], (i + 1, Empty) ∷ rest m.1) → AnswersPick (view_of m'.0) i o
  answers_ran e1 ran o n m' is h same full place some after =
      subst (λ x. AnswersPick x i o) (sym (ap (λ (x : Hands). view_of x.0) after)) (subst (AnswersPick (served_at v n e1.entries) i) refl (go ran is h same full place some))
    where
      go : (ran : Result HasRan StepError) → MatchResult ran (λ x. o ≡ Done x.answer x.from x.to) (λ why. o ≡ Back r (reason_of why)) → IfOk ran (λ x. HasRun e0 e1 i r x.answer x.from x.to)
          → OnErr ran (e1 ≡ e0) → IfErr ran (λ why. FullOnly why (IsAtLimit e0 i r)) → IfErr ran (λ why. MemoryOnly why (HasPlace e0)) → IfErr ran (λ _. HasEntry e0 i r) → AnswersPick (served_at v n e1.entries) i o
      go (Ok x) is h same full place some =
          let st : length v.seen ≡ x.from = sym (h.starts ∙ ap length entries_are) in
          let co : length e1.entries - length v.seen ≡ x.to - x.from = λ j. sym h.ends j - st j in
          subst (AnswersPick (served_at v n e1.entries) i) (sym is) (answers_pick e1 (Done x.answer x.from x.to) n (run_here e1 x.answer x.from x.to h) (λ j. places (st j) (co j)))
      go (Err why) is h same full place some =
          let entries : e1.entries ≡ v.seen = ap (λ (e : History). e.entries) same ∙ entries_are in
          let none_more : length e1.entries - length v.seen ≡ 0 = let a = ap (length {A = Entry}) entries in omega arith in
          subst (AnswersPick (served_at v n e1.entries) i) (sym is) (answers_pick e1 (Back r (reason_of why)) n (refl, subst (λ l. HadReason v.seats l i r p.since (reason_of why)) (sym entries) (v.seen, starts_all v.seen, p.early, reason_is why full place some))
          (ap (places (length v.seen)) none_more))

  -- the whole of it, once answered
  seats_after : (e1 : History) (ran : Result HasRan StepError) → IfOk ran (λ x. HasRun e0 e1 i r x.answer x.from x.to) → OnErr ran (e1 ≡ e0) → e1.seats ≡ e0.seats
  seats_after e1 (Ok x) h same = h.seats
  seats_after e1 (Err why) h same = ap (λ (e : History). e.seats) same

  -- once that is answered the taker serves on
  pub serves_on : (e1 : History) (ran : Result HasRan StepError) → IfOk ran (λ x. HasRun e0 e1 i r x.answer x.from x.to) → OnErr ran (e1 ≡ e0) → (o : Outcome) (n : ℕ) (m' m'' : Hands)
      → m' ≡ (served_at v n e1.entries ∷ [], (i + 1, Empty) ∷ rest m.1) → m'' ≡ (answered_at (view_of m'.0) 2 o ∷ [], rest m'.1) → Serving m'' e1 × (e1.seats ≡ e0.seats)
  serves_on e1 ran h same o n m' m'' after last =
      let seats = seats_after e1 ran h same in (
        subst (λ x. Serving x e1) (sym (last ∙ ap (λ (x : Hands). (answered_at (view_of x.0) 2 o ∷ [], rest x.1)) after)) (record {
          one = refl;
          on = p.on;
          none_picked = refl;
          held = p.below;
          stands = ap (λ n. history_of n e1.entries) (seats ∙ ap (λ (e : History). e.seats) p.stands);
        }),
        seats,
      )

  pub ran_picked : (e1 : History) (o : Outcome) (n : ℕ) (m' m'' : Hands) → RunsAs v.seats i r o v.seen e1.entries → m' ≡ (served_at v n e1.entries ∷ [], (i + 1, Empty) ∷ rest m.1) → m'' ≡ (answered_at (view_of m'.0) 2 o ∷ [], rest m'.1) → RanPicked m i r m''
  ran_picked e1 o n m' m'' runs after last =
      let pick : with_places v.pick (length v.seen) (length e1.entries - length v.seen) ≡ Picked i r p.since (length v.seen) (length e1.entries - length v.seen) = ap (λ q. with_places q (length v.seen) (length e1.entries - length v.seen)) p.pick in
      subst (RanPicked m i r) (sym (last ∙ ap (λ (x : Hands). (answered_at (view_of x.0) 2 o ∷ [], rest x.1)) after)) (record {
        outcome = o;
        runs = runs;
        answers = ap (λ (q : Picking). v.answers ++ letter_to (served_at v n e1.entries) q o) pick;
        answer_step = refl;
        publishes = refl;
        picks = refl;
        only = refl;
        slots = refl;
      })

ticks_more : (ts : List Tally) (k : ℕ) (xs : List ℕ) (x : ℕ) → ticks ts k (xs ++ x ∷ []) ≡ slice_set (ticks ts k xs) (k + length xs) (tick (tally_at (ticks ts k xs) (k + length xs)) x)
ticks_more ts k [] x = let e : k ≡ k + 0 = omega arith in ap (λ (n : ℕ). slice_set ts n (tick (tally_at ts n) x)) e
ticks_more ts k (y ∷ ys) x =
    let now = slice_set ts k (tick (tally_at ts k) y) in
    let e : k + 1 + length ys ≡ k + suc (length ys) = omega arith in
    ticks_more now (k + 1) ys x ∙ ap (λ (n : ℕ). slice_set (ticks now (k + 1) ys) n (tick (tally_at (ticks now (k + 1) ys) n) x)) e

ones_more : (xs : List ℕ) (x : ℕ) → ones (xs ++ x ∷ []) ≡ ones xs + (if x == 1 then 1 else 0)
ones_more [] x = omega arith
ones_more (y ∷ ys) x = let h = ones_more ys x in omega arith

one_of : (b : Bool) (x n : ℕ) → MatchBool b (x ≡ 1) (x ≢ 1) → MatchBool b (n ≡ 1) (n ≡ 0) → n ≡ (if x == 1 then 1 else 0)
one_of true x n hit is = is ∙ sym (ap (λ c. cond c 1 0) (eq-eqb x 1 hit))
one_of false x n hit is = is ∙ sym (ap (λ c. cond c 1 0) (ne_eqb x 1 hit))

then_only : (u v w : View) → OnlyServes u v → OnlyServes v w → OnlyServes u w
then_only u v w a b = b ∙ ap (λ (x : View). served_as x w) a

answers_more : (seats k : ℕ) (xs : List ℕ) (x p : ℕ) (ls l : List Letter) (a b c : List Entry) → AnswersAll seats k xs p ls a b → AnswersOne seats (k + length xs) (x == 1) (p + length ls) l b c → AnswersAll seats k (xs ++ x ∷ []) p (ls ++ l) a c
answers_more seats k [] x p ls l a b c h one =
    let e : k + 0 ≡ k = omega arith in
    let q : p + length ls ≡ p = let n = ap (length {A = Letter}) h.0 in omega arith in
    (l, [], c, ap (λ z. z ++ l) h.0 ∙ sym (append-nil l), subst (λ (z : (ℕ × ℕ) × List Entry). AnswersOne seats z.0.0 (x == 1) z.0.1 l z.1 c) (λ i. ((e i, q i), h.1 i)) one, (refl, refl))
answers_more seats k (y ∷ ys) x p ls l a b c h one =
    let e : k + suc (length ys) ≡ k + 1 + length ys = omega arith in
    let q : p + length ls ≡ p + length h.0 + length h.1 = let n = ap (length {A = Letter}) h.3 in let m = length-append h.0 h.1 in omega arith in
    (h.0, h.1 ++ l, h.2, ap (λ z. z ++ l) h.3 ∙ append_assoc h.0 h.1 l, h.4, answers_more seats (k + 1) ys x (p + length h.0) h.1 l h.2 b c h.5 (subst (λ (z : ℕ × ℕ). AnswersOne seats z.0 (x == 1) z.1 l b c) (λ i. (e i, q i)) one))

letter_ticks_more : (t : Tally) (ls l : List Letter) → letter_ticks t (ls ++ l) ≡ letter_ticks (letter_ticks t ls) l
letter_ticks_more t [] l = refl
letter_ticks_more t (x ∷ xs) l = letter_ticks_more (tick t 2) xs l

hit_is : (b : Bool) (x : ℕ) → MatchBool b (x ≡ 1) (x ≢ 1) → b ≡ (x == 1)
hit_is true x hit = sym (eq-eqb x 1 hit)
hit_is false x hit = sym (ne_eqb x 1 hit)

grows : (seats i : ℕ) (done : Bool) (p : ℕ) (letters : List Letter) (seen now : List Entry) → AnswersOne seats i done p letters seen now → BeginsWith now seen
grows seats i false p letters seen now h = subst (λ l. BeginsWith l seen) (sym h.1) (starts_all seen)
grows seats i true p letters seen now h = go h.1 h.3
  where
    go : (o : Outcome) → RunsAs seats i h.0 o seen now → BeginsWith now seen
    go (Done answer start end) r = (r.run, r.grown)
    go (Back back why) r = subst (λ l. BeginsWith l seen) (sym r.1) (starts_all seen)
    go Handed r = absurd r

starts_later : (seen more entries : List Entry) → BeginsWith more seen → BeginsWith entries more → BeginsWith entries seen
starts_later seen more entries h g = (h.0 ++ g.0, g.1 ∙ (ap (λ l. l ++ g.0) h.1 ∙ append_assoc seen h.0 g.0))

all_grow : (seats k : ℕ) (xs : List ℕ) (p : ℕ) (ls : List Letter) (seen now : List Entry) → AnswersAll seats k xs p ls seen now → BeginsWith now seen
all_grow seats k [] p ls seen now h = subst (λ l. BeginsWith l seen) (sym h.1) (starts_all seen)
all_grow seats k (x ∷ xs) p ls seen now h = starts_later seen h.2 now (grows seats k (x == 1) p h.0 seen h.2 h.4) (all_grow seats (k + 1) xs (p + length h.0) h.1 h.2 now h.5)

-- a mailbox was picked, and what was picked ran
pub serves_one : (m m' m'' : Hands) (i : ℕ) (r : Request) → PicksOne m i m' (Some r) → RanPicked m' i r m'' → ServedOne (view_of m.0) (rest m.1) i m'' true
serves_one m m' m'' i r p h =
    let v = view_of m.0 in
    let picked : Hands = (picked_at v i p.word r p.view.1.0 ∷ [], (i + 1, Empty) ∷ m.1) in
    let ran : RanPicked picked i r m'' = subst (λ x. RanPicked x i r m'') p.view.1.2 h in
    let now = (view_of m''.0).seen in
    record {
      word = p.word;
      hit = p.view.0;
      picks = ran.picks;
      letters = record { seat = i; request = r; outcome = ran.outcome; publishes = v.publishes.count + 1; stamp = length now } ∷ [];
      answers = ran.answers;
      answered = (r, ran.outcome, refl, ran.runs);
      answer_steps = ran.answer_step;
      publishes = ran.publishes;
      only = ran.only;
      slots = ran.slots;
    }

pub serves_nothing : (m m' : Hands) (i : ℕ) → PicksOne m i m' None → ServedOne (view_of m.0) (rest m.1) i m' false
serves_nothing m m' i p =
    let v = view_of m.0 in
    subst (λ (x : Hands). ServedOne v (rest m.1) i x false) (sym p.view.1)
    (record {
      word = p.word;
      hit = p.view.0;
      picks = refl;
      letters = [];
      answers = sym (append-nil v.answers);
      answered = (refl, refl);
      answer_steps = refl;
      publishes = omega arith;
      only = refl;
      slots = refl;
    })

pub served_none : (m : Hands) → ServedAll (view_of m.0) (rest m.1) 0 m 0
served_none m = record {
  found = [];
  all = refl;
  picks = refl;
  picked = refl;
  letters = [];
  answers = sym (append-nil (view_of m.0).answers);
  answered = (refl, refl);
  answer_steps = refl;
  publishes = omega arith;
  only = refl;
  slots = refl;
}

pub served_more : (v : View) (xs : List (ℕ × Slot)) (k : ℕ) (m m' : Hands) (d n : ℕ) (b : Bool) → ServedAll v xs k m d → ServedOne (view_of m.0) (rest m.1) k m' b → MatchBool b (n ≡ 1) (n ≡ 0) → ServedAll v xs (k + 1) m' (d + n)
served_more v xs k m m' d n b a s is =
    let at : 0 + length a.found ≡ k = omega (arith, a.all) in
    let one : AnswersOne v.seats (0 + length a.found) (s.word == 1) (v.publishes.count + length a.letters) s.letters (view_of m.0).seen (view_of m'.0).seen =
    subst (λ (z : (ℕ × ℕ) × (Bool × ℕ)). AnswersOne z.0.0 z.0.1 z.1.0 z.1.1 s.letters (view_of m.0).seen (view_of m'.0).seen) (λ i. (((a.only i).seats, sym at i), (hit_is b s.word s.hit i, a.publishes i))) s.answered in
    record {
      found = a.found ++ s.word ∷ [];
      all = let e = length-append a.found (s.word ∷ []) in let f = a.all in omega arith;
      picks = s.picks ∙ ((λ i. slice_set (a.picks i) (sym at i) (tick (tally_at (a.picks i) (sym at i)) s.word)) ∙ sym (ticks_more v.picks 0 a.found s.word));
      picked = (λ i. a.picked i + one_of b s.word n s.hit is i) ∙ sym (ones_more a.found s.word);
      letters = a.letters ++ s.letters;
      answers = s.answers ∙ (ap (λ l. l ++ s.letters) a.answers ∙ append_assoc v.answers a.letters s.letters);
      answered = answers_more v.seats 0 a.found s.word v.publishes.count a.letters s.letters v.seen (view_of m.0).seen (view_of m'.0).seen a.answered one;
      answer_steps = s.answer_steps ∙ (ap (λ (z : Tally). letter_ticks z s.letters) a.answer_steps ∙ sym (letter_ticks_more v.answered a.letters s.letters));
      publishes = let e = a.publishes in let f = s.publishes in let g = length-append a.letters s.letters in omega arith;
      only = then_only v (view_of m.0) (view_of m'.0) a.only s.only;
      slots = s.slots ∙ a.slots;
    }

-- A pick that finds a request, made by a seat that serves, leaves that request picked.
pub picks_serving : (m m' : Hands) (i : ℕ) (r : Request) (e : History) → Serving m e → PicksOne m i m' (Some r) → IsPicked m' i r e
picks_serving m m' i r e s p = subst (λ x. IsPicked x i r e) (sym p.view.1.2) (record {
  one = refl;
  on = s.on;
  since = p.view.1.0;
  early = p.view.1.1;
  pick = refl;
  held = refl;
  below = s.held;
  stands = s.stands;
})

pub all_serves : (seats : ℕ) (v : View) (xs : List (ℕ × Slot)) (m m' m'' : Hands) (e : History) (d word : ℕ) → Takes v xs m (Some e) → ServedAll (view_of m.0) (rest m.1) seats m' d → m'' ≡ (put_at (view_of m'.0) word ∷ [], rest m'.1) → Serves seats v (view_of m''.0) (Ran d)
all_serves seats v xs m m' m'' e d word t a p =
    let is : view_of m.0 ≡ took_at v t.word t.entries = ap view_of t.view in
    let now : view_of m''.0 ≡ put_at (view_of m'.0) word = ap (λ (x : Hands). view_of x.0) p in
    let began : BeginsWith (view_of m.0).seen v.seen = subst (λ l. BeginsWith l v.seen) (sym (ap (λ (x : View). x.seen) is)) t.begins in
    let grown = all_grow (view_of m.0).seats 0 a.found (view_of m.0).publishes.count a.letters (view_of m.0).seen (view_of m'.0).seen a.answered in
    let only : view_of m'.0 ≡ served_as (took_at v t.word t.entries) (view_of m'.0) = a.only ∙ ap (λ (x : View). served_as x (view_of m'.0)) is in
    let seats_is : (view_of m.0).seats ≡ v.seats = ap (λ (x : View). x.seats) is in
    subst (λ w. Serves seats v w (Ran d)) (sym now) (record {
      who = (ap (λ (x : View). x.seats) only, ap (λ (x : View). x.who) only);
      one_take = ap (λ (x : View). x.takes.count) only;
      no_look = ap (λ (x : View). x.looks) only;
      no_mail = (ap (λ (x : View). x.posts) only, ap (λ (x : View). x.withdraws) only, ap (λ (x : View). x.collects) only);
      no_opening = (ap (λ (x : View). x.opens) only, ap (λ (x : View). x.shuts) only);
      begins = starts_later v.seen (view_of m.0).seen (view_of m'.0).seen began grown;
      own = ap (λ (x : View). x.own) only;
      handover = ap (λ (x : View). x.handover) only;
      outcome = record {
        was_free = ap (λ (x : View). x.takes.found % 2) only ∙ t.engine.0;
        found = a.found;
        all = a.all;
        picks = a.picks ∙ ap (λ (x : View). ticks x.picks 0 a.found) is;
        count = a.picked;
        letters = a.letters;
        answers = a.answers ∙ ap (λ (x : View). x.answers ++ a.letters) is;
        before = (view_of m.0).seen;
        begins = began;
        answered = subst (λ (z : ℕ × ℕ). AnswersAll z.0 0 a.found z.1 a.letters (view_of m.0).seen (view_of m'.0).seen) (λ i. (seats_is i, (is i).publishes.count)) a.answered;
        answer_steps = a.answer_steps ∙ ap (λ (x : View). letter_ticks x.answered a.letters) is;
        publishes = a.publishes ∙ ap (λ (x : View). x.publishes.count + length a.letters) is;
        puts = ap (λ (x : View). x.puts.count + 1) only;
      };
    })
