-- What is told of a process's end changes death notifications and work items alone, and by what it is told is known before.
use Rattle.bd_step.proofs.Words.{Bool, Death, DeathNotification, List, Object, ObjectTable, OfProcess, ProcessesAre, Queued, Space, StandsAt, Tables, Thread, WindowsOf, Within, Work, [], ap, both_filters, cond, due_in, false, filter, fold, fold_more, get_or, is_due, length, map, owe, owed, owed_death, refl, seat_of, subst, sym, take, tell_death, tell_deaths, thread_goes, threads_go, true, turns_of}
use Rattle.bd_step.proofs.Words.{with_phase, without_process, ℕ, ◌+◌, ◌<◌, ◌==◌, ◌∙◌, ◌∷◌, ◌≡◌}
use Rattle.bd_calls.specs.Stands as calls
use Rattle.bd_objects.specs.Stands as objects

rest : Space → Space
rest s = record s { deaths = []; todo = [] }

-- the same but for death notifications and work items, and these work items
record Owes (s t : Space) (todo : List Work) : Type 0 where
  rest_is : rest t ≡ rest s
  todo_is : t.todo ≡ todo

Owes_case : (s : Space) (x : DeathNotification) (b : Bool)
    → Owes s (cond b (owe (with_phase s x.made Queued) (OfProcess x.process) (Death x.made)) s) (cond b (owed_death s.steps s.todo x) s.todo)
unfolding owe with_phase rest
Owes_case s x true = record { rest_is = refl; todo_is = refl }
Owes_case s x false = record { rest_is = refl; todo_is = refl }

Owes_one : (p : ℕ) (s : Space) (x : DeathNotification) → Owes s (tell_death p s x) (cond (is_due s.objects p x) (owed_death s.steps s.todo x) s.todo)
Owes_one p s x = Owes_case s x (is_due s.objects p x)

-- what the notifications that are due make
told : ℕ → List Object → ℕ → List Work → List DeathNotification → List Work
told place os p todo xs = fold (owed_death place) todo (filter (is_due os p) xs)

told_in : (place : ℕ) (todo : List Work) (x : DeathNotification) (ys : List DeathNotification) (b : Bool)
    → fold (owed_death place) (cond b (owed_death place todo x) todo) ys ≡ fold (owed_death place) todo (cond b (x ∷ ys) ys)
told_in place todo x ys true = refl
told_in place todo x ys false = refl

Owes_all : (p : ℕ) (xs : List DeathNotification) (s : Space) → Owes s (fold (tell_death p) s xs) (told s.steps s.objects p s.todo xs)
unfolding rest told
Owes_all p [] s = record { rest_is = refl; todo_is = refl }
Owes_all p (x ∷ xs) s =
    let t = tell_death p s x in
    let one = Owes_one p s x in
    let more = Owes_all p xs t in
    let steps : t.steps ≡ s.steps = ap (λ z. z.steps) one.rest_is in
    let objects : t.objects ≡ s.objects = ap (λ z. z.objects) one.rest_is in
    record {
      rest_is = more.rest_is ∙ one.rest_is;
      todo_is = more.todo_is
          ∙ ap (λ n. told n t.objects p t.todo xs) steps
          ∙ ap (λ os. told s.steps os p t.todo xs) objects
          ∙ ap (λ todo. told s.steps s.objects p todo xs) one.todo_is
          ∙ told_in s.steps s.todo x (filter (is_due s.objects p) xs) (is_due s.objects p x);
    }

-- tables whose work items tell it, once their death notifications do
pub told_stands : (t : Tables) (os : ObjectTable) (s : Space) (p : ℕ) → Within t (owed s (filter (is_due s.objects p) s.deaths))
    → objects.StandsFor os (tell_deaths s p) → Within (record t { objects = os }) (tell_deaths s p)
unfolding rest tell_deaths told
told_stands t os s p h k =
    let all = Owes_all p s.deaths s in
    let e = sym all.rest_is in
    let todo = sym all.todo_is in
    record {
      own = record {
        steps_are = subst (λ z. z.steps ≡ t.steps) e h.own.steps_are;
        processes_are = subst (λ z. ProcessesAre t.processes z.processes) e h.own.processes_are;
        manager_is = subst (λ z. z.manager ≡ t.manager) e h.own.manager_is;
      };
      objects_stand = k;
      calls_stand = subst (λ z. calls.Stands t.calls z.threads z.frames (tell_deaths s p).todo (turns_of z.buffers)) e
          (subst (λ ws. calls.Stands t.calls s.threads s.frames ws (turns_of s.buffers)) todo h.calls_stand);
      windows_stand = subst (λ z. WindowsOf t.windows (z.steps + 1) z.processes z.buffers) e h.windows_stand;
    }

-- ---- one notification more

pub owed_more : (n : ℕ) (t : Tables) (s : Space) (due : List DeathNotification) (k : ℕ) (d : DeathNotification) → k < length due
    → StandsAt n t (record s { todo = owed_death s.steps (owed s (take k due)).todo (get_or due k d) }) → StandsAt n t (owed s (take (k + 1) due))
owed_more n t s due k d within h = subst (λ ws. StandsAt n t (record s { todo = ws })) (sym (fold_more (owed_death s.steps) s.todo due k d within)) h

-- ---- what ends before it is told

gone_deaths : (seats : List ℕ) (s : Space) → (fold thread_goes s seats).deaths ≡ s.deaths
unfolding thread_goes
gone_deaths [] s = refl
gone_deaths (seat ∷ more) s = gone_deaths more (thread_goes s seat)

gone_objects : (seats : List ℕ) (s : Space) → (fold thread_goes s seats).objects ≡ s.objects
unfolding thread_goes
gone_objects [] s = refl
gone_objects (seat ∷ more) s = gone_objects more (thread_goes s seat)

-- those that were due before anything ended are those that are, once the process has gone
pub still_due : (s : Space) (p : ℕ) → due_in s.objects p s.deaths
    ≡ filter (is_due (without_process (threads_go s p) p).objects p) (without_process (threads_go s p) p).deaths
unfolding without_process threads_go
still_due s p =
    let seats = map seat_of (filter (λ (t : Thread). t.process == p) s.threads) in
    let gone = fold thread_goes s seats in
    ap (λ os. due_in os p s.deaths) (sym (gone_objects seats s)) ∙ ap (due_in gone.objects p) (sym (gone_deaths seats s)) ∙ sym (both_filters _ _ _ (λ x. refl) gone.deaths)
