use Rattle.bd_step.proofs.{Words.{on_err_weaker, on_ok_weaker, Buffer, HasEndings, List, Space, Step, [], always_tidy, ap, arith, buffers_of, change, length, made_of_buffer, map, space_after, stands_in, subst, sym, ℕ, ◌++◌, ◌∙◌, ◌≡◌, ◌≤◌}, Ending.{nobody_exits_thread, nobody_exits_process, somebody_exits_thread, somebody_exits_process}}
use Rattle.bd_space.specs.declared.step.Step.TheVariants as step_of
use Rattle.bd_step.proofs.tables.Tables.list_received.Goals as goal

-- what is listed is what the process has received
received : (s : Space) (seat : ℕ) (x : Step) (p : ℕ) (before places : List ℕ) → before ≡ [] → places ≡ before ++ map made_of_buffer (buffers_of s.buffers p)
    → HasEndings (map made_of_buffer (buffers_of s.buffers p)) s (change s seat x).space → HasEndings places s (change s seat x).space
received s seat x p before places none listed ends =
    subst (λ (ps : List ℕ). HasEndings ps s (change s seat x).space) (sym (listed ∙ ap (λ ps. ps ++ map made_of_buffer (buffers_of s.buffers p)) none)) ends

pub returns-in-None-clause-thread : goal.returns-in-None-clause-thread
returns-in-None-clause-thread c = λ h before.
    let s = space_after h in
    subst (λ (ps : List ℕ). HasEndings ps s (change s c.args.seat step_of.ExitThread).space) (sym c.requires.none)
    (nobody_exits_thread s c.args.seat (sym (c.in-None.ensures.found s.steps s before)))

pub returns-in-None-clause-process : goal.returns-in-None-clause-process
returns-in-None-clause-process c = λ h before.
    let s = space_after h in
    subst (λ (ps : List ℕ). HasEndings ps s (change s c.args.seat step_of.ExitProcess).space) (sym c.requires.none)
    (nobody_exits_process s c.args.seat (sym (c.in-None.ensures.found s.steps s before)))

pub returns-in-Some-clause-thread : goal.returns-in-Some-clause-thread
returns-in-Some-clause-thread c = on_ok_weaker c.list_made.result (λ listed h before.
    (let s = space_after h in
    received s c.args.seat step_of.ExitThread c.in-Some.a.process.made _ _ c.requires.none (listed s (stands_in c.args.self.now.windows s before.windows_stand))
    (somebody_exits_thread s c.args.seat c.in-Some.a (always_tidy h).home (sym (c.in-Some.ensures.found s.steps s before))))) c.list_made.ensures.listed

pub returns-in-Some-clause-process : goal.returns-in-Some-clause-process
returns-in-Some-clause-process c = on_ok_weaker c.list_made.result (λ listed h before.
    (let s = space_after h in
    received s c.args.seat step_of.ExitProcess c.in-Some.a.process.made _ _ c.requires.none (listed s (stands_in c.args.self.now.windows s before.windows_stand))
    (somebody_exits_process s c.args.seat c.in-Some.a (always_tidy h).home (sym (c.in-Some.ensures.found s.steps s before))))) c.list_made.ensures.listed

pub returns-in-Some-clause-grown : goal.returns-in-Some-clause-grown
returns-in-Some-clause-grown c = on_err_weaker c.list_made.result (λ some h before none.
    (let s = space_after h in
    let kept = some s (stands_in c.args.self.now.windows s before.windows_stand) in
    absurd (omega (arith, subst (λ (bs : List Buffer). 1 ≤ length (buffers_of bs c.in-Some.a.process.made)) none kept)))) c.list_made.ensures.grown
