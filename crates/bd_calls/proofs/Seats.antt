-- What is kept of the seats, and what a change of the work items or of a thread leaves of it.
use Rattle.std.proofs.Common.{◌≡◌, ℕ, ◌<◌, ◌==◌, arith, Bool, true, false, cond, not, ◌&&◌, ◌||◌, List, [], ◌∷◌, ◌++◌, Some, None, refl, ap, sym, subst, ◌∙◌, length, get_or, set, eqb-true, ne_eqb, IfSome}
use Rattle.std.proofs.{lemmas.Bool.{eqb-false}, lemmas.List.Folds.{find-append}, lemmas.List.{get_or-set_same, get_or-set_other}}
use Rattle.std.proofs.lemmas.Option.{IfSome_then}
use Rattle.std.specs.{Prelude.{Option, option_map}, Option.{is_none, option_or}}
use Rattle.bd_ways.specs.Words.{Frame, Thread, Work, WorkKind, TodoList, OfThread, OfProcess, changed, is_some_and}
use Rattle.bd_keys.proofs.{Found.{found_passes}, Options.{or_none}}
use Rattle.bd_space.specs.{Seats.{thread_in}, Frames.{innermost_in}, ReadItems.{none_due}}
use Rattle.bd_space.specs.Todo.{has_work_in, is_on, work_on, reads_in, with_work, without_taken}
use Rattle.bd_calls.specs.{declared.seen.Seen.{Seen}, declared.ready.ReadySeats.{ReadySeats}}
use Rattle.bd_calls.specs.Ready.{seen_at, noted, told_then, told_after, IsSeen, AreSeen}
use Rattle.bd_todo.proofs.{OnList.{any_left}, ListKeys.{same_list_eq}}
use Rattle.bd_calls.proofs.Marking.{pushed_on, taken_beside}

-- ---- a seat that was seen

-- whether there is anything to read is told by the lists alone where they are empty
anything_to_read : (todo : List Work) (own shared : TodoList) (idle : Bool)
    → (has_work_in todo own || (has_work_in todo shared && idle)) ≡ not (none_due (work_on todo (cond (has_work_in todo own) (Some own) (cond idle (Some shared) None))))
anything_to_read todo own shared idle = grind (arith, any_left (is_on own) todo, any_left (is_on shared) todo)

-- what was seen tells whether the thread has anything to read
pub seen_ready : (fs : List Frame) (ts : List Thread) (ws : List Work) (seat : ℕ) (x : Seen) (t : Thread) → x.thread ≡ Some t → IsSeen ts (has_work_in ws) seat x
    → (x.own || (x.shared && (t.looping && is_none (innermost_in fs t.seat)))) ≡ is_some_and (thread_in ts seat) (λ u. not (none_due (work_on ws (reads_in fs ws u))))
seen_ready fs ts ws seat x t is seen =
    let found : thread_in ts seat ≡ Some t = sym seen.thread ∙ is in
    let at : t.seat ≡ seat = eqb-true _ _ (found_passes (λ (u : Thread). u.seat == seat) ts t found) in
    let idle = t.looping && is_none (innermost_in fs t.seat) in
    ap (λ b. b || (x.shared && idle)) (seen.own ∙ ap (λ n. has_work_in ws (OfThread n)) (sym at))
    ∙ ap (λ b. has_work_in ws (OfThread t.seat) || (b && idle)) (seen.shared ∙ ap (λ o. is_some_and o (λ u. has_work_in ws (OfProcess u.process))) is)
    ∙ anything_to_read ws (OfThread t.seat) (OfProcess t.process) idle
    ∙ ap (λ o. is_some_and o (λ u. not (none_due (work_on ws (reads_in fs ws u))))) (sym found)

-- ---- what is kept

-- it was looked at a seat
pub look_seen : (xs : List (Option Seen)) (i : ℕ) (y : Seen) (ts : List Thread) (told : TodoList → Bool) → i < length xs → IsSeen ts told i y
    → ((seat : ℕ) → IfSome (get_or xs seat None) (IsSeen ts told seat)) → (seat : ℕ) → IfSome (get_or (set xs i (Some y)) seat None) (IsSeen ts told seat)
look_seen xs i y ts told lt is before seat = by seat (i == seat) refl
  where
    by : (at : ℕ) (b : Bool) → (i == at) ≡ b → IfSome (get_or (set xs i (Some y)) at None) (IsSeen ts told at)
    by at true e = subst (λ n. IfSome (get_or (set xs i (Some y)) n None) (IsSeen ts told n)) (eqb-true i at e)
        (subst (λ o. IfSome o (IsSeen ts told i)) (sym (get_or-set_same xs i (Some y) None lt)) is)
    by at false e = subst (λ o. IfSome o (IsSeen ts told at)) (sym (get_or-set_other xs i at (Some y) None (λ k. eqb-false i at e (sym k)))) (before at)

-- something is on a list from now on, or nothing is
pub noted_seen : (old new : ReadySeats) (ts : List Thread) (told : TodoList → Bool) (list : TodoList) (has : Bool)
    → ((seat : ℕ) → seen_at new seat ≡ option_map (noted list has seat) (seen_at old seat)) → AreSeen old ts told → AreSeen new ts (told_then list has told)
noted_seen old new ts told list has now before = λ seat. subst (λ o. IfSome o (IsSeen ts (told_then list has told) seat)) (sym (now seat)) (at seat (seen_at old seat) (before seat))
  where
    one : (l : TodoList) (seat : ℕ) (x : Seen) → IsSeen ts told seat x → IsSeen ts (told_then l has told) seat (noted l has seat x)
    one (OfThread t) seat x h = record { thread = grind (arith, h.thread); own = grind (arith, h.own); shared = grind (arith, h.shared) }
    one (OfProcess p) seat x h = record { thread = grind (arith, h.thread); own = grind (arith, h.own); shared = grind (arith, h.shared) }

    at : (seat : ℕ) (o : Option Seen) → IfSome o (IsSeen ts told seat) → IfSome (option_map (noted list has seat) o) (IsSeen ts (told_then list has told) seat)
    at seat None h = tt
    at seat (Some x) h = one list seat x h

-- what is told of each list may be said otherwise
pub told_same : (r : ReadySeats) (ts : List Thread) (a b : TodoList → Bool) → ((list : TodoList) → a list ≡ b list) → AreSeen r ts a → AreSeen r ts b
told_same r ts a b same = subst (AreSeen r ts) (λ i list. same list i)

-- ---- a change of the work items

-- a work item comes onto a list
pub pushed_told : (place : ℕ) (ws : List Work) (to : TodoList) (kind : WorkKind) (list : TodoList) → told_then to true (has_work_in ws) list ≡ has_work_in (with_work place ws to kind) list
pushed_told place ws to kind list = grind (arith, pushed_on place ws to kind list)

-- work items go
told_right : (todo taken : List Work) (told : TodoList → Bool) (list : TodoList) → (has_work_in taken list ≡ false → told list ≡ has_work_in todo list)
    → told_after todo taken told list ≡ has_work_in todo list
told_right todo [] told list right = right refl
told_right todo (d ∷ ds) told list right =
    told_right todo ds (told_then d.list (has_work_in todo d.list) told) list (λ out. grind (arith, out, right, same_list_eq list d.list))

pub taken_told : (taken ws : List Work) (list : TodoList) → told_after (without_taken taken ws) taken (has_work_in ws) list ≡ has_work_in (without_taken taken ws) list
taken_told taken ws list = told_right (without_taken taken ws) taken (has_work_in ws) list (λ out. sym (taken_beside taken ws list out))

-- ---- a change of a thread

-- where the other seats have the threads that they had, what is kept of them is so still
pub kept_beside : (old new : ReadySeats) (ts us : List Thread) (told : TodoList → Bool) (gone : ℕ) → ((at : ℕ) → seen_at new at ≡ cond (gone == at) None (seen_at old at))
    → ((at : ℕ) → (gone ≡ at → ⊥) → thread_in us at ≡ thread_in ts at) → AreSeen old ts told → AreSeen new us told
kept_beside old new ts us told gone now as_before before = λ at. subst (λ o. IfSome o (IsSeen us told at)) (sym (now at)) (by at (gone == at) refl)
  where
    by : (at : ℕ) (b : Bool) → (gone == at) ≡ b → IfSome (cond b None (seen_at old at)) (IsSeen us told at)
    by at true e = tt
    by at false e = IfSome_then (seen_at old at) (before at)
        (λ x seen. record { thread = seen.thread ∙ sym (as_before at (eqb-false gone at e)); own = seen.own; shared = seen.shared })

-- one comes in
pub pushed_other : (ts : List Thread) (t : Thread) (at : ℕ) → (t.seat ≡ at → ⊥) → thread_in (ts ++ t ∷ []) at ≡ thread_in ts at
pushed_other ts t at other =
    find-append (λ u. u.seat == at) ts (t ∷ []) ∙ ap (λ b. option_or (thread_in ts at) (cond b (Some t) None)) (ne_eqb t.seat at other) ∙ or_none (thread_in ts at)

-- one enters the loop, or leaves it
pub turned_other : (looping : Bool) (ts : List Thread) (seat at : ℕ) → (seat ≡ at → ⊥)
    → thread_in (changed (λ t. t.seat == seat) (λ t. record t { looping = looping }) ts) at ≡ thread_in ts at
turned_other looping [] seat at other = refl
turned_other looping (t ∷ ts) seat at other = grind (arith, other, turned_other looping ts seat at other)
