-- WhomAStepReaches: a seat's readiness rests on its thread, on whether that is in a call, and on whether there is anything on two lists.
use Rattle.bd_laws.proofs.words.Logic.{arith, ◌≡◌, ℕ, ◌==◌, Bool, true, false, cond, not, ◌&&◌, ◌||◌, List, [], ◌∷◌, Option, Some, None, ◌⊎◌, inl, inr, refl, ap, sym, subst, ◌∙◌, filter, find, list_any, is_none, eqb-true, eq-eqb, beq}
use Rattle.bd_laws.proofs.words.Types.{Thread, Frame, Work, Step, TodoList, OfThread, OfProcess}
use Rattle.bd_laws.proofs.words.Space.{Space, History, space_after, takes_part, innermost_in, thread_in, has_work_in, is_on, list_to_read, reads_in, work_on, change, counted, step, is_some_and, same_list}
use Rattle.bd_space.specs.ReadItems.{none_due}
use Rattle.bd_space.specs.Histories.{is_ready}
use Rattle.bd_laws.proofs.words.Laws.{In, Framed, OnPaths, IsFramed, IsTidy}
use Rattle.bd_laws.proofs.Lists.{find_in, any_found, any_in}
use Rattle.bd_laws.proofs.Tests.{either_way, to_false}
use Rattle.bd_laws.proofs.Always.{always_tidy}
use Rattle.bd_laws.proofs.OnPaths.Innermost.{innermost_is, none_innermost, part_true, true_part}
use Rattle.bd_laws.specs.Reached.{is_filled_or_emptied, IsReached}
use Rattle.bd_laws.specs.Laws.{WhomAStepReaches}
use Rattle.bd_laws.proofs.WhomAStepReaches.OtherSeats.{is_busy, Left, Told, left_of}

-- ---- a seat is ready

any_left : (p : Work → Bool) (xs : List Work) → not (none_due (filter p xs)) ≡ list_any p xs
any_left p [] = refl
any_left p (x ∷ xs) = search (arith, any_left p xs)

idle : (fs : List Frame) (t : ℕ) → is_none (innermost_in fs t) ≡ not (is_busy t fs)
idle fs t = at (innermost_in fs t) refl
  where
    at : (o : Option Frame) → innermost_in fs t ≡ o → is_none o ≡ not (is_busy t fs)
    at None e = ap not (sym (to_false (is_busy t fs) (λ k. let f = any_found (takes_part t) fs k in none_innermost fs t e f.0 f.1 (true_part t f.0 f.2))))
    at (Some f) e = let k = innermost_is fs t f e in ap not (sym (any_in (takes_part t) f fs k.0 (part_true t f k.1)))

abbrev ready_by : Bool → Bool → Bool → Bool → Bool
ready_by own looping busy shared = own || (looping && not busy && shared)

module _ (z : Space) (a : Thread) where
  reads_some : not (none_due (list_to_read z a)) ≡ ready_by (has_work_in z.todo (OfThread a.seat)) a.looping (is_busy a.seat z.frames) (has_work_in z.todo (OfProcess a.process))
  unfolding list_to_read
  reads_some = at (has_work_in z.todo (OfThread a.seat)) refl a.looping (is_none (innermost_in z.frames a.seat)) (is_busy a.seat z.frames) (idle z.frames a.seat)
    where
      at : (own : Bool) → has_work_in z.todo (OfThread a.seat) ≡ own → (looping i busy : Bool) → i ≡ not busy
          → not (none_due (work_on z.todo (cond own (Some (OfThread a.seat)) (cond (looping && i) (Some (OfProcess a.process)) None)))) ≡ ready_by own looping busy (has_work_in z.todo (OfProcess a.process))
      at own e looping i busy q = search (arith, any_left)

-- ---- it is as it was, or the seat is reached

module _ (s : Space) (tidy : IsTidy s) (seat : ℕ) (x : Step) (t : ℕ) (other : t ≡ seat → ⊥) where
  abbrev z : Space
  z = (change s seat x).space

  framed : Framed s.steps s.frames
  unfolding IsFramed
  framed = tidy.framed

  after : Left s seat t other z
  after = left_of s seat t other framed tidy.on_paths x

  Result : Type 0
  Result = (is_ready z t ≡ is_ready s t) ⊎ IsReached s z t

  -- what it was told is there
  has_one : (w : Work) → In w z.todo → w.list ≡ OfThread t → has_work_in z.todo (OfThread t) ≡ true
  has_one w l e = any_in (is_on (OfThread t)) w z.todo l (search (arith, eq-eqb))

  both_ready : (a : Thread) → a.seat ≡ t → has_work_in z.todo (OfThread t) ≡ true → has_work_in s.todo (OfThread t) ≡ true → not (none_due (list_to_read z a)) ≡ not (none_due (list_to_read s a))
  both_ready a e own before = reads_some z a ∙ both ∙ sym (reads_some s a)
    where
      both : ready_by (has_work_in z.todo (OfThread a.seat)) a.looping (is_busy a.seat z.frames) (has_work_in z.todo (OfProcess a.process))
          ≡ ready_by (has_work_in s.todo (OfThread a.seat)) a.looping (is_busy a.seat s.frames) (has_work_in s.todo (OfProcess a.process))
      both = search arith

  changed_list : (list : TodoList) → beq (has_work_in s.todo list) (has_work_in z.todo list) ≡ false → is_filled_or_emptied s z list ≡ true
  changed_list list e = search arith

  same_list_still : (list : TodoList) → beq (has_work_in s.todo list) (has_work_in z.todo list) ≡ true → has_work_in z.todo list ≡ has_work_in s.todo list
  same_list_still list e = search arith

  same_ready : (a : Thread) → a.seat ≡ t → has_work_in z.todo (OfThread t) ≡ has_work_in s.todo (OfThread t) → has_work_in z.todo (OfProcess a.process) ≡ has_work_in s.todo (OfProcess a.process)
      → is_busy t z.frames ≡ is_busy t s.frames → not (none_due (list_to_read z a)) ≡ not (none_due (list_to_read s a))
  same_ready a e own shared busy = reads_some z a ∙ both ∙ sym (reads_some s a)
    where
      both : ready_by (has_work_in z.todo (OfThread a.seat)) a.looping (is_busy a.seat z.frames) (has_work_in z.todo (OfProcess a.process))
          ≡ ready_by (has_work_in s.todo (OfThread a.seat)) a.looping (is_busy a.seat s.frames) (has_work_in s.todo (OfProcess a.process))
      both = search arith

  for_thread : (o : Option Thread) → thread_in s.threads t ≡ o → thread_in z.threads t ≡ o → Result
  unfolding Result
  for_thread None e k = inl (ap (λ p. is_some_and p (λ a. not (none_due (list_to_read z a)))) k ∙ sym (ap (λ p. is_some_and p (λ a. not (none_due (list_to_read s a)))) e))
  for_thread (Some a) e k =
      let seat_is = eqb-true a.seat t (find_in (λ (q : Thread). q.seat == t) a s.threads e).1 in
      elim after.calls [
        | inr (inl w) ↦ either_way (beq (has_work_in s.todo (OfThread t)) (has_work_in z.todo (OfThread t)))
            (λ own. let one = has_one w.0 w.1 w.2 in inl (ap (λ p. is_some_and p (λ b. not (none_due (list_to_read z b)))) k
            ∙ both_ready a seat_is one (sym (same_list_still (OfThread t) own) ∙ one)
            ∙ sym (ap (λ p. is_some_and p (λ b. not (none_due (list_to_read s b)))) e)))
            (λ own. inr (inl (changed_list (OfThread t) own)))
        | inr (inr off) ↦ inr (inr (inr off))
        | inl busy ↦ either_way (beq (has_work_in s.todo (OfThread t)) (has_work_in z.todo (OfThread t)))
            (λ own. either_way (beq (has_work_in s.todo (OfProcess a.process)) (has_work_in z.todo (OfProcess a.process)))
            (λ shared. inl (ap (λ p. is_some_and p (λ b. not (none_due (list_to_read z b)))) k
            ∙ same_ready a seat_is (same_list_still (OfThread t) own) (same_list_still (OfProcess a.process) shared) busy
            ∙ sym (ap (λ p. is_some_and p (λ b. not (none_due (list_to_read s b)))) e)))
            (λ shared. inr (inr (inl (a, e, changed_list (OfProcess a.process) shared)))))
            (λ own. inr (inl (changed_list (OfThread t) own)))
      ]

  pub reaches : (is_ready z t ≡ is_ready s t) ⊎ IsReached s z t
  unfolding Result
  reaches = elim after.thread [ inl e ↦ for_thread (thread_in s.threads t) refl e | inr off ↦ inr (inr (inr off)) ]

pub whom_reached : WhomAStepReaches
unfolding counted list_to_read
whom_reached h seat x t other = reaches (space_after h) (always_tidy h) seat x t other
