-- What follows from a reading between two steps: a look at the objects of its Notices does it all.
use Rattle.bd_step.proofs.Words.{Earlier, Identity, IsReading, IsTidy, List, ObjectTest, Pairs, Some, Space, Thread, TodoList, Work, ap, follow, follow_of, is_among, is_told_by, later, no_name, read_by, read_kept, subst, sym, taken, tidy_read_local, work_on, ℕ, ◌∙◌, ◌≡◌}

pub read_ordered : (s : Space) (seat : ℕ) (ws : List Work) → IsTidy s → Pairs Earlier (read_by s seat ws).objects
read_ordered s seat ws tidy = (read_kept s seat ws (later s tidy.before.objects).kept).in_order

pub read_followed : (s : Space) (t : Thread) (list : TodoList) (seat left : ℕ) (os : List Identity) → IsReading t list s → is_among os ≡ is_told_by (taken s left (work_on s.todo (Some list)))
    → (let z = read_by s seat (taken s left (work_on s.todo (Some list))) in follow_of no_name (is_among os) z ≡ follow z)
read_followed s t list seat left os r are =
    ap (λ (b : ObjectTest). follow_of no_name b (read_by s seat (taken s left (work_on s.todo (Some list))))) are
    ∙ subst (λ (l : List Work). let z = read_by s seat (taken s left l) in follow_of no_name (is_told_by (taken s left l)) z ≡ follow z) r.reads
    (sym (tidy_read_local s t seat left r.tidy))
