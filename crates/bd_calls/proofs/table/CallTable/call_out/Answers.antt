use Rattle.std.proofs.Common.{◌≡◌, ◌∙◌, ◌≤◌, refl, sym, ap, ◌∷◌, [], List, Some, ℕ, suc, Bool, true, false, cond, arith}
use Rattle.std.specs.Prelude.{find, reverse, option_map}
use Rattle.bd_ways.specs.Words.{Frame}
use Rattle.bd_space.specs.{Frames.{innermost, innermost_in, is_deepest_in, goes_to, list_of_caller, waits_in, ancestry, made_of}, Todo.{owe}}
use Rattle.bd_space.specs.Transactions.{call_out}
use Rattle.bd_frames.specs.{Places.{IsAfter, IsRising}, InOrder.{IsBefore}}
use Rattle.bd_calls.proofs.table.CallTable.call_out.Goals as goal

-- where all were made before, so was the one that is found
up_to : (m n : ℕ) (fs : List Frame) → IsRising m fs → IsAfter m fs n → m ≤ n
up_to m n [] r h = h
up_to m n (f ∷ fs) r h = grind (arith, r.0, up_to (suc f.made) n fs r.1 h)

found_before : (p : Frame → Bool) (m n : ℕ) (fs : List Frame) → IsRising m fs → IsAfter m fs n → IsBefore (option_map made_of (find p fs)) n
found_before p m n [] r h = tt
found_before p m n (f ∷ fs) r h = at (p f) (found_before p (suc f.made) n fs r.1 h)
  where
    at : (b : Bool) → IsBefore (option_map made_of (find p fs)) n → IsBefore (option_map made_of (cond b (Some f) (find p fs))) n
    at true rest = omega (arith, up_to (suc f.made) n fs r.1 h)
    at false rest = rest

pub returns-clause-stands : goal.returns-clause-stands
unfolding call_out owe goes_to innermost
returns-clause-stands c = λ s h k.
    let seat = c.args.seat in
    let p = c.args.process in
    let made = c.newest_made-parent.result in
    let parent : made ≡ option_map made_of (innermost_in s.frames seat) =
    c.newest_made-parent.ensures s.frames h.frames_are ∙ ap (λ o. option_map made_of o) (sym (k.1.stacked seat)) in
    let list : c.list_from-list.result ≡ list_of_caller p (find (waits_in s.threads p) (ancestry made (reverse s.frames))) =
    c.list_from-list.ensures s.frames h.frames_are ∙ ap (λ ts. list_of_caller p (find (waits_in ts p) (ancestry made (reverse s.frames)))) h.threads_are in
    let due = c.owe.ensures.stands s
    (record { threads_are = h.threads_are; frames_are = h.frames_are; todo_are = h.todo_are; turns_are = h.turns_are; ready_are = h.ready_are }) k.0 in
    rw (k.0, ← parent, ← list) (record {
      threads_are = due.threads_are;
      frames_are = c.push.ensures.stands s.frames due.frames_are (record {
        after = rw k.0 at k.1.before;
        before = rw (parent, ← k.0) (found_before (is_deepest_in s.frames seat) 0 s.steps s.frames h.frames_are.in_order.rising k.1.before);
        unread = refl;
      });
      todo_are = rw k.0 at due.todo_are;
      turns_are = due.turns_are;
      ready_are = rw k.0 at due.ready_are;
    })
