-- A read takes work items one after the other.
use Rattle.bd_step.proofs.Words.{Again, Bool, Fault, List, None, Noop, OfThread, Option, Outcome, ReadTooSmall, Some, Space, Thread, Work, [], add-one, any_left, ap, append_assoc, arith, bytes_read, concat, cond, drop, drop-cons, ends_read, false, first_of, get_or, get_or_from_slice_get, is_on, is_ready, is_some_and, length, length-append, list_to_read, map, nat_lt, none_due, not, read_fault}
use Rattle.bd_step.proofs.Words.{read_taking, reads_in, refl, refused, return_bytes, rules, slice_get, slice_get_within, stream_of, subst, sym, taken, tests, thread_in, true, when, ℕ, ◌++◌, ◌+◌, ◌-◌, ◌<◌, ◌∙◌, ◌∷◌, ◌≡◌, ◌≤◌}

-- ---- tests

lt_true : (m n : ℕ) → m < n → nat_lt m n ≡ true
lt_true m n h = search (rules, tests)

lt_false : (m n : ℕ) → n ≤ m → nat_lt m n ≡ false
lt_false m n h = search (rules, tests)

-- ---- what a thread is to read

pub due_by : (s : Space) (t : Thread) (b : Bool) → thread_in s.threads t.seat ≡ Some t → b ≡ is_ready s t.seat → none_due (list_to_read s t) ≡ not b
due_by s t b at e = let e' : b ≡ not (none_due (list_to_read s t)) = e ∙ ap (λ o. is_some_and o (λ u. not (none_due (list_to_read s u)))) at in grind (arith, e')

-- a thread reads its own list where something is there
pub own_due : (s : Space) (t : Thread) (n : ℕ) → reads_in s.frames s.todo t ≡ Some (OfThread n) → none_due (list_to_read s t) ≡ false
unfolding list_to_read
own_due s t n e = grind (arith, any_left (is_on (OfThread t.seat)) s.todo, e)

pub one_left : {A : Type 0} (ws : List A) (k : ℕ) (w : A) → slice_get ws k ≡ Some w → drop k ws ≡ w ∷ drop (k + 1) ws
one_left ws k w e =
    let lt = slice_get_within ws k w e in
    drop-cons ws k w lt ∙ sym (ap (λ n. get_or ws k w ∷ drop n ws) (add-one k)) ∙ ap (λ x. x ∷ drop (k + 1) ws) (get_or_from_slice_get ws k w w e)

-- ---- the first item of what is left

module _ (s : Space) (left : ℕ) (w : Work) (ws : List Work) where
  abbrev then_rest : List Work
  then_rest = taken s (left - length (bytes_read s w)) ws

  pub taken_on : nat_lt left 68 ≡ false → ends_read w.kind ≡ false → taken s left (w ∷ ws) ≡ w ∷ then_rest
  taken_on e t = ap (λ b. cond b [] (w ∷ cond (ends_read w.kind) [] then_rest)) e ∙ ap (λ b. w ∷ cond b [] then_rest) t

-- ---- what is taken so far, and what still is to be

pub record IsSoFar (s : Space) (all works : List Work) (stream : List ℕ) (rest : List Work) : Type 0 where
  pub works_are : works ++ rest ≡ all
  pub stream_is : stream ++ concat (map (bytes_read s) rest) ≡ stream_of s all

begun : (s : Space) (all : List Work) → IsSoFar s all [] (return_bytes Noop) all
unfolding stream_of
begun s all = record { works_are = refl; stream_is = refl }

pushed : (s : Space) (all works works' : List Work) (stream stream' : List ℕ) (w : Work) (rest : List Work) → IsSoFar s all works stream (w ∷ rest)
    → works' ≡ works ++ w ∷ [] → stream' ≡ stream ++ bytes_read s w → IsSoFar s all works' stream' rest
pushed s all works works' stream stream' w rest h e f = record {
  works_are = ap (λ ws. ws ++ rest) e ∙ append_assoc works (w ∷ []) rest ∙ h.works_are;
  stream_is = ap (λ bs. bs ++ concat (map (bytes_read s) rest)) f ∙ append_assoc stream (bytes_read s w) (concat (map (bytes_read s) rest)) ∙ h.stream_is;
}

module _ (s : Space) (limit : ℕ) (list : List Work) where
  abbrev all : List Work
  all = taken s (limit - 4) list

  -- with this rest of the list
  abbrev pub IsAt : List Work → List Work → List ℕ → Type 0
  IsAt rest works stream = IsSoFar s all works stream (taken s (limit - length stream) rest)

  pub at_start : (rest works : List Work) (stream : List ℕ) → rest ≡ list → works ≡ [] → stream ≡ return_bytes Noop → IsAt rest works stream
  at_start rest works stream r e f = rw (r, e, f) (begun s all)

  module _ (before rest : List Work) (w : Work) (works : List Work) (stream : List ℕ) where
    -- the item is the first of the rest
    there : IsAt before works stream → before ≡ w ∷ rest → IsAt (w ∷ rest) works stream
    there h e = subst (λ ws. IsAt ws works stream) e h

    pub at_next : (works' : List Work) (stream' : List ℕ) → IsAt before works stream → before ≡ w ∷ rest → nat_lt (limit - length stream) 68 ≡ false → ends_read w.kind ≡ false
        → works' ≡ works ++ w ∷ [] → stream' ≡ stream ++ bytes_read s w → IsAt rest works' stream'
    at_next works' stream' h e room ends f g =
        let less : limit - length stream' ≡ limit - length stream - length (bytes_read s w) = omega (arith, ap length g, length-append stream (bytes_read s w)) in
        rw less (pushed s all works works' stream stream' w _ (subst (IsSoFar s all works stream) (taken_on s (limit - length stream) w rest room ends) (there h e)) f g)

-- ---- the step by its cases

pub too_small : (limit : ℕ) (ws : List Work) → limit < 72 → read_fault limit ws ≡ Some ReadTooSmall
too_small limit ws h = ap (λ b. first_of (when b ReadTooSmall ∷ when (none_due ws) Again ∷ [])) (lt_true limit 72 h)

pub nothing : (limit : ℕ) (ws : List Work) → 72 ≤ limit → none_due ws ≡ true → read_fault limit ws ≡ Some Again
nothing limit ws h e =
    ap (λ b. first_of (when b ReadTooSmall ∷ when (none_due ws) Again ∷ [])) (lt_false limit 72 h) ∙ ap (λ b. first_of (when b Again ∷ [])) e

pub readable : (limit : ℕ) (ws : List Work) → 72 ≤ limit → none_due ws ≡ false → read_fault limit ws ≡ None
readable limit ws h e =
    ap (λ b. first_of (when b ReadTooSmall ∷ when (none_due ws) Again ∷ [])) (lt_false limit 72 h) ∙ ap (λ b. first_of (when b Again ∷ [])) e

abbrev pub read_outcome : Space → ℕ → ℕ → List Work → Option Fault → Outcome
read_outcome s seat limit ws fault = elim fault [ Some x ↦ refused s x | None ↦ read_taking s seat (taken s (limit - 4) ws) ]
