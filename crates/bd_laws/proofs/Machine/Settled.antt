-- For every law: settling leaves no abandoned call, and leaves a space without one as it is.
use Rattle.bd_laws.proofs.words.Logic.{◌≡◌, ℕ, zero, suc, ◌+◌, ◌≤◌, Bool, true, false, not, List, [], ◌∷◌, Option, Some, None, ◌⊎◌, inl, inr, refl, ap, ◌∙◌, filter, find, length, arith, eq-eqb}
use Rattle.bd_laws.proofs.words.Types.{DeadReply, Frame, Verdict}
use Rattle.bd_laws.proofs.words.Space.{Space, closed, is_frame, tell_caller, is_abandoned, settle_one, settle_step, settle_times, settle}
use Rattle.bd_laws.proofs.words.Laws.{In, IsSettled}
use Rattle.bd_laws.proofs.Lists.{find_in}
use Rattle.bd_laws.proofs.Machine.Fields.{told_frames, closed_frames}

module _ {A : Type 0} (p : A → Bool) where
  length_kept : (xs : List A) → length (filter p xs) ≤ length xs
  length_kept [] = omega arith
  length_kept (x ∷ xs) = search (arith, length_kept xs)

  -- A list that loses an element gets shorter.
  length_less : (x : A) (xs : List A) → In x xs → p x ≡ false → length (filter p xs) + 1 ≤ length xs
  length_less x [] h e = absurd h
  length_less x (y ∷ ys) (inl is) e = let n : p y ≡ false = ap p is ∙ e in let k = length_kept ys in rw n (omega arith)
  length_less x (y ∷ ys) (inr h) e = search (arith, length_less x ys h e)

step_less : (y : Space) (o : Option Frame) → find (is_abandoned y.frames) y.frames ≡ o → (length (settle_one y o).frames + 1 ≤ length y.frames) ⊎ IsSettled (settle_one y o).frames
step_less y None e = inr e
step_less y (Some f) e =
    let l = find_in (is_abandoned y.frames) f y.frames e in
    let same : is_frame f.made f ≡ true = eq-eqb f.made f.made refl in
    let less = length_less (λ (g : Frame). not (is_frame f.made g)) f y.frames l.0 (rw same refl) in
    let frames = told_frames (closed y f.made) f.caller (Verdict DeadReply) ∙ closed_frames y f.made in
    inl (rw frames less)

times_less : (n : ℕ) (z : Space) → (length (settle_times n z).frames + n ≤ length z.frames) ⊎ IsSettled (settle_times n z).frames
times_less zero z = inl (omega arith)
times_less (suc n) z = search (arith, times_less n z, step_less)

none_settled : (xs : List Frame) → length xs ≤ 0 → IsSettled xs
none_settled [] h = refl
none_settled (x ∷ xs) h = absurd (omega arith)

pub settle_settles : (z : Space) → IsSettled (settle z).frames
unfolding settle
settle_settles z = elim (times_less (length z.frames) z) [ inl k ↦ none_settled (settle_times (length z.frames) z).frames (omega arith) | inr k ↦ k ]

pub times_still : (n : ℕ) (z : Space) → IsSettled z.frames → settle_times n z ≡ z
times_still zero z h = refl
times_still (suc n) z h = ap settle_step (times_still n z h) ∙ ap (settle_one z) h

pub settle_still : (z : Space) → IsSettled z.frames → settle z ≡ z
unfolding settle
settle_still z h = times_still (length z.frames) z h

-- what closing an abandoned frame and telling its caller keeps, settling keeps
module _ (R : Space → Type 0) (abandons : (z : Space) (f : Frame) → find (is_abandoned z.frames) z.frames ≡ Some f → R z → R (tell_caller (closed z f.made) f (Verdict DeadReply))) where
  one_keeps : (z : Space) (o : Option Frame) → find (is_abandoned z.frames) z.frames ≡ o → R z → R (settle_one z o)
  one_keeps z o e h = search arith

  times_keep : (n : ℕ) (z : Space) → R z → R (settle_times n z)
  times_keep zero z h = h
  times_keep (suc n) z h = one_keeps (settle_times n z) (find (is_abandoned (settle_times n z).frames) (settle_times n z).frames) refl (times_keep n z h)

  pub settle_keeps : (z : Space) → R z → R (settle z)
  unfolding settle
  settle_keeps z h = times_keep (length z.frames) z h
