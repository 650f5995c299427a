-- For the public search `call_of_reply`, and for no law: which reply a reading took, and which call a reply closed.
use Rattle.bd_laws.proofs.words.Logic.{◌≡◌, ◌==◌, ℕ, Bool, true, false, [], ◌∷◌, Option, Some, None, inl, inr, Result, ap, sym, subst, ◌∙◌, arith, MatchResult, slice_get, option_eq, option_map, option_and_then, eqb-true, eq-eqb}
use Rattle.bd_laws.proofs.words.Types.{Fault, NoMemory, Read, Entry}
use Rattle.bd_laws.proofs.words.Space.{Space, opening, serves, History, next, space_after}
use Rattle.bd_engine.specs.Looks.{first_reply, innermost_of}
use Rattle.bd_audit.specs.Replays.{with_entry, beginning}
use Rattle.bd_audit.specs.Laws.{space_at}
use Rattle.bd_audit.specs.Replies.{reply_taken, reply_taken_at, frame_of, call_closed_at, call_answered}
use Rattle.bd_audit.proofs.Beginnings.{after_append}
use Rattle.bd_audit.proofs.RepliesReachTheirCallers.RepliesDue.{always_owed}
use Rattle.bd_audit.proofs.RepliesReachTheirCallers.ReplyTaken.{taken_or_not, first_stands}

-- ---- one step

-- a step that is no reading takes nothing
pub unread : (s : Space) (e : Entry) → ((limit : ℕ) → e.step ≡ Read limit → ⊥) → None ≡ reply_taken s e
unfolding reply_taken
unread s e never = search arith

same_option : (a b : Option ℕ) → option_eq (λ x y. x == y) a b ≡ true → a ≡ b
same_option a b h = search (arith, eqb-true)

option_same : (a b : Option ℕ) → option_eq (λ x y. x == y) a b ≡ false → a ≡ b → ⊥
option_same a b h e = search (arith, eq-eqb)

-- the space of one entry more
next_space : (g k : History) (e : Entry) → k ≡ with_entry g e → space_after k ≡ next (space_after g) e
unfolding space_after
next_space g k e is = ap (λ (h : History). space_after h) is ∙ after_append opening g.entries (e ∷ [])

module _ (g k : History) (e : Entry) (limit : ℕ) (reading : e.step ≡ Read limit) (is : k ≡ with_entry g e) (before now : Option ℕ)
    (was : before ≡ first_reply (space_after g) e.seat) (then : now ≡ first_reply (space_after k) e.seat) where
  found : now ≡ first_reply (next (space_after g) e) e.seat
  found = then ∙ ap (λ z. first_reply z e.seat) (next_space g k e is)

  -- Where the first reply on the list is the same before and after the step, the step took none.
  pub still_first : option_eq (λ x y. x == y) now before ≡ true → None ≡ reply_taken (space_after g) e
  still_first h = elim (taken_or_not (space_after g) (always_owed g) e limit reading) [
    | inl n ↦ sym n.0
    | inr r ↦ (let w = first_stands (next (space_after g) e) e.seat r.0 (sym found ∙ same_option now before h ∙ was ∙ r.2) in absurd (r.3 w.0 w.1 w.2))
  ]

  pub first_taken : option_eq (λ x y. x == y) now before ≡ false → before ≡ reply_taken (space_after g) e
  first_taken h = elim (taken_or_not (space_after g) (always_owed g) e limit reading) [
    | inl n ↦ absurd (option_same now before h (found ∙ n.1 ∙ sym was))
    | inr r ↦ was ∙ r.2 ∙ sym r.1
  ]

-- ---- the entry at a place

-- A result that tells x tells y where the two are equal.
pub by_name : (r : Result (Option ℕ) Fault) (x y : Option ℕ) → x ≡ y → MatchResult r (λ v. v ≡ x) (λ f. f ≡ NoMemory) → MatchResult r (λ v. v ≡ y) (λ f. f ≡ NoMemory)
by_name r x y e h = subst (λ (z : Option ℕ). MatchResult r (λ v. v ≡ z) (λ f. f ≡ NoMemory)) e h

pub past_taken : (h : History) (place : ℕ) → slice_get h.entries place ≡ None → None ≡ reply_taken_at h place
unfolding reply_taken_at
past_taken h place e = sym (ap (λ o. option_and_then (reply_taken (space_at h place)) o) e)

pub there_taken : (h g : History) (place : ℕ) (e : Entry) → g ≡ beginning place h → slice_get h.entries place ≡ Some e → reply_taken (space_after g) e ≡ reply_taken_at h place
unfolding reply_taken_at
there_taken h g place e is at = ap (λ (x : History). reply_taken (space_after x) e) is ∙ sym (ap (λ o. option_and_then (reply_taken (space_at h place)) o) at)

pub past_closed : (h : History) (place : ℕ) → slice_get h.entries place ≡ None → None ≡ call_closed_at h place
unfolding call_closed_at
past_closed h place e = sym (ap (λ o. option_and_then (frame_of (space_at h place)) o) e)

there_closed : (h g : History) (place : ℕ) (e : Entry) → g ≡ beginning place h → slice_get h.entries place ≡ Some e → frame_of (space_after g) e ≡ call_closed_at h place
unfolding call_closed_at
there_closed h g place e is at = ap (λ (x : History). frame_of (space_after x) e) is ∙ sym (ap (λ o. option_and_then (frame_of (space_at h place)) o) at)

-- ---- the innermost frame

abbrev first_part : Option (ℕ × Bool) → Option ℕ
first_part o = option_map (λ (p : ℕ × Bool). p.0) o

frame_is : (s : Space) (e : Entry) → frame_of s e ≡ first_part (innermost_of s e.seat)
unfolding frame_of
frame_is s e = search (arith, serves)

pub closed_some : (h g : History) (place : ℕ) (e : Entry) (made : ℕ) (serving : Bool) → g ≡ beginning place h → slice_get h.entries place ≡ Some e
    → Some (made, serving) ≡ innermost_of (space_after g) e.seat → Some made ≡ call_closed_at h place
closed_some h g place e made serving is at inner = ap first_part inner ∙ sym (frame_is (space_after g) e) ∙ there_closed h g place e is at

pub closed_none : (h g : History) (place : ℕ) (e : Entry) → g ≡ beginning place h → slice_get h.entries place ≡ Some e
    → None ≡ innermost_of (space_after g) e.seat → None ≡ call_closed_at h place
closed_none h g place e is at inner = ap first_part inner ∙ sym (frame_is (space_after g) e) ∙ there_closed h g place e is at

-- ---- the call that is answered, by the reply that was taken

pub answered_none : (h : History) (place : ℕ) → None ≡ reply_taken_at h place → None ≡ call_answered h place
unfolding call_answered
answered_none h place e = ap (λ o. option_and_then (call_closed_at h) o) e

pub answered_some : (h : History) (place reply : ℕ) → Some reply ≡ reply_taken_at h place → call_closed_at h reply ≡ call_answered h place
unfolding call_answered
answered_some h place reply e = ap (λ o. option_and_then (call_closed_at h) o) e
