-- Steps on the own mailbox, from what a seat at rest knows.
use Rattle.bd_driver.proofs.{MailboxSteps.{closes_mailbox, collects, opens_mailbox, posts, withdraws}, Words.{Allows, Answered, Back, BeginsWith, Bool, Collects, Done, Empty, Entry, Handed, Handover, Hands, Home, IsAtRest, IsCollected, IsReady, IsTold, Kept, List, Open, Outcome, Posted, Request, Shut, Slot, View, Waiting, [], ap, arith, closed, collected_as, collected_at, either, eqb, false, held_of, is_waiting, none, opened, posted_as, posted_at, refl, rest, step, subst, suc, sym, true, true≢false, view_of, withdrew, ℕ, ◌+◌, ◌∙◌, ◌∷◌, ◌≡◌}}

pub open_hand : (h : Handover) → IsReady h → is_waiting h ≡ false → h ≡ Open
open_hand Shut r e = absurd r
open_hand Open r e = refl
open_hand (Waiting q since) r e = absurd (true≢false e)

pub waiting_hand : (h : Handover) → is_waiting h ≡ true → (r : Request) × (since : ℕ) × (h ≡ Waiting r since)
waiting_hand Shut e = absurd (true≢false (sym e))
waiting_hand Open e = absurd (true≢false (sym e))
waiting_hand (Waiting q since) e = (q, since, refl)

-- an open seat holds its mailbox's slot, a waiting one none
pub open_me : (words : ℕ) (me : Hands) (number : ℕ) (waiting : Bool) → IsAtRest words me number waiting → is_waiting (view_of me.0).handover ≡ false → me ≡ (view_of me.0 ∷ [], (suc (view_of me.0).who, Empty) ∷ [])
open_me words me number waiting r e = λ i. (r.one i, (r.held ∙ ap (λ h. held_of h (view_of me.0).who) (open_hand (view_of me.0).handover r.ready e)) i)

pub waiting_me : (words : ℕ) (me : Hands) (number : ℕ) (waiting : Bool) → IsAtRest words me number waiting → is_waiting (view_of me.0).handover ≡ true → me ≡ (view_of me.0 ∷ [], [])
waiting_me words me number waiting r e = let h = waiting_hand (view_of me.0).handover e in λ i. (r.one i, (r.held ∙ ap (λ h. held_of h (view_of me.0).who) h.2) i)

-- the slot that is held first, and the others
pub first_held : (xs ys : List (ℕ × Slot)) (slot : ℕ) (x : Slot) → xs ≡ (slot, x) ∷ ys → xs ≡ (slot, x) ∷ rest xs
first_held xs ys slot x is = is ∙ ap (λ (l : List (ℕ × Slot)). (slot, x) ∷ rest l) (sym is)

-- what an exchange leaves in the slot held first, for a number that takes arithmetic
pub refill : (me m : Hands) (v : View) (xs : List (ℕ × Slot)) (slot : ℕ) (x y : Slot) → me ≡ (v ∷ [], xs) → m ≡ (me.0, (slot, y) ∷ rest me.1) → m ≡ (v ∷ [], (slot, y) ∷ rest xs)
refill me m v xs slot x y is e = e ∙ ap (λ (z : Hands). (z.0, (slot, y) ∷ rest z.1)) is

-- the seat's hands once the request lies in its mailbox's slot
laid : (words : ℕ) (me m : Hands) (number : ℕ) (waiting : Bool) (r : Request) → IsAtRest words me number waiting → is_waiting (view_of me.0).handover ≡ false → m ≡ (me.0, (number + 1, Posted r) ∷ rest me.1) → m ≡ (view_of me.0 ∷ [], (number + 1, Posted r) ∷ [])
laid words me m number waiting r s free is = refill me m (view_of me.0) _ (number + 1) Empty (Posted r) (open_me words me number waiting s free) is

own_word : (words : ℕ) (me : Hands) (number : ℕ) (waiting : Bool) → IsAtRest words me number waiting → number + 1 ≡ suc (view_of me.0).who
own_word words me number waiting r = omega (arith, r.number_is)

pub posts_at : (seats slots id words : ℕ) (me m : Hands) (number : ℕ) (waiting : Bool) (r : Request) → IsAtRest words me number waiting → is_waiting (view_of me.0).handover ≡ false → m ≡ (me.0, (number + 1, Posted r) ∷ rest me.1)
    → Allows (Kept seats) slots id m (number + 1) (λ _. 1) (posted_as (step slots (number + 1) 1 0 none) m)
posts_at seats slots id words me m number waiting r s free is =
    let v = view_of me.0 in
    let at = own_word words me number waiting s in
    subst (λ (z : Hands × ℕ). Allows (Kept seats) slots id z.0 z.1 (λ _. 1) (posted_as (step slots z.1 1 0 none) z.0)) (λ i. (sym (laid words me m number waiting r s free is ∙ ap (λ (w : ℕ). (v ∷ [], (w, Posted r) ∷ [])) at) i, sym at i))
    (posts seats slots id (v ∷ [], (suc v.who, Posted r) ∷ []) refl r (open_hand v.handover s.ready free) refl)

abbrev asked : Request → Slot → Request
asked d (Home e) = d
asked d (Posted r) = r
asked d (Answered o) = d
asked d Empty = d

abbrev asked_in : Request → List (ℕ × Slot) → Request
asked_in d [] = d
asked_in d (x ∷ xs) = asked d x.1

pub after_post : (slots words n : ℕ) (me m m' : Hands) (number : ℕ) (waiting : Bool) (r : Request) → IsAtRest words me number waiting → is_waiting (view_of me.0).handover ≡ false → m ≡ (me.0, (number + 1, Posted r) ∷ rest me.1) → posted_as (step slots (number + 1) 1 0 none) m n m'
    → m' ≡ (posted_at (view_of me.0) n r ∷ [], [])
after_post slots words n me m m' number waiting r s free after t =
    let is = laid words me m number waiting r s free after in
    let same : t.1 ≡ r = sym (ap (asked_in r) t.2) ∙ ap (λ (x : Hands). asked_in r x.1) is in
    t.3 ∙ (λ i. (posted_at (view_of (is i).0) n (same i) ∷ [], rest (is i).1))

pub posted_rests : (words n : ℕ) (me m' : Hands) (number : ℕ) (waiting : Bool) (r : Request) → IsAtRest words me number waiting → m' ≡ (posted_at (view_of me.0) n r ∷ [], []) → IsAtRest words m' number true
posted_rests words n me m' number waiting r s is = subst (λ m. IsAtRest words m number true) (sym is) (record { one = refl; held = refl; idle = s.idle; number_is = s.number_is; none_picked = s.none_picked; waits = refl; ready = tt; below = s.below; wide = s.wide })

pub withdraws_at : (seats slots id words : ℕ) (me : Hands) (number : ℕ) (waiting : Bool) → IsAtRest words me number waiting → is_waiting (view_of me.0).handover ≡ true → Allows (Kept seats) slots id me (number + 1) (λ n. either (eqb n 1) 0 n) (withdrew (step slots (number + 1) 1 0 none) me)
withdraws_at seats slots id words me number waiting r waits =
    let h = waiting_hand (view_of me.0).handover waits in
    subst (λ (z : Hands × ℕ). Allows (Kept seats) slots id z.0 z.1 (λ n. either (eqb n 1) 0 n) (withdrew (step slots z.1 1 0 none) z.0)) (λ i. (sym (waiting_me words me number waiting r waits) i, sym (own_word words me number waiting r) i))
    (withdraws seats slots id (view_of me.0 ∷ [], []) refl h.0 h.1 h.2)

pub collects_at : (seats slots id words : ℕ) (me : Hands) (number : ℕ) (waiting : Bool) → IsAtRest words me number waiting → is_waiting (view_of me.0).handover ≡ true → Allows (Kept seats) slots id me (number + 1) (λ n. either (eqb n 3) 0 n) (collected_as (step slots (number + 1) 3 0 none) me)
collects_at seats slots id words me number waiting r waits =
    let h = waiting_hand (view_of me.0).handover waits in
    subst (λ (z : Hands × ℕ). Allows (Kept seats) slots id z.0 z.1 (λ n. either (eqb n 3) 0 n) (collected_as (step slots z.1 3 0 none) z.0)) (λ i. (sym (waiting_me words me number waiting r waits) i, sym (own_word words me number waiting r) i))
    (collects seats slots id (view_of me.0 ∷ [], []) refl h.0 h.1 h.2 r.idle)

told_at : (v w : View) (o : Outcome) (entries : List Entry) (r : Request) (since : ℕ) → BeginsWith entries v.seen → v.handover ≡ Waiting r since → IsTold v.seats entries v.who r since o → w ≡ collected_at v 3 entries o → IsCollected v w o
told_at v w o entries r since begins handover told is =
    subst (λ (x : View). IsCollected v x o) (sym is) (record { request = r; since = since; handed = handover; begins = begins; only = refl; is_told = told })

pub told_collects : (v w : View) (o : Outcome) (entries : List Entry) (r : Request) (since : ℕ) → BeginsWith entries v.seen → v.handover ≡ Waiting r since → IsTold v.seats entries v.who r since o → w ≡ collected_at v 3 entries o → Collects v w o
told_collects v w (Done answer start end) entries r since a b c d = told_at v w (Done answer start end) entries r since a b c d
told_collects v w (Back back why) entries r since a b c d = told_at v w (Back back why) entries r since a b c d
told_collects v w Handed entries r since a b c d = absurd c

pub opens_at : (seats slots id : ℕ) (me : Hands) (v : View) (xs : List (ℕ × Slot)) (word : ℕ) → me ≡ (v ∷ [], xs) → word ≡ suc v.who → v.handover ≡ Shut → Allows (Kept seats) slots id me word (λ n. n) (opened (step slots word 0 0 none) me)
opens_at seats slots id me v xs word is at handover =
    subst (λ (z : Hands × ℕ). Allows (Kept seats) slots id z.0 z.1 (λ n. n) (opened (step slots z.1 0 0 none) z.0)) (λ i. (sym is i, sym at i)) (opens_mailbox seats slots id (v ∷ [], xs) refl handover)

pub closes_at : (seats slots id : ℕ) (me : Hands) (v : View) (xs : List (ℕ × Slot)) (word : ℕ) → me ≡ (v ∷ [], (suc v.who, Empty) ∷ xs) → word ≡ suc v.who → v.handover ≡ Open → Allows (Kept seats) slots id me word (λ n. n) (closed (step slots word 0 0 none) me)
closes_at seats slots id me v xs word is at handover =
    subst (λ (z : Hands × ℕ). Allows (Kept seats) slots id z.0 z.1 (λ n. n) (closed (step slots z.1 0 0 none) z.0)) (λ i. (sym is i, sym at i)) (closes_mailbox seats slots id (v ∷ [], (suc v.who, Empty) ∷ xs) refl handover refl)
