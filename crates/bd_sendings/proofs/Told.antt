-- Who is told, and who isn't.
use Rattle.std.proofs.Common.{◌≡◌, ◌⊎◌, ℕ, ◌+◌, ◌≤◌, Bool, true, false, not, ◌&&◌, ◌||◌, cond, List, [], ◌∷◌, length, Option, Some, None, find, count_by, inl, inr, refl, sym, ap, ◌∙◌, arith}
use Rattle.std.specs.Prelude.{◌==◌, nat_lt, if◌then◌else◌, position}
use Rattle.std.specs.List.{list_any, position_or_len}
use Rattle.std.proofs.lemmas.Bool.{eqb-true, eq-eqb}
use Rattle.bd_sendings.specs.declared.sent.Sent.{Sent}
use Rattle.bd_sendings.specs.Sendings.{is_of, is_told, is_elsewhere, sender_or, has_sent, told_of, place_of, comes_before, is_before}
use Rattle.bd_sendings.specs.Laws.{AreOnce, WhoIsToldHasSentIt, NobodyIsToldTwice, WhatIsUnknownStays}
use Rattle.bd_sendings.proofs.Counts.{none_narrower, two_pass, some_count}

or_left : (a b : Bool) → a ≡ true → (a || b) ≡ true
or_left true b e = refl
or_left false b e = absurd cc

or_right : (a b : Bool) → b ≡ true → (a || b) ≡ true
or_right true b e = refl
or_right false b e = e

-- what was found is there, and passes
found : (q r : Sent → Bool) (known : List Sent) (e : Sent) → find q known ≡ Some e → r e ≡ true → list_any r known ≡ true
found q r [] e is passed = absurd cc
found q r (x ∷ xs) e is passed = at (q x) is (λ h. found q r xs e h passed)
  where
    at : (b : Bool) → cond b (Some x) (find q xs) ≡ Some e → (find q xs ≡ Some e → list_any r xs ≡ true) → (r x || list_any r xs) ≡ true
    at true h more = let same : x ≡ e = cc in or_left (r x) (list_any r xs) (ap r same ∙ passed)
    at false h more = or_right (r x) (list_any r xs) (more h)

passes : (q : Sent → Bool) (known : List Sent) (e : Sent) → find q known ≡ Some e → q e ≡ true
passes q [] e is = absurd cc
passes q (x ∷ xs) e is = at (q x) refl is (passes q xs e)
  where
    at : (b : Bool) → q x ≡ b → cond b (Some x) (find q xs) ≡ Some e → (find q xs ≡ Some e → q e ≡ true) → q e ≡ true
    at true f h more = let same : x ≡ e = cc in ap q (sym same) ∙ f
    at false f h more = more h

second : (a b : Bool) → (a && b) ≡ true → b ≡ true
second true b e = e
second false b e = absurd cc

first : (a b : Bool) → (a && b) ≡ true → a ≡ true
first true b e = refl
first false b e = absurd cc

joined : (a b : Bool) → a ≡ true → b ≡ true → (a && b) ≡ true
joined true true e f = refl
joined true false e f = absurd cc
joined false b e f = absurd cc

pub has_sent_it : WhoIsToldHasSentIt
has_sent_it thread ptr known = at (list_any (λ e. is_of thread ptr e && e.is_others) known) (find (is_elsewhere thread ptr) known) refl
  where
    Is : ℕ → Type 0
    Is u = (u ≡ thread) ⊎ (list_any (λ e. (e.sender == u) && is_told ptr e) known ≡ true)

    at : (b : Bool) (o : Option Sent) → find (is_elsewhere thread ptr) known ≡ o → Is (if b then sender_or thread o else thread)
    at false o e = inl refl
    at true None e = inl refl
    at true (Some x) e = inr (found (is_elsewhere thread ptr) (λ f. (f.sender == x.sender) && is_told ptr f) known x e
        (joined (x.sender == x.sender) (is_told ptr x) (eq-eqb x.sender x.sender refl)
        (second (not (x.sender == thread)) (is_told ptr x) (passes (is_elsewhere thread ptr) known x e))))

-- who is told of an object itself has it from nobody
stays_there : (u ptr : ℕ) (known : List Sent) → AreOnce known → list_any (λ e. (e.sender == u) && is_told ptr e) known ≡ true → told_of u ptr known ≡ u
stays_there u ptr known once there = at (list_any (λ e. is_of u ptr e && e.is_others) known) refl
  where
    mine : Sent → Bool
    mine e = (e.sender == u) && is_told ptr e

    handed : Sent → Bool
    handed e = is_of u ptr e && e.is_others

    split : (a c o : Bool) → (a && (c && not o)) ≡ true → ((a && c) ≡ true) × (((a && c) && o) ≡ false)
    split true true false e = (refl, refl)
    split true true true e = absurd cc
    split true false o e = absurd cc
    split false c o e = absurd cc

    at : (b : Bool) → list_any handed known ≡ b → (if b then sender_or u (find (is_elsewhere u ptr) known) else u) ≡ u
    at false e = refl
    at true e = absurd (
        let two = two_pass (is_of u ptr) mine handed (λ x is. split (x.sender == u) (x.ptr == ptr) x.is_others is) (λ x is. first (is_of u ptr x) x.is_others is) known in
        let one = some_count mine known there in
        let other = some_count handed known e in
        let most = once.sent u ptr in
        omega (arith, two, one, other, most))

pub not_twice : NobodyIsToldTwice
not_twice thread ptr known once = at (has_sent_it thread ptr known)
  where
    at : (told_of thread ptr known ≡ thread) ⊎ (list_any (λ e. (e.sender == told_of thread ptr known) && is_told ptr e) known ≡ true)
        → told_of (told_of thread ptr known) ptr known ≡ told_of thread ptr known
    at (inl e) = ap (λ u. told_of u ptr known) e
    at (inr e) = stays_there (told_of thread ptr known) ptr known once e

-- ---- what isn't known

nowhere : (p : Sent → Bool) (l : List Sent) → list_any p l ≡ false → position_or_len p l ≡ length l
nowhere p [] e = refl
nowhere p (x ∷ l) e = at (p x) refl (nowhere p l)
  where
    at : (b : Bool) → p x ≡ b → (list_any p l ≡ false → position_or_len p l ≡ length l) → position_or_len p (x ∷ l) ≡ length (x ∷ l)
    at true f more = absurd (grind (arith, f, e))
    at false f more = grind (arith, f, e, more)

not_less : (n : ℕ) → nat_lt n n ≡ false
not_less n = grind (arith)

no_place : (thread ptr : ℕ) (known : List Sent) → has_sent thread ptr known ≡ false → place_of thread ptr known ≡ None
no_place thread ptr known e = rw (nowhere (is_of thread ptr) known e, not_less (length known)) refl

not_after : (o : Option ℕ) → comes_before o None ≡ false
not_after None = refl
not_after (Some i) = refl

not_before : (o : Option ℕ) → comes_before None o ≡ false
not_before None = refl
not_before (Some i) = refl

pub unknown_stays : WhatIsUnknownStays
unknown_stays thread ptr known e = (
  ap (λ b. if b then sender_or thread (find (is_elsewhere thread ptr) known) else thread)
      (none_narrower (λ x. is_of thread ptr x && x.is_others) (is_of thread ptr) (λ x is. first (is_of thread ptr x) x.is_others is) known e),
  λ other. (
    ap (λ o. comes_before o (place_of thread other known)) (no_place thread ptr known e) ∙ not_before (place_of thread other known),
    ap (comes_before (place_of thread other known)) (no_place thread ptr known e) ∙ not_after (place_of thread other known),
  ),
)
