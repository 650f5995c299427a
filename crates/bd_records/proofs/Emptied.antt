-- The lists of a window's buffers, while one reference after the other is taken out of it.
use Rattle.bd_records.proofs.Words.{Asked, Bool, Carried, Handshake, Holder, LiesIn, List, Manager, None, Option, Reference, Some, Target, [], ap, arith, buffer_of_holder, eqb-true, false, filter, find, inl, inr, is_asked_by, is_in_window, is_of_buffer, list_any, not, refl, sym, true, without_first}
use Rattle.bd_records.proofs.Words.{ℕ, ◌&&◌, ◌∙◌, ◌∷◌, ◌≡◌, ◌⊎◌}
use Rattle.bd_records.proofs.Lists.{nothing_goes}

of_buffer : (b : ℕ) (h : Holder) → is_of_buffer b h ≡ true → buffer_of_holder h ≡ Some b
of_buffer b (Asked q) e = absurd cc
of_buffer b (Carried c q) e = ap (λ n. Some n) (eqb-true c b e)
of_buffer b (Target c q) e = ap (λ n. Some n) (eqb-true c b e)
of_buffer b Handshake e = absurd cc
of_buffer b Manager e = absurd cc

not_asked : (p b : ℕ) (h : Holder) → is_of_buffer b h ≡ true → is_asked_by p h ≡ false
not_asked p b (Asked q) e = absurd cc
not_asked p b (Carried c q) e = refl
not_asked p b (Target c q) e = refl
not_asked p b Handshake e = absurd cc
not_asked p b Manager e = absurd cc

module _ (q p : Reference → Bool) where
  -- if none is left, the one that went was one
  last_was : (l : List Reference) (r : Reference) → find p l ≡ Some r → list_any q l ≡ true → list_any q (without_first p l) ≡ false → q r ≡ true
  last_was [] r f a n = absurd cc
  last_was (x ∷ l) r f a n = grind (arith, last_was l r, f, a, n)

  any_left : (l : List Reference) → list_any q (filter (λ x. not (p x)) l) ≡ list_any (λ x. q x && not (p x)) l
  any_left [] = refl
  any_left (x ∷ l) = grind (arith, any_left l)

  -- where nothing that passes is left, and the others were none
  pub none_of : (m l : List Reference) → list_any p m ≡ false → filter (λ x. not (p x)) m ≡ filter (λ x. not (p x)) l
      → list_any (λ x. q x && not (p x)) l ≡ false → list_any q m ≡ false
  none_of m l n same only = ap (list_any q) (sym (nothing_goes p m n) ∙ same) ∙ any_left l ∙ only

-- one more is taken out: a buffer's list has gone, or there is still something in the buffer
pub emptied_next : (b p : ℕ) (old new : Option ℕ) (m : List Reference) → ((r : Reference) → find (λ x. is_in_window p x.holder) m ≡ Some r → buffer_of_holder r.holder ≡ Some b
    → list_any (λ x. is_of_buffer b x.holder) (without_first (λ x. is_in_window p x.holder) m) ≡ false → new ≡ None)
    → (old ≡ None → new ≡ None) → (r : Reference) → find (λ x. is_in_window p x.holder) m ≡ Some r
    → (old ≡ None) ⊎ (list_any (λ x. is_of_buffer b x.holder) m ≡ true)
    → (new ≡ None) ⊎ (list_any (λ x. is_of_buffer b x.holder) (without_first (λ x. is_in_window p x.holder) m) ≡ true)
emptied_next b p old new m gone fewer r first (inl n) = inl (fewer n)
emptied_next b p old new m gone fewer r first (inr a) = at (list_any (λ (x : Reference). is_of_buffer b x.holder) (without_first (λ x. is_in_window p x.holder) m)) refl
  where
    at : (c : Bool) → list_any (λ (x : Reference). is_of_buffer b x.holder) (without_first (λ x. is_in_window p x.holder) m) ≡ c
        → (new ≡ None) ⊎ (list_any (λ (x : Reference). is_of_buffer b x.holder) (without_first (λ x. is_in_window p x.holder) m) ≡ true)
    at true e = inr e
    at false e = inl (gone r first (of_buffer b r.holder (last_was (λ (x : Reference). is_of_buffer b x.holder) (λ x. is_in_window p x.holder) m r first a e)) e)

-- once nothing lies in the window
pub emptied_all : (p b : ℕ) (list : Option ℕ) (m l : List Reference) → LiesIn p b l → list_any (λ (x : Reference). is_in_window p x.holder) m ≡ false
    → filter (λ (x : Reference). not (is_in_window p x.holder)) m ≡ filter (λ (x : Reference). not (is_in_window p x.holder)) l
    → (list ≡ None) ⊎ (list_any (λ (x : Reference). is_of_buffer b x.holder) m ≡ true) → list ≡ None
emptied_all p b list m l lies n same (inl h) = h
emptied_all p b list m l lies n same (inr h) =
    absurd (let none = none_of (λ (x : Reference). is_of_buffer b x.holder) (λ x. is_in_window p x.holder) m l n same lies.only in cc)

-- what was asked for lies in no buffer
any_unasked : (p : ℕ) (q : Reference → Bool) → ((x : Reference) → q x ≡ true → is_asked_by p x.holder ≡ false) → (l : List Reference)
    → list_any q (filter (λ r. not (is_asked_by p r.holder)) l) ≡ list_any q l
any_unasked p q off [] = refl
any_unasked p q off (x ∷ l) = grind (arith, any_unasked p q off l, off x)

and_first : (a b : Bool) → (a && b) ≡ true → a ≡ true
and_first true b e = refl
and_first false b e = absurd cc

pub lies_unasked : (p b : ℕ) (l : List Reference) → LiesIn p b l → LiesIn p b (filter (λ r. not (is_asked_by p r.holder)) l)
lies_unasked p b l h = record {
  any = any_unasked p (λ r. is_of_buffer b r.holder) (λ x. not_asked p b x.holder) l ∙ h.any;
  only = any_unasked p (λ r. is_of_buffer b r.holder && not (is_in_window p r.holder)) (λ x e. not_asked p b x.holder (and_first _ _ e)) l ∙ h.only;
}
