-- Steps that are accepted, and steps that get a note.
use Rattle.bd_step.proofs.{Words.{Accepted, Before, Err, IsKept, Meets, Note, Noted, Ok, Outcome, Result, Space, Tables, Within, accepted, ap, by_check, completed, noted, subst, sym, ◌∙◌, ◌≡◌}, Standing.{within}}

-- room was made, and then the change was made with what follows from it, which may rest on what is so of the space before and on
-- what the step asks of it
accepts : (old mid new : Tables) (P : Space → Type 0) (f : Space → Outcome) (g : Space → Space)
    → IsKept old mid → ((s : Space) → Before old s → P s → Within mid s → Within new (completed (g s))) → ((s : Space) → Before old s → P s → f s ≡ accepted (g s))
    → Meets old new P f Accepted
accepts old mid new P f g kept changed is = record {
  answered = λ s h p. sym (ap (λ (o : Outcome). o.answer) (is s h p));
  stands = λ s h p. subst (λ (o : Outcome). Within new o.space) (sym (is s h p)) (changed s h p (within mid s (kept s h)));
}

-- the same, where nothing follows from the change
pub accepts_alone : (old mid new : Tables) (P : Space → Type 0) (f : Space → Outcome) (g : Space → Space)
    → IsKept old mid → ((s : Space) → Before old s → P s → Within mid s → Within new (g s)) → ((s : Space) → Before old s → P s → completed (g s) ≡ g s) → ((s : Space) → Before old s → P s → f s ≡ accepted (g s))
    → Meets old new P f Accepted
accepts_alone old mid new P f g kept changed still is = record {
  answered = λ s h p. sym (ap (λ (o : Outcome). o.answer) (is s h p));
  stands = λ s h p. subst (Within new) (sym (ap (λ (o : Outcome). o.space) (is s h p) ∙ still s h p)) (changed s h p (within mid s (kept s h)));
}

-- nothing was changed
pub notes : (t : Tables) (P : Space → Type 0) (f : Space → Outcome) (n : Note)
    → ((s : Space) → Before t s → P s → f s ≡ noted s n) → Meets t t P f (Noted n)
notes t P f n is = record {
  answered = λ s h p. sym (ap (λ (o : Outcome). o.answer) (is s h p));
  stands = λ s h p. subst (λ (o : Outcome). Within t o.space) (sym (is s h p)) (within t s h);
}

-- ---- steps that check first

module _ {A : Type 0} (old : Tables) (P : Space → Type 0) (g : Space → A → Space) (check : Space → Result A Note) where
  abbrev checked : Space → Outcome
  checked s = by_check s (g s) (check s)

  pub checked_notes : (n : Note) → ((s : Space) → Before old s → Err n ≡ check s) → Meets old old P checked (Noted n)
  checked_notes n is = notes old P checked n (λ s h p. sym (ap (by_check s (g s)) (is s h)))

  module _ (x : A) (is : (s : Space) → Before old s → Ok x ≡ check s) (mid new : Tables) (kept : IsKept old mid) where
    pub checked_accepts : ((s : Space) → Before old s → P s → Within mid s → Within new (completed (g s x))) → Meets old new P checked Accepted
    checked_accepts changed = accepts old mid new P checked (λ s. g s x) kept changed (λ s h p. sym (ap (by_check s (g s)) (is s h)))

    pub checked_accepts_alone : ((s : Space) → Before old s → P s → Within mid s → Within new (g s x)) → ((s : Space) → Before old s → P s → completed (g s x) ≡ g s x)
        → Meets old new P checked Accepted
    checked_accepts_alone changed still = accepts_alone old mid new P checked (λ s. g s x) kept changed still (λ s h p. sym (ap (by_check s (g s)) (is s h)))
