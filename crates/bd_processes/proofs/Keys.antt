-- Pids are told apart by their keys.
use Rattle.std.proofs.Common.{◌≡◌, ℕ, ◌==◌, Bool, true, false, refl, ap, sym, ◌∙◌}
use Rattle.std.proofs.lemmas.Bool.{eqb-true, eqb-false}
use Rattle.bd_keys.specs.declared.key.WordKey.{WordKey}
use Rattle.bd_keys.specs.Keys.{same_word}
use Rattle.bd_keys.proofs.Keys.{word_eq, word_self}
use Rattle.bd_processes.specs.Keys.{pid_key}

pub same_pid : (a b : ℕ) → same_word (pid_key a) (pid_key b) ≡ (a == b)
same_pid a b = at (a == b) refl
  where
    not_true : (t : Bool) → (t ≡ true → ⊥) → t ≡ false
    not_true true never = absurd (never refl)
    not_true false never = refl

    at : (t : Bool) → (a == b) ≡ t → same_word (pid_key a) (pid_key b) ≡ t
    at true e = ap (λ c. same_word (pid_key a) (pid_key c)) (sym (eqb-true a b e)) ∙ word_self (pid_key a)
    at false e = not_true _ (λ t. eqb-false a b e (ap (λ (k : WordKey). k.word) (word_eq (pid_key a) (pid_key b) t)))
