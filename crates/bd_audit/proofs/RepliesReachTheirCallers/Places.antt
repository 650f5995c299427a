-- For RepliesReachTheirCallers: the space before the later of two entries is reached from that after the earlier one, so it
-- has what every step keeps. RepliesAnswerTheLatestOpenCall and TurnsTellOfCalls use `between`.
use Rattle.bd_laws.proofs.words.Space.{Space, opening, after, next}
use Rattle.bd_laws.proofs.words.Laws.{IsTidy}
use Rattle.bd_laws.proofs.Always.{step_tidy, tidy_after}
use Rattle.bd_laws.proofs.Machine.Steps.{next_steps}
use Rattle.std.proofs.Common.{◌≡◌, ℕ, suc, ◌<◌, List, [], ◌∷◌, ◌++◌, length, length-append, ap, sym, subst, ◌∙◌, arith}
use Rattle.bd_space.specs.declared.step.Entry.{Entry}
use Rattle.bd_audit.specs.Gifts.{Stands}
use Rattle.bd_audit.proofs.Beginnings.{after_append}
use Rattle.bd_laws.proofs.Machine.Steps.{always_steps}

pub between : (before later : List Entry) (e f : Entry) (rest more : List Entry) → before ++ e ∷ rest ≡ later ++ f ∷ more → length before < length later
    → (mid : List Entry) × (later ≡ before ++ e ∷ mid)
between before [] e f rest more is lt = absurd (omega arith)
between [] (x ∷ later) e f rest more is lt = let head : e ≡ x = cc in (later, ap (λ y. y ∷ later) (sym head))
between (y ∷ before) (x ∷ later) e f rest more is lt =
    let head : y ≡ x = cc in
    let tail : before ++ e ∷ rest ≡ later ++ f ∷ more = cc in
    let k = between before later e f rest more tail (omega arith) in
    (k.0, ap (λ z. z ∷ later) (sym head) ∙ ap (λ ys. y ∷ ys) k.1)

module _ (es : List Entry) (i j : ℕ) (before later : List Entry) (e f : Entry) (at : Stands es i before e) (then : Stands es j later f) (lt : i < j) where
  mid : (mid : List Entry) × (later ≡ before ++ e ∷ mid)
  mid = between before later e f at.rest then.rest (sym at.all ∙ then.all) (let p = at.at in let q = then.at in omega arith)

  -- the space before the later is one after the earlier
  later_space : after opening later ≡ after (next (after opening before) e) mid.0
  later_space = ap (λ xs. after opening xs) mid.1 ∙ after_append opening before (e ∷ mid.0)

  next_place : (next (after opening before) e).steps ≡ suc i
  next_place =
      let one = after_append opening before (e ∷ []) in
      let steps = always_steps (before ++ e ∷ []) in
      let l = length-append before (e ∷ []) in
      let p = at.at in
      sym (ap (λ (z : Space). z.steps) one) ∙ steps ∙ omega arith

-- what later steps keep of a step at c holds at later places
module _ (P : Space → Type 0) (c : ℕ) (k : (s : Space) (e : Entry) → IsTidy s → c < s.steps → P s → P (next s e)) where
  later : (es : List Entry) (s : Space) → IsTidy s → c < s.steps → P s → P (after s es)
  later [] s tidy lt h = h
  later (e ∷ es) s tidy lt h =
      let n = next_steps s e in later es (next s e) (step_tidy s e tidy) (omega arith) (k s e tidy lt h)

  pub later_place : (es : List Entry) (i j : ℕ) (before then : List Entry) (e f : Entry) (at : Stands es i before e) (next_at : Stands es j then f) (lt : i < j) → c < suc i
      → P (next (after opening before) e) → P (after opening then)
  later_place es i j before then e f at next_at lt below h =
      let n = next_place es i j before then e f at next_at lt in
      subst P (sym (later_space es i j before then e f at next_at lt))
      (later (mid es i j before then e f at next_at lt).0 (next (after opening before) e) (step_tidy (after opening before) e (tidy_after before)) (omega arith) h)
