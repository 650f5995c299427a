use Rattle.bd_records.proofs.Words.{None, Option, Some, ap, false, is_of_buffer, list_any, list_of, option_map, refl, subst, sym, unwrap_or, ℕ, ◌∙◌, ◌≡◌}
use Rattle.bd_records.proofs.buffers.Buffers.close_of.Goals as goal

pub returns-in-Some-clause-gone : goal.returns-in-Some-clause-gone
returns-in-Some-clause-gone c = λ b l at h none.
    let is = ap (option_map (λ x. x.buffer)) (sym c.in-Some.is) ∙ c.berth_of.ensures.buffer ∙ at in
    let same = ap (λ o. unwrap_or o 0) is in
    subst (λ k. list_of c.close.new.self k ≡ None) same
    (c.close.ensures.gone l h (subst (λ k. list_any (λ r. is_of_buffer k r.holder) l ≡ false) (sym same) none))

some_of : {A : Type 0} (f : A → ℕ) (o : Option A) (b : ℕ) → option_map f o ≡ Some b → (x : A) × (o ≡ Some x)
some_of f None b e = absurd cc
some_of f (Some x) b e = (x, refl)

pub returns-in_default-clause-gone : goal.returns-in_default-clause-gone
returns-in_default-clause-gone c = λ b l at h none.
    let lay = some_of (λ x. x.buffer) c.berth_of.result b (c.berth_of.ensures.buffer ∙ at) in
    absurd (c.in_default.not-Some lay.0 lay.1)

pub returns-in-Some-clause-fewer : goal.returns-in-Some-clause-fewer
returns-in-Some-clause-fewer c = c.close.ensures.fewer
