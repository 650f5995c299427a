use Rattle.bd_step.proofs.Words.{List, ap, arith, drop, length, take, take-append_seam, translation, ℕ, ◌++◌, ◌∙◌, ◌≡◌}
use Rattle.bd_step.proofs.tables.Tables.translation.Goals as goal

pub returns-clause-translated : goal.returns-clause-translated
returns-clause-translated c = λ n s h.
    let new = c.translate.new.bytes in
    let rest = drop (length new) c.into_vec-bytes.result.items in
    let len : c.into_vec-bytes.result.len ≡ length new = omega (arith, c.as_mut_slice.ensures.len, c.translate.auto.bytes) in
    let all : c.new.result ≡ new = c.new.ensures ∙ ap (λ (k : ℕ). take k (new ++ rest)) len ∙ take-append_seam new rest in
    all ∙ c.translate.ensures n s h ∙ ap (λ (bs : List ℕ). translation s c.args.q bs c.args.items.now) (c.as_mut_slice.ensures.value ∙ c.into_vec-bytes.ensures)
