use Rattle.std.proofs.Common.{ℕ, ◌-◌, sym, ap, ◌∙◌, arith, bit_and, pow_pos}
use Rattle.std.specs.Int.{bit_at}
use Rattle.bd_calls.proofs.Marked.{low_kept, low_only, one_up}
use Rattle.bd_calls.proofs.bits.low.Goals as goal

pub overflow_sub-result : goal.overflow_sub-result
overflow_sub-result c = omega (arith, one_up c.args.count c.requires, pow_pos c.args.count)

pub returns : goal.returns
returns c =
    let word = c.args.word in
    let count = c.args.count in
    let same = λ (i : ℕ). ap (λ x. bit_at (bit_and word (x - 1)) i) (one_up count c.requires) in
    record { kept = λ i l. same i ∙ low_kept word count i l; no_more = λ i h. low_only word count i (sym (same i) ∙ h) }
