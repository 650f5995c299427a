use Rattle.std.proofs.Common.{◌≡◌, ℕ, ap, get_or, None, vec_len, ◌∙◌, arith, rules}
use Rattle.bd_calls.proofs.{Marked.{all_marked, none_kept, none_known}, Grouped.{nobody_grouped}}
use Rattle.bd_calls.proofs.ready.ReadySeats.forget_all.Goals as goal

pub invariant_of-self : goal.invariant_of-self
invariant_of-self c =
    let r = c.args.self.now in
    let items = c.fill.new.self.items in
    let none : (i : ℕ) → get_or items i None ≡ None = λ i. ap (λ xs. get_or xs i None) (c.fill.ensures.items (search rules)) ∙ none_kept (vec_len r.seats) i in
    record {
      few = omega (arith, r.few, c.fill.ensures.len);
      full = r.full;
      are_known = none_known items none;
      are_marked = all_marked items none;
      are_grouped = nobody_grouped items r.groups none;
    }
