use Rattle.bd_deaths.proofs.Words.{AllPairs-from_increasing, IsStrictlyIncreasing, IsStrictlyIncreasing-dedup, ap, dedup_is, due_numbers, eqb, is_due_entry, is_due_number, list_any, list_any-IsPermutation, subst, sym, ◌==◌, ◌||◌, ◌∙◌}
use Rattle.bd_deaths.proofs.Numbering.{has_any, has_once, numbers_rise, same_risen}
use Rattle.bd_deaths.specs.Numbers.{has}
use Rattle.bd_deaths.proofs.table.DeathTable.due_numbers.Goals as goal

pub returns-clause-are : goal.returns-clause-are
returns-clause-are c = λ objects es ns h.
    let sorted = c.sort_unstable.new.self.items in
    let once = c.dedup.new.self.items in
    let is = dedup_is eqb sorted once c.dedup.ensures.filtered in
    let q = is_due_entry objects c.args.p in
    same_risen once (due_numbers objects c.args.p es)
    (AllPairs-from_increasing once (subst IsStrictlyIncreasing (sym is) (IsStrictlyIncreasing-dedup sorted c.sort_unstable.ensures.sorted)))
    (numbers_rise c.args.self.now.next es h.apart h.fit q)
    (λ n. ap (λ ns. has ns n) is ∙ has_once sorted n ∙ sym (list_any-IsPermutation (λ m. m == n) c.push_due.new.found.items sorted c.sort_unstable.ensures.permutation)
    ∙ c.in_ok-push_due.ensures.put objects es ns h n ∙ ap (λ ns. has ns n || list_any (is_due_number objects c.args.p n) es) c.new-found.ensures.items ∙ has_any n q es)
