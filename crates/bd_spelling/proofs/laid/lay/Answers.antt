use Rattle.std.proofs.Common.{refl, rules}
use Rattle.std.proofs.lemmas.Slice.{overwrites}
use Rattle.bd_spelling.proofs.laid.lay.Goals as goal

pub returns : goal.returns
returns c =
    let fits = c.requires in
    record {
      ends = refl;
      front = rw c.copy_from_slice.ensures.after (search (rules, overwrites));
      rest = rw c.copy_from_slice.ensures.after (search (rules, overwrites));
      same = rw c.copy_from_slice.ensures.after (search (rules, overwrites));
    }
