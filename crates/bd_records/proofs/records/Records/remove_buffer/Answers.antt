use Rattle.bd_records.proofs.Words.{arith, is_of_buffer, refl}
use Rattle.bd_records.proofs.{Given.{settled_kept}, Lists.{none_left}}
use Rattle.bd_records.proofs.records.Records.remove_buffer.Goals as goal

pub returns-clause-settled : goal.returns-clause-settled
returns-clause-settled c = λ names s. settled_kept c.remove_each.new.self _ (λ l h. h) refl names (c.remove_each.ensures.settled names s)

pub returns-clause-uses : goal.returns-clause-uses
returns-clause-uses c =
    let a = c.remove_each.ensures.uses in
    record {
      objects_fit = a.objects_fit;
      references_fit = omega (arith, a.references_fit, c.close.ensures.uses);
      names_fit = a.names_fit;
    }

pub returns-clause-gone : goal.returns-clause-gone
returns-clause-gone c = λ objects l h.
    let left = c.remove_each.ensures.stands objects l h in
    c.close.ensures.gone _ left.held (none_left (λ r. is_of_buffer c.args.b r.holder) l)
