use Rattle.bd_objects.proofs.Words.{Object, ap, distinct, find_at, find_none, kept, sym, ◌==◌, ◌∙◌}
use Rattle.bd_objects.proofs.Later.{own_risen, ptr_of}
use Rattle.bd_objects.proofs.made.own_by_halves.Goals as goal

pub returns-in_err-i : goal.returns-in_err-i
returns-in_err-i c = λ rises.
    let p = c.args.p in
    let xs = c.args.objects.now in
    c.from_residual.ensures
    ∙ sym (own_risen p c.args.ptr xs rises ∙ ap (kept (λ (x : Object). x.owner == p)) (find_none ptr_of c.args.ptr xs (c.in_err-i.ensures.found rises)))

pub returns : goal.returns
returns c = λ rises.
    let p = c.args.p in
    let xs = c.args.objects.now in
    let at = c.in_ok-i.ensures in
    c.own_of.ensures
    ∙ sym (own_risen p c.args.ptr xs rises
    ∙ ap (kept (λ (x : Object). x.owner == p)) (find_at ptr_of c.args.ptr xs c.in_ok-i.i _ (distinct ptr_of xs rises) at.within (at.found rises)))
