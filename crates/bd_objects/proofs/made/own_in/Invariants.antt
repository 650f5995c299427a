use Rattle.bd_objects.proofs.Words.{drop, own_in, ◌≡◌}
use Rattle.bd_objects.proofs.made.own_in.Given as goal

abbrev pub invariant-loop-x : goal.invariant-loop-x
invariant-loop-x l = own_in l.objects l.p l.ptr ≡ own_in (drop l.x-index l.objects) l.p l.ptr
