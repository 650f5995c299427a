use Rattle.bd_objects.proofs.Words.{Object, find-append, made_items, refl, ◌&&◌, ◌==◌}
use Rattle.bd_objects.proofs.parcels.own_or_made.Goals as goal

pub returns-in-Some : goal.returns-in-Some
returns-in-Some c = λ objects l h.
    let is_own = λ (x : Object). (x.owner == c.args.p) && (x.ptr == c.args.ptr) in
    rw (find-append is_own objects (made_items c.args.made.now), ← c.in-Some.ensures objects l h) refl

pub returns-in-None : goal.returns-in-None
returns-in-None c = λ objects l h.
    let is_own = λ (x : Object). (x.owner == c.args.p) && (x.ptr == c.args.ptr) in
    rw (find-append is_own objects (made_items c.args.made.now), ← c.in-None.ensures objects l h) c.find_own.ensures
