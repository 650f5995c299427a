use Rattle.bd_objects.proofs.Words.{Object, list_any-append, refl, same, ◌&&◌, ◌==◌}
use Rattle.bd_objects.proofs.naming.is_own.Goals as goal

pub returns-else-owns : goal.returns-else-owns
returns-else-owns c = λ objects l h.
    rw (list_any-append (λ (x : Object). same x.id c.args.o && (x.owner == c.args.p)) objects c.args.made.now, ← c.owns.ensures objects l h, c.if-owns.false) c.owned_in.ensures

pub returns-then-owns : goal.returns-then-owns
returns-then-owns c = λ objects l h.
    rw (list_any-append (λ (x : Object). same x.id c.args.o && (x.owner == c.args.p)) objects c.args.made.now, ← c.owns.ensures objects l h, c.if-owns.true) refl
