use Rattle.bd_objects.proofs.Words.{RecordsAre, Settled, Since, ap, arith, fold, subst, sym, take, take_all, ◌++◌, ◌∙◌}
use Rattle.bd_objects.proofs.{Giving.{give, give_all, give_next, owned_alike, owned_before, past_all}, Results.{of_err, of_ok, on_err}}
use Rattle.bd_objects.proofs.naming.give_names.Goals as goal

pub loop-x-preserved : goal.loop-x-preserved
loop-x-preserved c =
    let is = sym c.is_err.ensures.value ∙ c.if-is_err.false in
    let inv = c.loop-x.invariant in
    let kept = of_ok c.give_name-given.result is c.give_name-given.ensures.stands in
    let given = of_ok c.give_name-given.result is c.give_name-given.ensures.names in
    let used = c.give_name-given.ensures.uses in
    record {
      kept = λ objects l h.
          let now = inv.kept objects l h in
          kept objects l (λ e. owned_before objects c.made_by-made.result.now c.args.p _ (sym (c.is_own-own.ensures objects l now) ∙ e)) now;
      so_far = λ objects l ns h n.
          subst (Since c.give_name-given.new.records ns)
          (give_next c.args.manager (objects ++ c.args.made.now) c.args.p c.args.items.now ns c.loop-x.x-index _ _ (omega arith)
          (c.is_own-own.ensures objects l (inv.kept objects l h) ∙ owned_alike objects c.args.made.now c.made_by-made.result.now c.args.p _ (c.made_by-made.ensures _)))
          (given ns _ (inv.so_far objects l ns h n));
      room = record {
        objects_fit = omega (arith, inv.room.objects_fit, used.objects_fit);
        references_fit = omega (arith, inv.room.references_fit, used.references_fit);
        names_fit = λ q. omega (arith, inv.room.names_fit q, used.names_fit q);
      };
    }

pub returns-then-is_err-clause-err : goal.returns-then-is_err-clause-err
returns-then-is_err-clause-err c =
    let same = of_err c.give_name-given.result (sym c.is_err.ensures.value ∙ c.if-is_err.true) c.give_name-given.ensures.err in
    on_err c.give_name-given.result (λ objects references l h n.
    let names = fold (give c.args.manager (objects ++ c.args.made.now) c.args.p) l (take c.loop-x.x-index c.args.items.now) in
    c.roll_back_names.ensures.names l names (subst (λ t. Since t l names) (sym same) (c.loop-x.invariant.so_far objects references l h n)))

pub returns-then-is_err-clause-full : goal.returns-then-is_err-clause-full
returns-then-is_err-clause-full c =
    let is = sym c.is_err.ensures.value ∙ c.if-is_err.true in
    let inv = c.loop-x.invariant in
    let other = of_err c.give_name-given.result is c.give_name-given.ensures.other in
    let full = of_err c.give_name-given.result is c.give_name-given.ensures.full in
    on_err c.give_name-given.result (λ objects references all l h r n.
    past_all c.args.manager (objects ++ c.args.made.now) c.args.p all c.args.items.now l c.loop-x.x-index _ (omega arith)
    (sym (c.is_own-own.ensures objects references (inv.kept objects references h) ∙ owned_alike objects c.args.made.now c.made_by-made.result.now c.args.p _ (c.made_by-made.ensures _)) ∙ other)
    r (full _ (inv.so_far objects references l h n).stands))

pub returns-clause-names : goal.returns-clause-names
returns-clause-names c = λ objects references l h n.
    let all = objects ++ c.args.made.now in
    subst (Settled c.settle_names.new.self)
    (ap (fold (give c.args.manager all c.args.p) l) (take_all c.loop-x.x-index c.args.items.now (omega arith)) ∙ give_all c.args.manager all c.args.p c.args.items.now l)
    (c.settle_names.ensures.names l _ (c.loop-x.invariant.so_far objects references l h n))

pub returns-then-is_err-clause-stands : goal.returns-then-is_err-clause-stands
returns-then-is_err-clause-stands c = λ objects l ns n h.
    let same = of_err c.give_name-given.result (sym c.is_err.ensures.value ∙ c.if-is_err.true) c.give_name-given.ensures.err in
    let names = fold (give c.args.manager (objects ++ c.args.made.now) c.args.p) ns (take c.loop-x.x-index c.args.items.now) in
    c.roll_back_names.ensures.stands ns names (subst (λ t. Since t ns names) (sym same) (c.loop-x.invariant.so_far objects l ns h n)) objects l
    (subst (λ t. RecordsAre t objects l) (sym same) (c.loop-x.invariant.kept objects l h))
