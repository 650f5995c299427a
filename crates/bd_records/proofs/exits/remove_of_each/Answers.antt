use Rattle.bd_records.proofs.Words.{CountsAre, Identity, List, ObjectRow, ap, arith, disowned, is_owner, option_map, refl, row_at, subst, sym, without_own, ◌∙◌}
use Rattle.bd_records.proofs.{Disowning.{disowned_counts, others}, Ending.{own_more, own_none}, Tallies.{row_kept}}
use Rattle.bd_records.proofs.exits.remove_of_each.Goals as goal

pub loop-o-init : goal.loop-o-init
loop-o-init c = record { counts = λ N xs before h. (before, h, refl); rows = λ o. refl; owners = λ p o. refl; room = omega arith }

pub loop-o-preserved : goal.loop-o-preserved
loop-o-preserved c =
    let O = row_at c.loop-o.objects in
    let O' = row_at c.remove_of_owner.new.self in
    let o = c.in-Some.o in
    record {
      counts = λ N xs before h.
          let inv = c.loop-o.invariant.counts N xs before h in (
            others o inv.0,
            disowned_counts o O O' N xs inv.0 inv.1 c.remove_of_owner.ensures.disowned,
            own_more o _ inv.0 ∙ ap (λ (os : List Identity). without_own os inv.0) (sym c.in-Some.ensures.steps) ∙ inv.2,
          );
      rows = λ y. row_kept (option_map (λ (v : ObjectRow). v.object)) disowned (λ v. refl) o O O' c.remove_of_owner.ensures.disowned y ∙ c.loop-o.invariant.rows y;
      owners = λ p y. row_kept (is_owner p) disowned (λ v. refl) o O O' c.remove_of_owner.ensures.disowned y ∙ c.loop-o.invariant.owners p y;
      room = omega (arith, c.loop-o.invariant.room, c.remove_of_owner.ensures.uses);
    }

pub returns-clause-counts : goal.returns-clause-counts
returns-clause-counts c = λ N xs l h.
    let inv = c.loop-o.invariant.counts N xs l h in
    subst (CountsAre (row_at c.loop-o.objects) N xs)
    (sym (own_none inv.0) ∙ ap (λ (os : List Identity). without_own os inv.0) (sym c.in-None.ensures.steps.0) ∙ inv.2
    ∙ ap (λ (os : List Identity). without_own os l) c.into_iter-o-iterator.ensures.into_iter_gives) inv.1
