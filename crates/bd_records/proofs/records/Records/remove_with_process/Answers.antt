use Rattle.bd_records.proofs.Words.{Bool, RecordsAre, arith, false, filter, is_asked_by, is_in_window, not, refl, subst, true, ◌&&◌, ◌||◌, ◌∙◌, ◌≡◌}
use Rattle.bd_records.proofs.{Emptied.{lies_unasked}, Given.{settled_kept}, Lists.{both_filters, none_left}}
use Rattle.bd_records.proofs.records.Records.remove_with_process.Goals as goal

neither : (a b : Bool) → (not a && not b) ≡ not (a || b)
neither true b = refl
neither false b = refl

pub returns-clause-stands : goal.returns-clause-stands
returns-clause-stands c = λ objects l h.
    let p = c.args.p in
    let k = c.remove_each_in_window.ensures.stands objects _ (c.drop_each_asked.ensures.stands objects l h) in
    let both = both_filters (λ r. not (is_asked_by p r.holder)) (λ r. not (is_in_window p r.holder)) (λ r. not (is_asked_by p r.holder || is_in_window p r.holder)) (λ r. neither (is_asked_by p r.holder) (is_in_window p r.holder)) l in
    subst (RecordsAre _ objects) both (record {
      objects_are = k.objects_are;
      owners = k.owners;
      own = k.own;
      counts = k.counts;
      held = c.close_window.ensures.stands _ k.held;
      few = k.few;
    })

pub returns-clause-settled : goal.returns-clause-settled
returns-clause-settled c = λ names s.
    settled_kept c.remove_each_in_window.new.self _ (λ l h. h) refl names (c.remove_each_in_window.ensures.settled names (c.drop_each_asked.ensures.settled names s))

pub returns-clause-uses : goal.returns-clause-uses
returns-clause-uses c =
    let a = c.drop_each_asked.ensures.uses in
    let b = c.remove_each_in_window.ensures.uses in
    record {
      objects_fit = omega (arith, a.objects_fit, b.objects_fit);
      references_fit = omega (arith, a.references_fit, b.references_fit, c.close_window.ensures.uses);
      names_fit = λ q. omega (arith, a.names_fit q, b.names_fit q);
    }

pub returns-clause-gone : goal.returns-clause-gone
returns-clause-gone c = λ objects l h.
    let p = c.args.p in
    let left = c.remove_each_in_window.ensures.stands objects _ (c.drop_each_asked.ensures.stands objects l h) in
    c.close_window.ensures.gone _ left.held (none_left (λ r. is_in_window p r.holder) (filter (λ r. not (is_asked_by p r.holder)) l))

pub returns-clause-buffers : goal.returns-clause-buffers
returns-clause-buffers c = λ objects l b h lies.
    let unasked = c.drop_each_asked.ensures.stands objects l h in
    c.close_window.ensures.lists b ∙ c.remove_each_in_window.ensures.gone objects _ b unasked (lies_unasked c.args.p b l lies)
