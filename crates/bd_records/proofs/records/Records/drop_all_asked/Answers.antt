use Rattle.bd_records.proofs.Words.{Bool, Identity, None, RecordsAre, ap, arith, asked_of, cond, count_by, false, is_asking, is_held, lowered, name_at, of_strength, option_map, refl, row_at, same, subst, sym, true, ◌∙◌, ◌≡◌}
use Rattle.bd_records.proofs.{Buffering.{same_buffers}, Disowning.{kept_in_rest, rest_shorter}, Forgetting.{asked_to, forgotten_counts, held_not_asked, lowered_objects, lowered_owners, nothing_asked, unasked_by}, Given.{settled_kept}, Named.{names_kept}}
use Rattle.bd_records.proofs.records.Records.drop_all_asked.Goals as goal

pub returns-in-Some-clause-stands : goal.returns-in-Some-clause-stands
returns-in-Some-clause-stands c = λ objects l h.
    let t = c.args.self.now in
    let p = c.args.p in
    let o = c.args.o in
    let is : asked_of (name_at t.names p o) ≡ c.in-Some.w.asked = ap asked_of (sym c.row_of.ensures.is ∙ c.in-Some.is) in
    let rows = subst (λ k. (y : Identity) → row_at c.subtract.new.self y ≡ cond (same o y) (option_map (lowered k) (row_at t.objects y)) (row_at t.objects y)) (sym is) c.subtract.ensures.lowered in
    record {
      objects_are = λ y. h.objects_are y ∙ sym (lowered_objects p o (row_at t.objects) (row_at c.subtract.new.self) (name_at t.names) (name_at c.clear_asked.new.self) objects l h.counts rows c.clear_asked.ensures.cleared y);
      owners = λ q y. h.owners q y ∙ sym (lowered_owners p o (row_at t.objects) (row_at c.subtract.new.self) (name_at t.names) (name_at c.clear_asked.new.self) objects l h.counts rows c.clear_asked.ensures.cleared q y);
      own = h.own;
      counts = forgotten_counts p o (row_at t.objects) (row_at c.subtract.new.self) (name_at t.names) (name_at c.clear_asked.new.self) objects l h.counts rows c.clear_asked.ensures.cleared;
      held = same_buffers t.held l (unasked_by p o l) h.held (kept_in_rest is_held (asked_to p o) (held_not_asked p o) l);
      few = (let n = rest_shorter is_held (asked_to p o) l in let a = h.few in omega (arith, n, a));
    }

pub returns-in-Some-clause-names : goal.returns-in-Some-clause-names
returns-in-Some-clause-names c = names_kept c.args.self.now.names c.clear_asked.new.self c.clear_asked.ensures.named c.clear_asked.ensures.numbers

pub returns-in_default-clause-stands : goal.returns-in_default-clause-stands
returns-in_default-clause-stands c = λ objects l h.
    let t = c.args.self.now in
    let none : (s : Bool) → count_by (is_asking c.args.p c.args.o s) l ≡ of_strength s (asked_of None) =
    (λ s. sym (h.counts.asked c.args.p c.args.o s) ∙ ap (λ w. of_strength s (asked_of w)) (sym c.row_of.ensures.is ∙ c.in_default.is)) in
    subst (RecordsAre t objects) (sym (nothing_asked c.args.p c.args.o l (none false) (none true))) h

pub returns-in-Some-clause-settled : goal.returns-in-Some-clause-settled
returns-in-Some-clause-settled c = settled_kept c.args.self.now _ (names_kept c.args.self.now.names c.clear_asked.new.self c.clear_asked.ensures.named c.clear_asked.ensures.numbers) refl
