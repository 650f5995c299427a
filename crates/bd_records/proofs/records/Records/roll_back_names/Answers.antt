use Rattle.bd_records.proofs.Words.{AreBlank, NamesAre, Since, arith, name_at, number_of, refl, row_at, subst, sym, ◌++◌}
use Rattle.bd_records.proofs.{Asked.{counts_unnamed, renamed}, Given.{all_gone, blank_counts, blank_last, last_of}, GivenNames.{all_back, nil_of}, Named.{gone}}
use Rattle.bd_records.proofs.records.Records.roll_back_names.Goals as goal

pub loop-m-init : goal.loop-m-init
loop-m-init c = record {
  kept = λ base names h objects l r. r;
  since = λ base names h. subst (Since c.args.self.now base) h.grows h;
  uses = record { objects_fit = omega arith; references_fit = omega arith; names_fit = λ q. omega arith };
}

pub loop-m-preserved : goal.loop-m-preserved
loop-m-preserved c = record {
  kept = λ base names given_since objects l r.
      let t = c.loop-m.self in
      let m = c.in-Some.m in
      let k = c.loop-m.invariant.kept base names given_since objects l r in
      let s = c.loop-m.invariant.since base names given_since in
      let b = blank_last t.names c.pop.new.self.items m (subst (AreBlank t.names) c.in-Some.ensures.items s.blank) in
      renamed c.loop-m.self _ objects l k refl refl refl refl (counts_unnamed (row_at t.objects) (name_at t.names) (name_at c.remove.new.self) m.process m.object objects l k.counts
      (blank_counts (row_at t.objects) (name_at t.names) objects l k.counts m.process m.object b.1) c.remove.ensures.names);
  since = λ base names given_since.
      let t = c.loop-m.self in
      let m = c.in-Some.m in
      let s = c.loop-m.invariant.since base names given_since in
      let b = blank_last t.names c.pop.new.self.items m (subst (AreBlank t.names) c.in-Some.ensures.items s.blank) in
      record {
        stands = subst (NamesAre c.remove.new.self) (last_of base t.given.items c.pop.new.self.items (base ++ t.given.items) m s.stands.sound refl c.in-Some.ensures.items)
            (gone t.names c.remove.new.self m.process m.object (number_of t.names m.process m.object) refl c.remove.ensures.named c.remove.ensures.numbers (base ++ t.given.items) s.stands);
        grows = refl;
        blank = all_gone t.names c.remove.new.self m.process m.object c.remove.ensures.names c.pop.new.self.items b.0;
      };
  uses = record {
    objects_fit = omega (arith, c.loop-m.invariant.uses.objects_fit);
    references_fit = omega (arith, c.loop-m.invariant.uses.references_fit);
    names_fit = λ q. omega (arith, c.loop-m.invariant.uses.names_fit q, c.remove.ensures.uses q, c.in-Some.ensures.len, c.in-Some.ensures.capacity);
  };
}

pub returns-clause-stands : goal.returns-clause-stands
returns-clause-stands c = λ base names h objects l r.
    let k = c.loop-m.invariant.kept base names h objects l r in
    renamed c.loop-m.self _ objects l k refl refl refl refl (k.counts)

pub returns-clause-names : goal.returns-clause-names
returns-clause-names c = λ base names h.
    let none = c.in_default.ensures.cases in
    let s = c.loop-m.invariant.since base names h in
    record {
      stands = subst (NamesAre c.loop-m.self.names) (all_back base c.loop-m.self.given.items (omega (arith, none.0))) s.stands;
      grows = sym (all_back base c.pop.new.self.items (omega (arith, none.1)));
      blank = subst (AreBlank c.loop-m.self.names) (sym (nil_of c.pop.new.self.items (omega (arith, none.1)))) tt;
    }
