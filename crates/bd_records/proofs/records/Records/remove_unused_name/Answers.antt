use Rattle.bd_records.proofs.Words.{ap, false, name_at, on_slot, refl, row_at, sym, true, value_at, ◌∙◌, ◌≡◌}
use Rattle.bd_records.proofs.{Asked.{counts_unnamed, renamed, unnamed_counts}, Given.{settled_now}, Named.{none_taken, taken}}
use Rattle.bd_records.proofs.records.Records.remove_unused_name.Goals as goal

pub remove_at-requires : goal.remove_at-requires
remove_at-requires c = c.in-Some.ensures.number

pub returns-then-not-is_given-clause-stands : goal.returns-then-not-is_given-clause-stands
returns-then-not-is_given-clause-stands c = λ objects l h.
    let t = c.args.self.now in
    let is = ap (on_slot _ (value_at t.names.rows c.args.p)) c.in-Some.ensures.number ∙ c.in-Some.ensures.row in
    let none = sym (c.is_given.ensures is objects l h) ∙ c.if-not-is_given.true in
    renamed c.args.self.now _ objects l h refl refl refl refl (counts_unnamed (row_at t.objects) (name_at t.names) (name_at c.remove_at.new.self) c.args.p c.args.o objects l h.counts
    (unnamed_counts objects l c.args.p c.args.o none) c.remove_at.ensures.names)

pub returns-then-not-is_given-clause-stays : goal.returns-then-not-is_given-clause-stays
returns-then-not-is_given-clause-stays c = λ objects l names h named s.
    let t = c.args.self.now in
    let is = ap (on_slot _ (value_at t.names.rows c.args.p)) c.in-Some.ensures.number ∙ c.in-Some.ensures.row in
    let none = sym (c.is_given.ensures is objects l h) ∙ c.if-not-is_given.true in
    absurd (let e : true ≡ false = sym named ∙ none in cc)

pub returns-then-not-is_given-clause-goes : goal.returns-then-not-is_given-clause-goes
returns-then-not-is_given-clause-goes c = λ objects l names h none s.
    let t = c.args.self.now in
    settled_now t _ names _ s (taken t.names c.remove_at.new.self names c.args.p c.in-Some.s.number c.args.o s.stands c.in-Some.ensures.number c.remove_at.ensures.named c.remove_at.ensures.numbers) refl

pub returns-else-not-is_given-clause-goes : goal.returns-else-not-is_given-clause-goes
returns-else-not-is_given-clause-goes c = λ objects l names h none s.
    let t = c.args.self.now in
    let is = ap (on_slot _ (value_at t.names.rows c.args.p)) c.in-Some.ensures.number ∙ c.in-Some.ensures.row in
    let named = sym (c.is_given.ensures is objects l h) ∙ c.if-not-is_given.false in
    absurd (let e : true ≡ false = sym named ∙ none in cc)

pub returns-in_default-clause-goes : goal.returns-in_default-clause-goes
returns-in_default-clause-goes c = λ objects l names h none s.
    let t = c.args.self.now in
    settled_now t t names _ s (none_taken t.names t.names names c.args.p c.args.o s.stands c.in_default.ensures.none (λ q m. refl) (λ q x. refl)) refl
