use Rattle.bd_records.proofs.Words.{Asked, RecordsAre, Reference, arith, false, is_asking, is_held, list_any, refl, subst, sym, true, without_first, ◌∙◌, ◌≡◌}
use Rattle.bd_records.proofs.{Buffering.{same_buffers}, Given.{settled_kept}, Holding.{asked_off, asking_alike, goes}, Lists.{first_shorter, kept_first, none_first}, Tallies.{turned_stands}}
use Rattle.bd_records.proofs.records.Records.drop_asked.Goals as goal

pub returns-then-is_asked-clause-stands : goal.returns-then-is_asked-clause-stands
returns-then-is_asked-clause-stands c = λ objects l h.
    let test = is_asking c.args.p c.args.o c.args.strong in
    let any : list_any test l ≡ true = sym (c.is_asked.ensures objects l h) ∙ c.if-is_asked.true in
    let m = without_first test l in
    let r : Reference = record { id = record { place = 0; index = 0 }; object = c.args.o; strong = c.args.strong; holder = Asked c.args.p } in
    let n = first_shorter test l in
    turned_stands false c.args.self.now _ objects l m r h (λ e. absurd cc) (goes test r (asking_alike c.args.p c.args.o c.args.strong) l any) c.turn.ensures.objects c.turn.ensures.names refl
    (same_buffers c.args.self.now.held l m h.held (kept_first test is_held (asked_off c.args.p c.args.o c.args.strong) l)) (omega (arith, n, h.few))

pub returns-else-is_asked-clause-stands : goal.returns-else-is_asked-clause-stands
returns-else-is_asked-clause-stands c = λ objects l h.
    let none : list_any (is_asking c.args.p c.args.o c.args.strong) l ≡ false = sym (c.is_asked.ensures objects l h) ∙ c.if-is_asked.false in
    subst (RecordsAre c.args.self.now objects) (sym (none_first (is_asking c.args.p c.args.o c.args.strong) l none)) h

pub returns-then-is_asked-clause-settled : goal.returns-then-is_asked-clause-settled
returns-then-is_asked-clause-settled c = settled_kept c.args.self.now _ c.turn.ensures.kept refl
