use Rattle.bd_records.proofs.Words.{Handshake, RecordsAre, Reference, arith, false, is_held, is_shaking, list_any, refl, subst, sym, true, without_first, ◌∙◌, ◌≡◌}
use Rattle.bd_records.proofs.{Buffering.{same_buffers}, Given.{settled_kept}, Holding.{goes, shaken_off, shaking_alike}, Lists.{first_shorter, kept_first, none_first}, Tallies.{turned_stands}}
use Rattle.bd_records.proofs.records.Records.drop_shaken.Goals as goal

pub returns-then-is_shaken-clause-stands : goal.returns-then-is_shaken-clause-stands
returns-then-is_shaken-clause-stands c = λ objects l h.
    let test = is_shaking c.args.o c.args.strong in
    let any : list_any test l ≡ true = sym (c.is_shaken.ensures objects l h) ∙ c.if-is_shaken.true in
    let m = without_first test l in
    let r : Reference = record { id = record { place = 0; index = 0 }; object = c.args.o; strong = c.args.strong; holder = Handshake } in
    let n = first_shorter test l in
    turned_stands false c.args.self.now _ objects l m r h (λ e. absurd cc) (goes test r (shaking_alike c.args.o c.args.strong) l any) c.turn.ensures.objects c.turn.ensures.names refl
    (same_buffers c.args.self.now.held l m h.held (kept_first test is_held (shaken_off c.args.o c.args.strong) l)) (omega (arith, n, h.few))

pub returns-else-is_shaken-clause-stands : goal.returns-else-is_shaken-clause-stands
returns-else-is_shaken-clause-stands c = λ objects l h.
    let none : list_any (is_shaking c.args.o c.args.strong) l ≡ false = sym (c.is_shaken.ensures objects l h) ∙ c.if-is_shaken.false in
    subst (RecordsAre c.args.self.now objects) (sym (none_first (is_shaking c.args.o c.args.strong) l none)) h

pub returns-then-is_shaken-clause-settled : goal.returns-then-is_shaken-clause-settled
returns-then-is_shaken-clause-settled c = settled_kept c.args.self.now _ c.turn.ensures.kept refl
