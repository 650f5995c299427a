use Rattle.bd_buffers.proofs.Words.{ap, arith, false, live, made_of_record, nat_le, option_map, sym, true, ◌∙◌}
use Rattle.bd_buffers.proofs.{Live.{from_point, next_row}, Standing.{found_of}}
use Rattle.bd_buffers.proofs.listing.next_from.Goals as goal

pub loop-i-init : goal.loop-i-init
loop-i-init c =
    let point = c.first_row-i.ensures in
    from_point c.args.from c.args.rows.now c.first_row-i.result (λ k d lt h. point.0 k d (omega arith) lt) point.1

pub loop-i-preserved : goal.loop-i-preserved
loop-i-preserved c = c.loop-i.invariant ∙ next_row c.args.rows.now c.loop-i.i _ false c.loop-i-test.true (sym c.is_live.ensures ∙ c.if-is_live.false)

pub returns-then-is_live : goal.returns-then-is_live
returns-then-is_live c =
    sym (ap (option_map made_of_record) (c.loop-i.invariant ∙ next_row c.args.rows.now c.loop-i.i _ true c.loop-i-test.true (sym c.is_live.ensures ∙ c.if-is_live.true))) ∙ sym (found_of made_of_record (λ n. nat_le c.args.from n) (live c.args.rows.now))
