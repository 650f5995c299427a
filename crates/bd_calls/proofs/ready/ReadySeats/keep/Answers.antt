use Rattle.std.proofs.Common.{cond, ap, ◌<◌, ◌==◌, ◌∙◌, arith, length, length-set}
use Rattle.std.specs.Int.{bit_at}
use Rattle.bd_calls.specs.Marked.{is_known, may_read}
use Rattle.bd_calls.proofs.{Marked.{told_with}, Grouped.{grouped_with}}
use Rattle.bd_calls.proofs.ready.ReadySeats.keep.Goals as goal

pub invariant_of-self : goal.invariant_of-self
invariant_of-self c =
    let r = c.args.self.now in
    let at = c.args.at in
    let inside : at < length r.seats.items = omega (arith, c.requires.inside, r.seats.ok.0) in
    record {
      few = omega (arith, length-set r.seats.items at c.args.seen, r.few);
      full = r.full;
      are_known = told_with is_known r.seats.items at c.args.seen r.known _ inside r.are_known
          (λ i low. c.with_bit-known.ensures i low ∙ ap (λ b. cond (i == at) (cond b 1 0) (bit_at r.known i)) c.is_known.ensures);
      are_marked = told_with may_read r.seats.items at c.args.seen r.marked _ inside r.are_marked
          (λ i low. c.with_bit-marked.ensures i low ∙ ap (λ b. cond (i == at) (cond b 1 0) (bit_at r.marked i)) c.may_read.ensures);
      are_grouped = grouped_with r.seats.items r.groups at c.args.seen inside r.are_grouped c.requires.grouped;
    }
