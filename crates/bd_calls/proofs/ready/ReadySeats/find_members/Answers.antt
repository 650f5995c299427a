use Rattle.std.proofs.Common.{◌<◌, None, ap, ◌∙◌, arith, length, inl, inr}
use Rattle.std.proofs.lemmas.{Bool.{cases_lt}, List.{get_or_default}}
use Rattle.bd_calls.specs.Grouped.{is_member}
use Rattle.bd_calls.proofs.Grouped.{found_more, none_behind}
use Rattle.bd_calls.proofs.ready.ReadySeats.find_members.Goals as goal

pub loop-at-preserved : goal.loop-at-preserved
loop-at-preserved c = λ i less member.
    let r = c.args.self.now in
    let at = c.loop-at.at in
    let inside : at < length r.seats.items = omega (arith, c.loop-at-test.true, c.len-at-end.ensures, r.seats.ok.0) in
    let low : i < 32 = omega (arith, less, c.loop-at-test.true, c.len-at-end.ensures, r.few) in
    found_more c.args.process r.seats.items at c.loop-at.members _ c.is_member.result
    (c.is_member.ensures ∙ ap (is_member c.args.process) (c.index.ensures ∙ get_or_default r.seats.items at c.index.result.now None inside))
    c.loop-at.invariant i less (c.with_bit-members.ensures i low) member

pub returns : goal.returns
returns c = λ i low member. elim (cases_lt i c.loop-at.at) [
  | inl less ↦ c.loop-at.invariant i less member
  | inr behind ↦ absurd (none_behind c.args.process c.args.self.now.seats.items i (omega (arith, behind, c.loop-at-test.false, c.len-at-end.ensures, c.args.self.now.seats.ok.0)) member)
]
