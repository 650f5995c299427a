use Rattle.std.proofs.Common.{◌≡◌, length, eqb, None, arith, rules, tests, sym, ◌∙◌}
use Rattle.std.proofs.lemmas.List.{length_push}
use Rattle.std.proofs.lemmas.Grind.{common_steps}
use Rattle.std.proofs.lemmas.Iterator.Consumers.{YieldsList-at, YieldsList-turn, YieldsList-end}
use Rattle.std.proofs.lemmas.Iterator.Splits.{YieldsList-from_slice_split}
use Rattle.bd_script.specs.Text.{longs_of, offsets_of}
use Rattle.bd_script.proofs.Pieces.{long_read, long_bad, longs_end, parts_of, parts_read, parts_bad, parts_too_many}
use Rattle.bd_script.proofs.words.offsets_in.Goals as goal

pub returns-then-len-eq-MOST_OFFSETS : goal.returns-then-len-eq-MOST_OFFSETS
returns-then-len-eq-MOST_OFFSETS c = λ _.
    let t = YieldsList-turn
    (YieldsList-at c.into_iter-part-iterator.ensures.into_iter_gives (YieldsList-from_slice_split _ (λ b. eqb b 44) c.args.word.now c.split-part-items.ensures.rest c.split-part-items.ensures.done c.split-part-items.ensures.closure (λ x b q k. search (rules, tests))))
    c.loop-part.yielded _ c.loop-part.yielded_by _ _ c.in-Some.part c.in-Some.is c.next.ensures.steps in
    parts_too_many c.args.word.now (sym c.is_nothing.ensures ∙ c.if-is_nothing.false) (omega (arith, t.0, c.loop-part.offsets.ok.0))

pub returns-in_err-long_in : goal.returns-in_err-long_in
returns-in_err-long_in c =
    let t = YieldsList-turn
    (YieldsList-at c.into_iter-part-iterator.ensures.into_iter_gives (YieldsList-from_slice_split _ (λ b. eqb b 44) c.args.word.now c.split-part-items.ensures.rest c.split-part-items.ensures.done c.split-part-items.ensures.closure (λ x b q k. search (rules, tests))))
    c.loop-part.yielded _ c.loop-part.yielded_by _ _ c.in-Some.part c.in-Some.is c.next.ensures.steps in
    let none : offsets_of c.args.word.now ≡ None = parts_bad c.args.word.now (sym c.is_nothing.ensures ∙ c.if-is_nothing.false) (long_bad _ _ _ _ _ t c.in_err-long_in.ensures.1 c.loop-part.invariant.read) in
    search rules

pub loop-part-preserved : goal.loop-part-preserved
loop-part-preserved c =
    let t = YieldsList-turn
    (YieldsList-at c.into_iter-part-iterator.ensures.into_iter_gives (YieldsList-from_slice_split _ (λ b. eqb b 44) c.args.word.now c.split-part-items.ensures.rest c.split-part-items.ensures.done c.split-part-items.ensures.closure (λ x b q k. search (rules, tests))))
    c.loop-part.yielded _ c.loop-part.yielded_by _ _ c.in-Some.part c.in-Some.is c.next.ensures.steps in
    let more = long_read _ _ _ _ _ _ t c.in_ok-long_in.ensures c.loop-part.invariant.read in
    record {
      many = grind (arith, common_steps);
      most = grind (arith, common_steps);
      read = simp (c.in_ok-push.ensures.items, length_push) more;
    }

pub returns : goal.returns
returns c =
    let t = YieldsList-end
    (YieldsList-at c.into_iter-part-iterator.ensures.into_iter_gives (YieldsList-from_slice_split _ (λ b. eqb b 44) c.args.word.now c.split-part-items.ensures.rest c.split-part-items.ensures.done c.split-part-items.ensures.closure (λ x b q k. search (rules, tests))))
    c.loop-part.yielded _ c.loop-part.yielded_by _ _ c.in-None.is c.next.ensures.steps in
    parts_read c.args.word.now (sym c.is_nothing.ensures ∙ c.if-is_nothing.false) (omega (arith, t.1, c.loop-part.invariant.most)) ∙ longs_end (parts_of c.args.word.now) c.loop-part.offsets.items (length c.loop-part.yielded) (longs_of (parts_of c.args.word.now)) (omega (arith, t.1)) c.loop-part.invariant.read
