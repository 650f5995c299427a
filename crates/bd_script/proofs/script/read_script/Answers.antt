use Rattle.std.proofs.Common.{◌+◌, eqb, length, arith, rules, tests}
use Rattle.std.proofs.lemmas.List.{length_push}
use Rattle.std.proofs.lemmas.Iterator.Consumers.{YieldsList-at, YieldsList-turn, YieldsList-end}
use Rattle.std.proofs.lemmas.Iterator.Splits.{YieldsList-from_slice_split}
use Rattle.bd_script.specs.Text.{lines}
use Rattle.bd_script.specs.Scripts.{read}
use Rattle.bd_script.proofs.Pieces.{line_read, line_bad, lines_end, says_trouble, from_lines, bad_script, no_seats, whole_script}
use Rattle.bd_script.proofs.Seats.{script_seats}
use Rattle.bd_script.proofs.script.read_script.Goals as goal

pub returns-in-Err-clause-says : goal.returns-in-Err-clause-says
returns-in-Err-clause-says c =
    let t = YieldsList-turn
    (YieldsList-at c.into_iter-text-iterator.ensures.into_iter_gives (YieldsList-from_slice_split _ (λ b. eqb b 10) c.args.bytes.now c.split-text-items.ensures.rest c.split-text-items.ensures.done c.split-text-items.ensures.closure (λ x b q k. search (rules, tests))))
    c.loop-text.yielded _ c.loop-text.yielded_by _ _ c.in-Some.text c.in-Some.is c.next.ensures.steps in
    rw c.at.ensures (says_trouble c.in-Err.trouble (c.loop-text.number + 1) _ (λ bad. bad_script c.args.bytes.now _ (line_bad _ _ _ _ _ _ t (omega arith) (c.in-Err.ensures bad) c.loop-text.invariant.read)))

pub loop-text-preserved : goal.loop-text-preserved
loop-text-preserved c =
    let t = YieldsList-turn
    (YieldsList-at c.into_iter-text-iterator.ensures.into_iter_gives (YieldsList-from_slice_split _ (λ b. eqb b 10) c.args.bytes.now c.split-text-items.ensures.rest c.split-text-items.ensures.done c.split-text-items.ensures.closure (λ x b q k. search (rules, tests))))
    c.loop-text.yielded _ c.loop-text.yielded_by _ _ c.in-Some.text c.in-Some.is c.next.ensures.steps in
    let more = line_read _ _ _ _ _ _ _ t (omega arith) c.in-Ok.ensures c.loop-text.invariant.read in
    let one = length_push c.loop-text.yielded c.in-Some.text in
    record { number = omega arith; read = simp length_push more }

pub returns-then-script-eq0-clause-says : goal.returns-then-script-eq0-clause-says
returns-then-script-eq0-clause-says c =
    let t = YieldsList-end
    (YieldsList-at c.into_iter-text-iterator.ensures.into_iter_gives (YieldsList-from_slice_split _ (λ b. eqb b 10) c.args.bytes.now c.split-text-items.ensures.rest c.split-text-items.ensures.done c.split-text-items.ensures.closure (λ x b q k. search (rules, tests))))
    c.loop-text.yielded _ c.loop-text.yielded_by _ _ c.in-None.is c.next.ensures.steps in
    no_seats c.args.bytes.now _ (lines_end (lines c.args.bytes.now) (length c.loop-text.yielded) (read c.loop-text.script) (from_lines c.args.bytes.now) (omega (arith, t.1)) c.loop-text.invariant.read) c.if-script-eq0.true

pub returns : goal.returns
returns c =
    let t = YieldsList-end
    (YieldsList-at c.into_iter-text-iterator.ensures.into_iter_gives (YieldsList-from_slice_split _ (λ b. eqb b 10) c.args.bytes.now c.split-text-items.ensures.rest c.split-text-items.ensures.done c.split-text-items.ensures.closure (λ x b q k. search (rules, tests))))
    c.loop-text.yielded _ c.loop-text.yielded_by _ _ c.in-None.is c.next.ensures.steps in
    let is = whole_script c.args.bytes.now _ (lines_end (lines c.args.bytes.now) (length c.loop-text.yielded) (read c.loop-text.script) (from_lines c.args.bytes.now) (omega (arith, t.1)) c.loop-text.invariant.read) c.if-script-eq0.false in
    record { says = is; seats = script_seats c.args.bytes.now (read c.loop-text.script) is }
