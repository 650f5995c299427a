use Rattle.std.proofs.Common.{◌≡◌, Some, rules, get_or, sym, ◌∙◌}
use Rattle.std.proofs.lemmas.List.{take_rest}
use Rattle.bd_script.specs.Hex.{digit_of}
use Rattle.bd_script.proofs.Pieces.{pair_step, pair_spelled}
use Rattle.bd_script.proofs.hex.pairs_in.Goals as goal

pub loop-rest-preserved : goal.loop-rest-preserved
loop-rest-preserved c =
    let rest = c.loop-rest.rest.now in
    let h : digit_of (get_or rest 0 0) ≡ Some c.in-Some-Some.high = search rules in
    let l : digit_of (get_or rest 1 0) ≡ Some c.in-Some-Some.low = search rules in
    let step = pair_step c.loop-rest.bytes.items rest _ _ c.in-len2-up.len_at_least h l in
    let all = sym step ∙ c.loop-rest.invariant.read in
    let spelled = pair_spelled c.args.word.now c.loop-rest.bytes.items rest _ _ c.in-len2-up.len_at_least h l c.loop-rest.invariant.spelled in
    record { read = simp (c.in_ok-push.ensures.items, take_rest) all; spelled = simp (c.in_ok-push.ensures.items, take_rest) spelled }
