use Rattle.std.proofs.Common.{Some, subst}
use Rattle.bd_space.specs.declared.step.Request.{Request}
use Rattle.bd_script.specs.Words.{ReadsOrMemory}
use Rattle.bd_script.proofs.Pieces.{sent_is}
use Rattle.bd_script.proofs.requests.send.Goals as goal

pub returns : goal.returns
returns c =
    let same = sent_is c.args.target c.args.code c.args.flags _ c.args.bytes.now c.args.offsets.now _ _ _ c.unwrap_or.ensures c.data_of-sent.ensures c.command_with.ensures c.in_ok-area.ensures.0 in
    subst (λ (r : Request). ReadsOrMemory c.write_of.result (Some r)) same c.write_of.ensures
