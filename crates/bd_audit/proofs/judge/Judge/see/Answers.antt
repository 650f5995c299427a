use Rattle.std.proofs.Common.{sym, ◌∙◌}
use Rattle.bd_audit.proofs.Judged.{stops_now}
use Rattle.bd_audit.proofs.judge.Judge.see.Goals as goal

pub returns-in-Ok-false-clause-seen : goal.returns-in-Ok-false-clause-seen
returns-in-Ok-false-clause-seen c = λ h judged.
    let j = c.args.self.now in
    stops_now j.live j.stopped h c.args.entry.now c.len-at.result (sym c.if-is_some.false ∙ c.is_some.ensures) judged
    (λ follows. c.len-at.ensures h follows) (λ follows. c.in-Ok-false.ensures.unlawful c.in-Ok-false.field-0-test h follows)
