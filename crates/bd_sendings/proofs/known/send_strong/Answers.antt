use Rattle.std.proofs.Common.{◌≡◌, rules}
use Rattle.bd_sendings.specs.Sendings.{stays, is_anothers, sent_anew, sent_strong}
use Rattle.bd_sendings.proofs.Choices.{otherwise}
use Rattle.bd_sendings.proofs.known.send_strong.Goals as goal

pub returns-then-not-stays-clause-sent : goal.returns-then-not-stays-clause-sent
unfolding sent_strong
returns-then-not-stays-clause-sent c =
    let s = c.args.sending.now in
    let old = c.args.known.now.items in
    let stands : c.stays.result ≡ stays s c.args.ptr old = search rules in
    let others : c.is_anothers-is_others.result ≡ is_anothers s c.args.ptr old = search rules in
    otherwise (stays s c.args.ptr old) c.stays.result c.is_anothers-is_others.result (is_anothers s c.args.ptr old) old c.send_anew.new.known.items
    (λ o. sent_anew s c.args.ptr o old) stands c.if-not-stays.true c.send_anew.ensures.sent others
