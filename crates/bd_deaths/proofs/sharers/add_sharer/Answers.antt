use Rattle.bd_deaths.proofs.Words.{Sharers, Some, arith, cookie_of, is_told, one_if, told_of, ◌+◌}
use Rattle.bd_deaths.proofs.Sharing.{put_at, put_kept, put_more}
use Rattle.bd_deaths.proofs.sharers.add_sharer.Goals as goal

pub returns-clause-counted : goal.returns-clause-counted
returns-clause-counted c = λ few.
    put_more c.args.cookies.now c.insert.new.self (cookie_of c.args.x.now) _ c.insert.ensures.put
    (grind (arith, c.saturating_add-count.ensures, c.sharers_at-was.ensures.count, few))

pub returns-clause-tolds : goal.returns-clause-tolds
returns-clause-tolds c = λ few.
    put_at c.args.cookies.now c.insert.new.self (cookie_of c.args.x.now) _ c.insert.ensures.put told_of (λ n. n + one_if (is_told c.args.x.now.phase))
    (grind (arith, c.saturating_add-told.ensures, c.sharers_at-was.ensures.told, c.told_as.ensures, few))

pub returns-clause-kept : goal.returns-clause-kept
returns-clause-kept c =
    put_kept c.args.cookies.now c.insert.new.self (cookie_of c.args.x.now) _ c.insert.ensures.put
    (λ none. absurd (grind (arith, c.saturating_add-count.ensures, none)))
