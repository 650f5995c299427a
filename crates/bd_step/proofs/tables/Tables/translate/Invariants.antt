use Rattle.bd_step.proofs.Words.{Space, StandsAt, fold, object_bytes, overwritten, take, translated, ℕ, ◌≡◌}
use Rattle.bd_step.proofs.tables.Tables.translate.Given as goal

abbrev pub invariant-loop-x : goal.invariant-loop-x
invariant-loop-x l = (n : ℕ) (s : Space) → StandsAt n l.self s → l.bytes ≡ fold (λ bytes x. overwritten bytes x.at (object_bytes (translated s.objects s.names l.q x))) l.fn.bytes (take l.x-index l.items)
