use Rattle.std.proofs.Common.{◌≡◌, ℕ, ◌<◌}
use Rattle.std.specs.{Int.{bit_at}, Prelude.{option_map}}
use Rattle.bd_calls.specs.Ready.{seen_at, with_shared}
use Rattle.bd_calls.proofs.ready.ReadySeats.note_members.Given as goal

abbrev pub invariant-members : goal.invariant-members
invariant-members l = record {
  alike : (i : ℕ) → option_map (with_shared l.process l.has) (seen_at l.self i) ≡ option_map (with_shared l.process l.has) (seen_at l.initial.self i);
  noted : (i : ℕ) → i < 32 → bit_at l.rest i ≡ 0 → seen_at l.self i ≡ option_map (with_shared l.process l.has) (seen_at l.self i);
}

abbrev pub decreases-members : goal.decreases-members
decreases-members l = l.rest
