use Rattle.bd_engine.proofs.{Noting.{IsSeen}, Words.{All, Follows, History, length, space_after, take, vec_capacity, vec_len, ℕ, ◌+◌, ◌-◌, ◌<◌, ◌≡◌, ◌≤◌}}
use Rattle.bd_engine.proofs.live.Live.note_ready.Given as goal

abbrev pub invariant-loop-i : goal.invariant-loop-i
invariant-loop-i l = record {
  len : length l.noted ≡ length l.initial.noted;
  room : vec_len l.changed + (length l.touched - l.i) ≤ vec_capacity l.changed;
  inside : All (λ x. x < length l.initial.noted) l.changed.items;
  seen : (h : History) → Follows l.self h → (seat : ℕ) → seat < length l.initial.noted
      → IsSeen (space_after h) l.initial.noted l.noted l.changed.items (take l.i l.touched) seat;
}
