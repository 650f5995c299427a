-- No more threads come than may.
use Rattle.std.proofs.Common.{◌≡◌, ◌+◌, ◌≤◌, ◌<◌, ℕ, Bool, true, false, refl, arith}
use Rattle.std.proofs.lemmas.Bool.{ltb-true}
use Rattle.std.specs.Prelude.{not, nat_lt, ◌==◌, ◌&&◌, if◌then◌else◌}
use Rattle.bd_waiting.specs.declared.loopers.{Loopers.{Loopers}}
use Rattle.bd_waiting.specs.declared.loopers.Front.TheVariants as front
use Rattle.bd_waiting.specs.Loopers.{more, asks_for, asked_for}
use Rattle.bd_waiting.specs.Laws.{NoMoreComeThanMay}

last : (a b c d : Bool) → (a && b && c && d) ≡ true → d ≡ true
last true true true d e = e
last true true false d e = absurd cc
last true false c d e = absurd cc
last false b c d e = absurd cc

asked_within : (a b : Bool) (l : Loopers) → (b ≡ true → l.started + 1 ≤ l.max) → l.started + l.requested ≤ l.max
    → (asked_for (if a then front.Nothing else if b then front.SpawnLooper else front.Noop) l).started
    + (asked_for (if a then front.Nothing else if b then front.SpawnLooper else front.Noop) l).requested ≤ l.max
asked_within true b l h w = w
asked_within false true l h w = h refl
asked_within false false l h w = w

fewer_have : (n m : ℕ) → n < m → n + 1 ≤ m
fewer_have n m e = search arith

one_more : (b : Bool) (n : ℕ) → (if b then n else n + 1) ≤ n + 1
one_more true n = search arith
one_more false n = search arith

is_some : (n : ℕ) → not (n == 0) ≡ true → 1 ≤ n
is_some n e = search arith

no_further : (s t r m : ℕ) → t ≤ s + 1 → 1 ≤ r → s + r ≤ m → t + 0 ≤ m
no_further s t r m a b c = search arith

both : (a b : Bool) → (a && b) ≡ true → b ≡ true
both true b e = e
both false b e = absurd cc

came_within : (c : Bool) (l : Loopers) → (c ≡ true → 1 ≤ l.requested) → l.started + l.requested ≤ l.max
    → (if c then record l { requested = 0; started = more l.started } else l).started
    + (if c then record l { requested = 0; started = more l.started } else l).requested ≤ l.max
came_within true l h w = no_further l.started (more l.started) l.requested l.max (one_more (l.started == 0xffffffff) l.started) (h refl) w
came_within false l h w = w

pub no_more : NoMoreComeThanMay
no_more = record {
  asked = λ room looper waits l w. asked_within (nat_lt room 4) (asks_for looper waits l) l
      (λ e. fewer_have l.started l.max (ltb-true l.started l.max (last looper (not waits) (l.requested == 0) (nat_lt l.started l.max) e))) w;
  came = λ code l w. came_within ((code == 0x630b) && not (l.requested == 0)) l
      (λ e. is_some l.requested (both (code == 0x630b) (not (l.requested == 0)) e)) w;
}
