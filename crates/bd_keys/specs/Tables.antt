-- What the contracts of tables say, whatever a table stands for.
use Rattle.std.specs.Prelude.{ℕ, ◌≡◌, ◌+◌, ◌≤◌}

-- Whatever a table stands for (P, as `NodesAre t` says it of a list of objects), its answer x is what f says of that.
abbrev pub Tells : {L A : Type 0} → (L → Type 0) → A → (L → A) → Type 0
Tells {L} P x f = (l : L) → P l → x ≡ f l

-- Whatever a table stood for (P), after a change it stands for what f makes of that (Q).
abbrev pub Makes : {L : Type 0} → (L → Type 0) → (L → Type 0) → (L → L) → Type 0
Makes {L} P Q f = (l : L) → P l → Q (f l)

-- Whatever a closure answers, for any argument, is what f says.
abbrev pub AnswersBy : {A B : Type 0} → (A → B → Type 0) → (A → B) → Type 0
AnswersBy {A} {B} answers f = (x : A) (y : B) → answers x y → y ≡ f x

-- A change takes away room for at most n of what a table holds, and adds at most n to their count.
pub record Uses {T : Type 0} (room_of count_of : T → ℕ) (old new : T) (n : ℕ) : Type 0 where
  pub room : room_of old ≤ room_of new + n
  pub count : count_of new ≤ count_of old + n
