-- A ring of those that want a turn, and what it comes to.
use Rattle.std.specs.Prelude.{ℕ, ◌≡◌, ◌==◌, ◌+◌, ◌≤◌, Bool, true, false, not, List, [], ◌∷◌, ◌++◌, filter, if◌then◌else◌, IsTrue, ◌&&◌}
use Rattle.std.specs.List.{list_any}

abbrev pub wants : List ℕ → ℕ → Bool
wants ring one = list_any (λ x. x == one) ring

-- nobody stands there twice
abbrev pub is_ring : List ℕ → Bool
is_ring [] = true
is_ring (x ∷ xs) = not (wants xs x) && is_ring xs

abbrev pub IsRing : List ℕ → Type 0
IsRing ring = IsTrue (is_ring ring)

-- ---- what happens to it

pub data Event : Type 0 where
  Enters : ℕ → Event
  Leaves : ℕ → Event
  -- the first has its turn
  Turn : Event
  -- the first is passed over
  Pass : Event

abbrev pub after_enter : List ℕ → ℕ → List ℕ
after_enter ring one = if wants ring one then ring else (ring ++ one ∷ [])

abbrev pub after_leave : List ℕ → ℕ → List ℕ
after_leave ring one = filter (λ x. not (x == one)) ring

abbrev pub after_turn : List ℕ → List ℕ
after_turn [] = []
after_turn (x ∷ xs) = xs

abbrev pub after_pass : List ℕ → List ℕ
after_pass [] = []
after_pass (x ∷ xs) = xs ++ x ∷ []

abbrev pub after : List ℕ → Event → List ℕ
after ring (Enters one) = after_enter ring one
after ring (Leaves one) = after_leave ring one
after ring Turn = after_turn ring
after ring Pass = after_pass ring

-- ---- over time

abbrev pub is_first : List ℕ → ℕ → Bool
is_first [] one = false
is_first (x ∷ xs) one = x == one

-- this is a turn of the one, or passes it over
abbrev pub is_turn : List ℕ → Event → ℕ → Bool
is_turn ring (Enters y) one = false
is_turn ring (Leaves y) one = false
is_turn ring Turn one = is_first ring one
is_turn ring Pass one = false

abbrev pub is_pass : List ℕ → Event → ℕ → Bool
is_pass ring (Enters y) one = false
is_pass ring (Leaves y) one = false
is_pass ring Turn one = false
is_pass ring Pass one = is_first ring one

abbrev pub turns : List ℕ → List Event → ℕ → ℕ
turns ring [] one = 0
turns ring (e ∷ es) one = (if is_turn ring e one then 1 else 0) + turns (after ring e) es one

abbrev pub passes : List ℕ → List Event → ℕ → ℕ
passes ring [] one = 0
passes ring (e ∷ es) one = (if is_pass ring e one then 1 else 0) + passes (after ring e) es one

-- the one goes on wanting a turn
abbrev pub Stays : ℕ → List Event → Type 0
Stays one [] = Unit {0}
Stays one (Leaves y ∷ es) = (y ≡ one → ⊥) × Stays one es
Stays one (Enters y ∷ es) = Stays one es
Stays one (Turn ∷ es) = Stays one es
Stays one (Pass ∷ es) = Stays one es

-- from when one wants a turn until it has it
abbrev pub NobodyHasTwo : Type 0
NobodyHasTwo = (ring : List ℕ) (es : List Event) (one other : ℕ) → IsRing ring → wants ring one ≡ true → Stays one es
    → (other ≡ one → ⊥) → turns ring es one ≡ 0 → turns ring es other ≤ 1 + passes ring es one

-- the one wants a turn whenever anybody has one or is passed over, as who comes again before the next turn does
abbrev pub AlwaysWants : ℕ → List ℕ → List Event → Type 0
AlwaysWants one ring [] = Unit {0}
AlwaysWants one ring (Enters y ∷ es) = AlwaysWants one (after_enter ring y) es
AlwaysWants one ring (Leaves y ∷ es) = (y ≡ one → ⊥) × AlwaysWants one (after_leave ring y) es
AlwaysWants one ring (Turn ∷ es) = (wants ring one ≡ true) × AlwaysWants one (after_turn ring) es
AlwaysWants one ring (Pass ∷ es) = (wants ring one ≡ true) × AlwaysWants one (after_pass ring) es

-- over any time
abbrev pub NobodyHasMore : Type 0
NobodyHasMore = (ring : List ℕ) (es : List Event) (one other : ℕ) → IsRing ring → AlwaysWants one ring es
    → (other ≡ one → ⊥) → turns ring es other ≤ 1 + turns ring es one + passes ring es one
