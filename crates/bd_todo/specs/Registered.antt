-- What a register says of all work items: each part by how many of them pass a test.
use Rattle.std.specs.{Prelude.{ℕ, ◌≡◌, ◌+◌, ◌*◌, ◌<◌, ◌≤◌, ◌==◌, true, List, count_by}, HashMap.{spare}}
use Rattle.bd_ways.specs.Words.{Origin, Work}
use Rattle.bd_space.specs.Todo.{is_item}
use Rattle.bd_todo.specs.{declared.spots.Sought.{Sought}, declared.register.Register.{Register}, Spots.{is_sought}, FoundCounts.{found_at}}

-- identities in their order, by the place first
abbrev pub rank : Origin → ℕ
rank i = i.place * 18446744073709551616 + i.index

pub record AreCounted (t : Register) (todo : List Work) : Type 0 where
  pub counted : (k : Sought) → found_at t.spots k ≡ count_by (λ w. is_sought k w.kind) todo
  -- none was made at a later place than the last one
  pub at_last : t.count ≡ count_by (λ w. w.id.place == t.last.place) todo
  pub none_later : (place : ℕ) → t.last.place < place → count_by (λ w. w.id.place == place) todo ≡ 0
  -- while identities rise up to the last, no two are called the same
  pub none_past : t.rises ≡ true → (d : Work) → rank t.last < rank d.id → count_by (λ w. is_item w d) todo ≡ 0
  pub one_each : t.rises ≡ true → (d : Work) → count_by (λ w. is_item w d) todo ≤ 1

-- as one word: what stands on the table has no use for its parts
unfoldable pub Registered : Register → List Work → Type 0
Registered t todo = AreCounted t todo

-- how many more it takes without memory
abbrev pub register_room : Register → ℕ
register_room t = spare t.spots.others.spots
