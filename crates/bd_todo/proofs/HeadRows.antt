-- The heads of lists, by rows and by keys.
use Rattle.std.proofs.Common.{◌≡◌, ℕ, ◌<◌, ◌==◌, false, cond, List, length, get_or, set, replicate, zero, suc, Option, Some, None, refl, arith}
use Rattle.std.proofs.lemmas.List.{length-set, get_or-set_same, get_or-set_other}
use Rattle.std.specs.HashMap.{HashMap, get_by}
use Rattle.bd_space.specs.{declared.space.TodoList.{TodoList}, declared.space.TodoList.TheVariants.{OfThread, OfProcess}, Words.{is_some_and}}
use Rattle.bd_space.specs.Todo.{same_list}
use Rattle.bd_todo.specs.{declared.heads.ListKey.{ListKey}, Keys.{list_key, same_key}, Heads.{row_of, head_by}}
use Rattle.bd_todo.proofs.ListKeys.{same_keys}

row_within : (n i : ℕ) (l : TodoList) → row_of n l ≡ Some i → i < n
row_within n i (OfThread t) h = grind arith
row_within n i (OfProcess p) h = grind arith

-- a list with a row is the same as those of its row, and one without is the same as none with one
row_same : (n i : ℕ) (a b : TodoList) → row_of n a ≡ Some i → same_list a b ≡ is_some_and (row_of n b) (λ j. i == j)
row_same n i (OfThread t) (OfThread u) h = grind arith
row_same n i (OfThread t) (OfProcess q) h = refl
row_same n i (OfProcess p) b h = grind arith

apart_row : (n j : ℕ) (a b : TodoList) → row_of n a ≡ None → row_of n b ≡ Some j → same_list a b ≡ false
apart_row n j (OfThread t) (OfThread u) h g = grind arith
apart_row n j (OfProcess p) (OfThread u) h g = refl
apart_row n j a (OfProcess q) h g = grind arith

-- a row after a change at another, or at its own
row_set : (rs : List (Option ℕ)) (i j : ℕ) (x : Option ℕ) → i < length rs → get_or (set rs i x) j None ≡ cond (i == j) x (get_or rs j None)
row_set rs i j x less = grind (arith, get_or-set_same rs i x None less, get_or-set_other rs i j x None)

module _ {S : Type 0} (rs : List (Option ℕ)) (others : HashMap ListKey ℕ S) where
  -- a list with a row has another head
  pub row_put : (list : TodoList) (i : ℕ) (x : Option ℕ) → row_of (length rs) list ≡ Some i → (l : TodoList)
      → head_by (set rs i x) others l (row_of (length (set rs i x)) l) ≡ cond (same_list list l) x (head_by rs others l (row_of (length rs) l))
  row_put list i x is l = rw (length-set rs i x, row_same (length rs) i list l is) (at (row_of (length rs) l))
    where
      at : (o : Option ℕ) → head_by (set rs i x) others l o ≡ cond (is_some_and o (λ j. i == j)) x (head_by rs others l o)
      at None = refl
      at (Some j) = row_set rs i j x (row_within (length rs) i list is)

  -- a list without one has
  pub key_put : (then : HashMap ListKey ℕ S) (list : TodoList) (x : Option ℕ) → row_of (length rs) list ≡ None
      → ((k : ListKey) → get_by (same_key k) then ≡ cond (same_key (list_key list) k) x (get_by (same_key k) others))
      → (l : TodoList) → head_by rs then l (row_of (length rs) l) ≡ cond (same_list list l) x (head_by rs others l (row_of (length rs) l))
  key_put then list x is put l = at (row_of (length rs) l) refl
    where
      at : (o : Option ℕ) → row_of (length rs) l ≡ o → head_by rs then l o ≡ cond (same_list list l) x (head_by rs others l o)
      at None e = rw (same_keys list l) (put (list_key l))
      at (Some j) e = rw (apart_row (length rs) j list l is e) refl

  -- no row has a head, and no key
  pub none_has : ((i : ℕ) → get_or rs i None ≡ None) → ((l : TodoList) → get_by (same_key (list_key l)) others ≡ None)
      → (l : TodoList) → head_by rs others l (row_of (length rs) l) ≡ None
  none_has rows keys l = at (row_of (length rs) l)
    where
      at : (o : Option ℕ) → head_by rs others l o ≡ None
      at None = keys l
      at (Some i) = rows i

-- the same by each key
pub same_numbers : {S : Type 0} (rs : List (Option ℕ)) (was then : HashMap ListKey ℕ S)
    → ((l : TodoList) → get_by (same_key (list_key l)) then ≡ get_by (same_key (list_key l)) was)
    → (l : TodoList) → head_by rs then l (row_of (length rs) l) ≡ head_by rs was l (row_of (length rs) l)
same_numbers rs was then same l = at (row_of (length rs) l)
  where
    at : (o : Option ℕ) → head_by rs then l o ≡ head_by rs was l o
    at None = same l
    at (Some i) = refl

abbrev nothing : Option ℕ
nothing = None

pub no_heads : (n i : ℕ) → get_or (replicate n nothing) i nothing ≡ nothing
no_heads zero i = refl
no_heads (suc n) zero = refl
no_heads (suc n) (suc i) = no_heads n i
