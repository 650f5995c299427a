-- Rows and the work items that they hold: what stands on a list, and what goes.
use Rattle.std.proofs.Common.{◌≡◌, ◌+◌, ℕ, ◌==◌, Bool, true, false, cond, List, [], ◌∷◌, ◌++◌, length, filter, count_by, Some, None, refl, ap, arith}
use Rattle.std.specs.{Prelude.{option_map}, List.{slice_get}}
use Rattle.bd_space.specs.{declared.space.Work.{Work}, declared.space.TodoList.{TodoList}, Words.{without_first, is_some_and}}
use Rattle.bd_space.specs.Todo.{same_list, is_on}
use Rattle.bd_chains.specs.{declared.links.Held.{Held}, Chain.{distinct}, Rows.{Row, keys, ring, drop_key}, Lists.{AreListed}}
use Rattle.bd_chains.proofs.{Rowing.{drop_none, first_in}, Listing.{same_number}}
use Rattle.bd_todo.specs.{Heads.{head_at}, Rows.{works, work_in}, QueuesStand.{Queues, list_of, keeps, Shows, work_at}}
use Rattle.bd_todo.proofs.{ListKeys.{same_list_eq}, SoughtCounts.{count_cons}}

pub works_more : (rs : List (Row Work)) (r : Row Work) → works (rs ++ r ∷ []) ≡ works rs ++ r.held.value ∷ []
works_more [] r = refl
works_more (q ∷ rs) r = ap (λ ws. q.held.value ∷ ws) (works_more rs r)

pub works_length : (rs : List (Row Work)) → length (works rs) ≡ length rs
works_length [] = refl
works_length (q ∷ rs) = let e = works_length rs in omega (arith, e)

-- what the table says of a slot, and what its row holds
pub work_is : (t : Queues) (rs : List (Row Work)) → Shows t rs → (x : ℕ) → work_at t x ≡ work_in x rs
work_is t rs s x = ap (option_map (λ (p : ℕ × Held Work). p.1.value)) (s.holds.shown_are x)

-- ---- the first on a list

module _ (t : Queues) (all : List (Row Work)) (shows : Shows t all) (l : TodoList) (h : ℕ) (is : head_at t.numbers l ≡ Some h) where
  on_row : (r : Row Work) → head_at t.numbers r.held.value.list ≡ Some r.list → is_on l r.held.value ≡ (r.list == h)
  on_row r own = same_number list_of keeps same_list (head_at t.numbers) t.chains (λ k m e. ap (head_at t.numbers) (same_list_eq k m e)) all shows l (Some h) r.held.value r.list is own

  pub front_dropped : (x : ℕ) (rs : List (Row Work)) → AreListed list_of keeps (head_at t.numbers) rs → distinct (keys rs) ≡ true → slice_get (ring h rs) 0 ≡ Some x
      → works (drop_key x rs) ≡ without_first (is_on l) (works rs)
  front_dropped x [] own apart first = refl
  front_dropped x (r ∷ rs) own apart first = rw (on_row r own.0.0) (grind (arith, front_dropped x rs own.1, first_in h x rs, drop_none x rs))

  pub front_on : (x : ℕ) (rs : List (Row Work)) → AreListed list_of keeps (head_at t.numbers) rs → distinct (keys rs) ≡ true → slice_get (ring h rs) 0 ≡ Some x
      → is_some_and (work_in x rs) (is_on l) ≡ true
  front_on x [] own apart first = grind arith
  front_on x (r ∷ rs) own apart first = grind (arith, on_row r own.0.0, front_on x rs own.1, first_in h x rs)

-- ---- the one in a slot goes

pub none_dropped : (x : ℕ) (rs : List (Row Work)) → work_in x rs ≡ None → drop_key x rs ≡ rs
none_dropped x [] is = refl
none_dropped x (r ∷ rs) is = grind (arith, none_dropped x rs)

module _ (x : ℕ) (w : Work) where
  -- of every test one less passes, if it passed
  pub count_dropped : (p : Work → Bool) (rs : List (Row Work)) → distinct (keys rs) ≡ true → work_in x rs ≡ Some w
      → count_by p (works rs) ≡ cond (p w) 1 0 + count_by p (works (drop_key x rs))
  count_dropped p [] apart is = grind arith
  count_dropped p (r ∷ rs) apart is = grind (arith, count_dropped p rs, drop_none x rs, count_cons p r.held.value (works rs), count_cons p r.held.value (works (drop_key x rs)))

  pub filter_dropped : (p : Work → Bool) (rs : List (Row Work)) → distinct (keys rs) ≡ true → work_in x rs ≡ Some w → p w ≡ false
      → filter p (works (drop_key x rs)) ≡ filter p (works rs)
  filter_dropped p [] apart is out = refl
  filter_dropped p (r ∷ rs) apart is out = grind (arith, filter_dropped p rs, drop_none x rs)
