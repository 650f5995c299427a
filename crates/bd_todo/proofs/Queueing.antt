-- The queues after a change.
use Rattle.std.proofs.Common.{◌≡◌, ℕ, Bool, true, false, List, [], ◌∷◌, ◌++◌, filter, Option, Some, None, IfSome, is_some, refl, sym, ap, ◌∙◌}
use Rattle.std.specs.{Prelude.{nat_lt, ◌&&◌}, List.{list_any, slice_get}}
use Rattle.bd_space.specs.{declared.space.Work.{Work}, declared.space.TodoList.{TodoList}, Words.{is_some_and}}
use Rattle.bd_space.specs.Todo.{same_list, is_on, work_on, keeps_from_calling}
use Rattle.bd_chains.specs.Rows.{Row, ring, values_on, on_some, counted_on}
use Rattle.bd_chains.proofs.{Rowing.{first_some}, Walking.{values_walked}, Listing.{on_list, counted_there}}
use Rattle.bd_todo.specs.{Heads.{head_at}, QueuesStand.{Queues, list_of, keeps, Shows, Stands, IsFront}}
use Rattle.bd_todo.proofs.{ListKeys.{same_list_eq}, OnList.{any_first}, Rows.{work_is, works_more, front_dropped, front_on}}

-- what is on the same list has the same number
pub alike : (t : Queues) (l m : TodoList) → same_list l m ≡ true → head_at t.numbers l ≡ head_at t.numbers m
alike t l m e = ap (head_at t.numbers) (same_list_eq l m e)

-- ---- what is found

module _ (t : Queues) (todo : List Work) (s : Stands t todo) (list : TodoList) (o : Option ℕ) (is : head_at t.numbers list ≡ o) where
  pub works_are : on_some [] values_on o s.rows ≡ work_on todo (Some list)
  works_are = sym (on_list list_of keeps same_list (head_at t.numbers) t.chains (alike t) s.rows s.shows list o is s.rows s.shows.listed) ∙ ap (filter (is_on list)) s.works_are

  pub unread_are : on_some false (λ l rs. nat_lt 0 (counted_on l rs)) o s.rows ≡ list_any (λ w. is_on list w && keeps_from_calling w.kind) todo
  unread_are =
      counted_there list_of keeps same_list (head_at t.numbers) t.chains (alike t) s.rows s.shows list o is s.rows s.shows.listed
      ∙ ap (list_any (λ (w : Work). is_on list w && keeps_from_calling w.kind)) s.works_are

  pub front_any : is_some (on_some None (λ l rs. slice_get (ring l rs) 0) o s.rows) ≡ list_any (is_on list) todo
  front_any = first o ∙ ap (λ ws. is_some (slice_get ws 0)) works_are ∙ any_first (is_on list) todo
    where
      first : (o : Option ℕ) → is_some (on_some None (λ l rs. slice_get (ring l rs) 0) o s.rows) ≡ is_some (slice_get (on_some [] values_on o s.rows) 0)
      first None = refl
      first (Some h) = first_some h s.rows

pub front_found : (t : Queues) (rs : List (Row Work)) (s : Shows t rs) (list : TodoList) (o x : Option ℕ) → head_at t.numbers list ≡ o → x ≡ on_some None (λ l rs. slice_get (ring l rs) 0) o rs → IfSome x (IsFront t rs list)
front_found t rs s list o None is first = tt
front_found t rs s list None (Some x) is first = absurd cc
front_found t rs s list (Some h) (Some x) is first = record {
  on_it = ap (λ o. is_some_and o (is_on list)) (work_is t rs s x) ∙ front_on t rs s list h is x rs s.listed s.holds.apart (sym first);
  without_it = front_dropped t rs s list h is x rs s.listed s.holds.apart (sym first);
}

-- what the queues stand for is on each list what stands there
pub on_same : (t : Queues) (ws vs : List Work) (list : TodoList) → Stands t ws → Stands t vs → filter (is_on list) ws ≡ filter (is_on list) vs
on_same t ws vs list a b = sym (works_are t ws a list (head_at t.numbers list) refl) ∙ same (head_at t.numbers list) ∙ works_are t vs b list (head_at t.numbers list) refl
  where
    same : (o : Option ℕ) → on_some [] values_on o a.rows ≡ on_some [] values_on o b.rows
    same None = refl
    same (Some h) = sym (values_walked t.chains h a.rows a.shows.holds) ∙ values_walked t.chains h b.rows b.shows.holds

-- the same rows
pub kept_stands : (t u : Queues) (todo : List Work) → Stands t todo → ((rs : List (Row Work)) → Shows t rs → Shows u rs) → Stands u todo
kept_stands t u todo s kept = record { rows = s.rows; shows = kept s.rows s.shows; works_are = s.works_are }

pub pushed_stands : (t u : Queues) (todo : List Work) (w : Work) (x : ℕ) (b : Bool) → Stands t todo
    → ((rs : List (Row Work)) → Shows t rs → (n : ℕ) × Shows u (rs ++ record { key = x; list = n; held = record { value = w; counted = b } } ∷ [])) → Stands u (todo ++ w ∷ [])
pushed_stands t u todo w x b s pushed =
    let p = pushed s.rows s.shows in
    record { rows = _; shows = p.1; works_are = works_more s.rows (record { key = x; list = p.0; held = record { value = w; counted = b } }) ∙ ap (λ ws. ws ++ w ∷ []) s.works_are }
