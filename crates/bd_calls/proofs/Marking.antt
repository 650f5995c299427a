-- What was told of the todo lists is known still where a change fills and empties marked lists alone.
use Rattle.std.proofs.Common.{◌≡◌, ℕ, Bool, true, false, not, ◌&&◌, ◌||◌, List, [], ◌∷◌, ◌++◌, refl, ap, sym, ◌∙◌, filter, arith}
use Rattle.std.proofs.{lemmas.List.Folds.{list_any-append}, lemmas.Map.Views.{any-filter_same}, Math.Bool.{or-false}}
use Rattle.std.specs.List.{AllByRecursion}
use Rattle.bd_ways.specs.Words.{Work, WorkKind, TodoList, list_any}
use Rattle.bd_space.specs.{ReadItems.{none_due}, Todo.{has_work_in, is_on, same_list, with_work, is_item, without_taken}}
use Rattle.bd_todo.specs.{declared.table.WorkTable.{WorkTable}, Stands.{WorksAre}}
use Rattle.bd_todo.proofs.{OnList.{any_left}, ListKeys.{same_list_eq, same_list_refl}, Queueing.{on_same}}
use Rattle.bd_calls.specs.{declared.marks.Mark.{Mark}, declared.marks.Marks.{Marks}}
use Rattle.bd_calls.specs.Marks.{differs, is_among, is_marked_in, is_marked, changed_lists, IsRecalled, RecallsIn}

-- ---- lists beside those of a change

-- a work item comes onto a list
pub pushed_on : (place : ℕ) (ws : List Work) (to : TodoList) (kind : WorkKind) (list : TodoList)
    → has_work_in (with_work place ws to kind) list ≡ (has_work_in ws list || same_list list to)
pushed_on place ws to kind list = list_any-append (is_on list) ws _ ∙ ap (λ b. has_work_in ws list || b) (or-false (same_list list to))

pub pushed_beside : (place : ℕ) (ws : List Work) (to : TodoList) (kind : WorkKind) (list : TodoList) → same_list list to ≡ false
    → has_work_in (with_work place ws to kind) list ≡ has_work_in ws list
pushed_beside place ws to kind list other = grind (arith, pushed_on place ws to kind list, other)

-- work items go
not_taken : (list : TodoList) (w : Work) (taken : List Work) → has_work_in taken list ≡ false → same_list list w.list ≡ true → list_any (λ d. is_item w d) taken ≡ false
not_taken list w [] gone on = refl
not_taken list w (d ∷ ds) gone on = grind (arith, gone, on, same_list_eq list w.list on, same_list_eq d.list w.list, same_list_refl list, not_taken list w ds)

pub taken_beside : (taken ws : List Work) (list : TodoList) → has_work_in taken list ≡ false → has_work_in (without_taken taken ws) list ≡ has_work_in ws list
taken_beside taken ws list gone =
    any-filter_same (is_on list) (λ w. not (list_any (λ d. is_item w d) taken)) true (λ w on. ap not (not_taken list w taken gone on)) ws

-- a list is cleared
pub cleared_beside : (ws : List Work) (gone list : TodoList) → same_list list gone ≡ false → has_work_in (filter (λ w. not (is_on gone w)) ws) list ≡ has_work_in ws list
cleared_beside ws gone list other =
    any-filter_same (is_on list) (λ w. not (is_on gone w)) true
    (λ w on. grind (arith, other, same_list_eq list w.list on, same_list_eq gone w.list, same_list_refl list)) ws

-- ---- the marks

-- one mark more, with what is on its list
all_more : (P : Mark → Type 0) (marks : List Mark) (m : Mark) → AllByRecursion P marks → P m → AllByRecursion P (marks ++ m ∷ [])
all_more P [] m all one = (one, tt)
all_more P (n ∷ marks) m all one = (all.0, all_more P marks m all.1 one)

pub recalled_more : (marks : List Mark) (m : Mark) (t : WorkTable) (told : TodoList → Bool) → ((ws : List Work) → WorksAre t ws → m.had ≡ has_work_in ws m.list)
    → is_marked_in marks m.list ≡ false → IsRecalled marks t told → IsRecalled (marks ++ m ∷ []) t told
recalled_more marks m t told had new k = record {
  todo = k.todo;
  todo_are = k.todo_are;
  had = all_more (λ n. told n.list ≡ n.had) marks m k.had (k.beside m.list new ∙ sym (had k.todo k.todo_are));
  beside = λ list out. k.beside list (grind (arith, out, list_any-append (λ (n : Mark). same_list list n.list) marks (m ∷ [])));
}

-- a change fills and empties no list but marked ones
pub told_on : (m : Marks) (t u : WorkTable) (f : List Work → List Work) (told : TodoList → Bool) → ((ws : List Work) → WorksAre t ws → WorksAre u (f ws))
    → ((ws : List Work) (list : TodoList) → is_marked m list ≡ false → has_work_in (f ws) list ≡ has_work_in ws list) → RecallsIn m t told → RecallsIn m u told
told_on m t u f told makes beside recalls = λ one.
    let k = recalls one in
    record {
      todo = f k.todo;
      todo_are = makes k.todo k.todo_are;
      had = k.had;
      beside = λ list out. k.beside list out ∙ sym (beside k.todo list (ap (λ b. b || is_marked_in m.marks.items list) one ∙ out));
    }

-- ---- what is told

-- the table alone tells
has_same : (t : WorkTable) (ws vs : List Work) (list : TodoList) → WorksAre t ws → WorksAre t vs → has_work_in ws list ≡ has_work_in vs list
has_same t ws vs list a b =
    any_left (is_on list) ws ∙ ap (λ (xs : List Work). not (none_due xs)) (on_same t.queues ws vs list a.queues_stand b.queues_stand) ∙ sym (any_left (is_on list) vs)

listed : (marks : List Mark) (ws : List Work) (told : TodoList → Bool) (list : TodoList) → AllByRecursion (λ m. told m.list ≡ m.had) marks
    → is_among (changed_lists ws marks) list ≡ (is_marked_in marks list && differs (told list) (has_work_in ws list))
listed [] ws told list had = refl
listed (m ∷ marks) ws told list had = grind (arith, had.0, same_list_eq list m.list, listed marks ws told list had.1)

-- the lists that are told are those that were told otherwise than they are
pub told_exact : (marks : List Mark) (t : WorkTable) (told : TodoList → Bool) (ws : List Work) → IsRecalled marks t told → WorksAre t ws
    → (list : TodoList) → is_among (changed_lists ws marks) list ≡ differs (told list) (has_work_in ws list)
told_exact marks t told ws k are list = grind (arith, listed marks ws told list k.had, k.beside list, has_same t k.todo ws list k.todo_are are)
