-- One-way calls that go one after the other, by the work items that would have handed them out.
use Rattle.std.proofs.Common.{◌≡◌, ◌==◌, ◌∙◌, ℕ, Bool, not, ◌||◌, ◌&&◌, List, [], ◌∷◌, Option, Some, refl, ap, sym, filter, fold, arith}
use Rattle.bd_ways.specs.Words.{TodoList, Turn, Work, is_some_and, list_any}
use Rattle.bd_ways.proofs.Ranges.{all_stay, same_filter}
use Rattle.bd_space.specs.{Todo.{hands_out, work_on, is_on}, ThreadExits.{is_lost_with}}
use Rattle.bd_todo.proofs.OnList.{any_filter}

-- another than the one made here, if there is one
abbrev pub is_other_than : Option ℕ → Turn → Bool
is_other_than made t = not (is_some_and made (λ m. t.made == m))

-- what is left of them
abbrev pub left : List Work → List Turn → List Turn
left ws ts = fold (λ us w. filter (is_other_than (hands_out w.kind)) us) ts ws

-- none of these hands it out
abbrev stays : List Work → Turn → Bool
stays ws t = not (list_any (λ w. is_some_and (hands_out w.kind) (λ m. m == t.made)) ws)

left_stays : (ws : List Work) (ts : List Turn) → left ws ts ≡ filter (stays ws) ts
left_stays [] ts = sym (all_stay (stays []) (λ t. refl) ts)
left_stays (w ∷ ws) ts = left_stays ws (filter (is_other_than (hands_out w.kind)) ts) ∙ twice ts
  where
    apart : (o : Option ℕ) (n : ℕ) (b : Bool) → not (is_some_and o (λ m. m == n) || b) ≡ (not (is_some_and o (λ m. n == m)) && not b)
    apart o n b = grind arith

    twice : (us : List Turn) → filter (stays ws) (filter (is_other_than (hands_out w.kind)) us) ≡ filter (stays (w ∷ ws)) us
    twice [] = refl
    twice (t ∷ us) = grind (arith, apart (hands_out w.kind) t.made (list_any (λ x. is_some_and (hands_out x.kind) (λ m. m == t.made)) ws), twice us)

-- along a list, those that are not lost with it
pub left_on : (works : List Work) (list : TodoList) (ts : List Turn) → left (work_on works (Some list)) ts ≡ filter (λ (t : Turn). not (is_lost_with works list t.made)) ts
left_on works list ts = left_stays (work_on works (Some list)) ts
    ∙ same_filter _ _ (λ t. ap not (any_filter (is_on list) (λ w. is_some_and (hands_out w.kind) (λ m. m == t.made)) works)) ts
