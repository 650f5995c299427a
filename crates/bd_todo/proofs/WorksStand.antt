-- The table as a whole: a work item comes, or some go.
use Rattle.std.proofs.Common.{◌≡◌, ℕ, ◌<◌, ◌≤◌, ◌==◌, nat_lt, Bool, not, true, Some, None, List, [], ◌∷◌, ◌++◌, length, filter, count_by, refl, sym, ap, ◌∙◌, subst, arith}
use Rattle.bd_space.specs.{declared.space.Work.{Work}, declared.space.TodoList.{TodoList}, declared.space.WorkKind.{WorkKind}}
use Rattle.bd_space.specs.{Todo.{with_work, is_on, is_notice, is_call, death_of}, declared.step.Identity.{Identity}}
use Rattle.bd_space.specs.Words.{without_first, is_some_and}
use Rattle.bd_todo.specs.{declared.table.WorkTable.{WorkTable}, declared.spots.Sought.{Sought}}
use Rattle.bd_todo.specs.{declared.spots.Sought.TheVariants.{Notice, Call, Death}, Rows.{works}, Spots.{is_sought}, FoundCounts.{found_at}}
use Rattle.bd_todo.specs.{QueuesStand.{Stands, IsFront, work_at}, Stands.{WorksAre, RowsAre}, Registered.{Registered}}
use Rattle.std.specs.{List.{list_any}, Prelude.{Option}}
use Rattle.bd_space.specs.declared.space.WorkKind.TheVariants as kinds
use Rattle.bd_chains.specs.{Rows.{Row, drop_key}}
use Rattle.bd_todo.proofs.{Rows.{work_is, count_dropped, filter_dropped}, SoughtCounts.{all_pass, any_counted}}

-- ---- rows and the work items that they hold

pub rows_are : (t : WorkTable) (l : List Work) → (h : WorksAre t l) → RowsAre t h.queues_stand.rows
rows_are t l h = record { shows = h.queues_stand.shows; registered = subst (Registered t.register) (sym h.queues_stand.works_are) h.registered }

pub works_of : (t : WorkTable) (rs : List (Row Work)) (l : List Work) → RowsAre t rs → works rs ≡ l → WorksAre t l
works_of t rs l h is = record { queues_stand = record { rows = rs; shows = h.shows; works_are = is }; registered = subst (Registered t.register) is h.registered }

pub works_pushed : (t u : WorkTable) (place index : ℕ) (list : TodoList) (kind : WorkKind) (l : List Work) → WorksAre t l → index ≡ count_by (λ w. w.id.place == place) l
    → Stands u.queues (l ++ record { id = record { place = place; index = index }; list = list; kind = kind } ∷ []) → length l < 18446744073709551615
    → ((todo : List Work) → length todo < 18446744073709551615 → index ≡ count_by (λ w. w.id.place == place) todo → Registered t.register todo
    → Registered u.register (todo ++ record { id = record { place = place; index = index }; list = list; kind = kind } ∷ []))
    → WorksAre u (with_work place l list kind)
works_pushed t u place index list kind l h is stands few reg = record {
  queues_stand = subst (λ i. Stands u.queues (l ++ item i ∷ [])) is stands;
  registered = subst (λ i. Registered u.register (l ++ item i ∷ [])) is (reg l few is h.registered);
}
  where
    item : ℕ → Work
    item i = record { id = record { place = place; index = i }; list = list; kind = kind }

-- ---- what was made at a place

pub all_at : (t : WorkTable) (place : ℕ) (l : List Work) → WorksAre t l → place ≡ t.register.last.place → t.register.count ≡ count_by (λ w. w.id.place == place) l
unfolding Registered
all_at t place l h same = h.registered.at_last ∙ ap (λ n. count_by (λ (w : Work). w.id.place == n) l) (sym same)

-- ---- what is looked up

notice_key : (o : Identity) (kind : WorkKind) → is_notice o kind ≡ is_sought (Notice o.place o.index) kind
notice_key o (kinds.Notice p) = refl
notice_key o _ = refl

call_key : (b : ℕ) (kind : WorkKind) → is_call b kind ≡ is_sought (Call b) kind
call_key b (kinds.Call c) = refl
call_key b _ = refl

death_key : (m : ℕ) (kind : WorkKind) → is_some_and (death_of kind) (λ n. n == m) ≡ is_sought (Death m) kind
death_key m (kinds.Death n) = refl
death_key m _ = refl

pub notice_goes : (o : Identity) (l : List Work) → filter (λ w. not (is_sought (Notice o.place o.index) w.kind)) l ≡ filter (λ w. not (is_notice o w.kind)) l
notice_goes o l = sym (λ i. filter (λ (w : Work). not (notice_key o w.kind i)) l)

pub death_goes : (m : ℕ) (l : List Work) → filter (λ w. not (is_sought (Death m) w.kind)) l ≡ filter (λ w. not (is_some_and (death_of w.kind) (λ n. n == m))) l
death_goes m l = sym (λ i. filter (λ (w : Work). not (death_key m w.kind i)) l)

pub has_sought_is : (t : WorkTable) (k : Sought) (l : List Work) → WorksAre t l → nat_lt 0 (found_at t.register.spots k) ≡ list_any (λ w. is_sought k w.kind) l
unfolding Registered
has_sought_is t k l h = ap (nat_lt 0) (h.registered.counted k) ∙ any_counted (λ (w : Work). is_sought k w.kind) l

pub has_notice_is : (t : WorkTable) (o : Identity) (l : List Work) → WorksAre t l → nat_lt 0 (found_at t.register.spots (Notice o.place o.index)) ≡ list_any (λ w. is_notice o w.kind) l
has_notice_is t o l h = has_sought_is t (Notice o.place o.index) l h ∙ sym (λ i. list_any (λ (w : Work). notice_key o w.kind i) l)

pub has_call_is : (t : WorkTable) (b : ℕ) (l : List Work) → WorksAre t l → nat_lt 0 (found_at t.register.spots (Call b)) ≡ list_any (λ w. is_call b w.kind) l
has_call_is t b l h = has_sought_is t (Call b) l h ∙ sym (λ i. list_any (λ (w : Work). call_key b w.kind i) l)

-- what is in a slot goes, where it is all that is to go
pub only_goes : (t u : WorkTable) (p : Work → Bool) (l : List Work) (x : ℕ) → WorksAre t l → is_some_and (work_at t.queues x) p ≡ true → count_by p l ≤ 1
    → ((rs : List (Row Work)) → RowsAre t rs → RowsAre u (drop_key x rs)) → WorksAre u (filter (λ w. not (p w)) l)
only_goes t u p l x h is one gone = of (work_at t.queues x) refl is
  where
    of : (o : Option Work) → work_at t.queues x ≡ o → is_some_and o p ≡ true → WorksAre u (filter (λ w. not (p w)) l)
    of None e k = absurd cc
    of (Some w) e k =
        let rs = h.queues_stand.rows in
        let apart = h.queues_stand.shows.holds.apart in
        let here = sym (work_is t.queues rs h.queues_stand.shows x) ∙ e in
        let none : count_by p (works (drop_key x rs)) ≡ 0 = grind (arith, count_dropped x w p rs apart here, ap (count_by p) h.queues_stand.works_are) in
        works_of u (drop_key x rs) (filter (λ w. not (p w)) l) (gone rs (rows_are t l h))
        (sym (all_pass (λ w. not (p w)) p (works (drop_key x rs)) (λ w. grind arith) none) ∙ filter_dropped x w (λ w. not (p w)) rs apart here (ap not k) ∙ ap (filter (λ w. not (p w))) h.queues_stand.works_are)

-- ---- the first of a list

pub front_went : (t u : WorkTable) (l : List Work) (list : TodoList) (x : ℕ) → (h : WorksAre t l) → IsFront t.queues h.queues_stand.rows list x
    → ((rs : List (Row Work)) → RowsAre t rs → RowsAre u (drop_key x rs)) → WorksAre u (without_first (is_on list) l)
front_went t u l list x h f gone =
    works_of u (drop_key x h.queues_stand.rows) (without_first (is_on list) l) (gone h.queues_stand.rows (rows_are t l h)) (f.without_it ∙ ap (without_first (is_on list)) h.queues_stand.works_are)

-- nothing stays of nothing
pub none_left : (p : Work → Bool) (ws : List Work) → length ws ≡ 0 → filter (λ w. not (p w)) ws ≡ ws
none_left p [] e = refl
none_left p (w ∷ ws) e = absurd (omega arith)
