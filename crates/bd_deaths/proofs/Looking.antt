-- What is found along a process's list, and what is kept of each.
use Rattle.bd_deaths.proofs.Words.{All, All-cons, All-head, All-tail, Bool, DeathNotification, DeathTable, DeathsAre, Distinct, EntriesAre, Entry, List, Mark, None, Option, Some, WordKey, [], ap, arith, at_of, by_process, cond, count_by, death_of}
use Rattle.bd_deaths.proofs.Words.{eq-eqb, eqb-true, eqb_turned, false, filter, find, first_at, found_passes, get_or, has, is_some_and, is_told_in, is_told_with, kept_at, kept_of, map, mark_of, ne_eqb, on_list, on_some, option_map, pairs_head}
use Rattle.bd_deaths.proofs.Words.{pairs_tail, process_number, process_row, refl, same_process, sym, told_at, true, values_on, ℕ, ◌==◌, ◌∙◌, ◌∷◌, ◌≡◌}
use Rattle.bd_deaths.proofs.{Changes.{by_slot}, Ending.{values_of}, Only.{count_map}, Sharing.{only_counted, told_with}}

-- each is found by its slot
self_found : (es : List Entry) → Distinct at_of es → All (λ e. find (has at_of (at_of e)) es ≡ Some e) es
self_found [] distinct = λ k d h. absurd (omega arith)
self_found (x ∷ es) distinct =
    All-cons (λ e. find (has at_of (at_of e)) (x ∷ es) ≡ Some e) x es
    (rw (eq-eqb (at_of x) (at_of x) refl) refl)
    (λ k d h.
    let far = ne_eqb (at_of x) (at_of (get_or es k d)) (pairs_head (λ a b. at_of a ≡ at_of b → ⊥) x es distinct k d h) in
    rw far (self_found es (pairs_tail (λ a b. at_of a ≡ at_of b → ⊥) x es distinct) k d h))

pub all_kept : (t : DeathTable) (es : List Entry) → EntriesAre t es → All (λ e. kept_at t (at_of e) ≡ Some e.kept) es
all_kept t es h k d lt = h.slots_are (at_of (get_or es k d)) ∙ ap (option_map kept_of) (self_found es (by_slot es h.apart) k d lt)

-- the marks of a process are those of its entries
pub marks_are : (t : DeathTable) (p : ℕ) (es : List Entry) → EntriesAre t es → (n : Option ℕ) → process_number t p ≡ n → on_some [] values_on n (map process_row es) ≡ filter (λ m. same_process p (by_process m)) (map mark_of es)
marks_are t p es h n is =
    sym (on_list by_process (λ _. false) same_process (process_number t) t.processes.chains (λ k l e. ap (process_number t) (eqb-true k l e)) (map process_row es) h.of_processes p n is (map process_row es) h.of_processes.listed)
    ∙ ap (filter (λ m. same_process p (by_process m))) (values_of process_row es)

pub first_is : (t : DeathTable) (p cookie : ℕ) (es : List Entry) → All (λ e. kept_at t (at_of e) ≡ Some e.kept) es
    → first_at (is_told_in t p cookie) (filter (λ m. same_process p (by_process m)) (map mark_of es)) ≡ option_map at_of (find (λ e. is_told_with p cookie (death_of e)) es)
first_is t p cookie [] all = refl
first_is t p cookie (e ∷ es) all =
    let here = All-head (λ e. kept_at t (at_of e) ≡ Some e.kept) e es all in
    let rest = first_is t p cookie es (All-tail (λ e. kept_at t (at_of e) ≡ Some e.kept) e es all) in
    at (p == (death_of e).process) (is_told_with p cookie (death_of e)) refl refl here rest
  where
    more : List Entry → List Mark
    more es = filter (λ m. same_process p (by_process m)) (map mark_of es)

    at : (a b : Bool) → (p == (death_of e).process) ≡ a → is_told_with p cookie (death_of e) ≡ b → kept_at t (at_of e) ≡ Some e.kept
        → first_at (is_told_in t p cookie) (more es) ≡ option_map at_of (find (λ e. is_told_with p cookie (death_of e)) es)
        → first_at (is_told_in t p cookie) (cond a (mark_of e ∷ more es) (more es)) ≡ option_map at_of (cond b (Some e) (find (λ e. is_told_with p cookie (death_of e)) es))
    at true true f g here rest = rw (here, g) refl
    at true false f g here rest = rw (here, g) rest
    at false true f g here rest = let own = eqb_turned p (death_of e).process in grind (arith, own, f, g)
    at false false f g here rest = rest

-- ---- how many are told with a cookie

module _ (t : DeathTable) (p cookie : ℕ) (l : List DeathNotification) (h : DeathsAre t l) where
  abbrev pub is_it : Entry → Bool
  is_it e = is_told_with p cookie (death_of e)

  pub told_count : told_at t.cookies (record { process = p; word = cookie }) ≡ count_by is_it h.entries
  told_count =
      let k : WordKey = record { process = p; word = cookie } in
      h.shared.tolds k ∙ (λ i. count_by (λ x. told_with k x i) l) ∙ ap (count_by (is_told_with p cookie)) (sym h.deaths_are) ∙ count_map (is_told_with p cookie) h.entries

  -- the only one is where one is
  pub only_told : (at : ℕ) → count_by is_it h.entries ≡ 1 → is_told_in t p cookie at ≡ true → Some at ≡ option_map at_of (find is_it h.entries)
  only_told at one is = of (find (has at_of at) h.entries) refl (ap (λ o. is_some_and o (λ k. is_told_with p cookie k.death)) (sym (h.are.slots_are at)) ∙ is)
    where
      of : (o : Option Entry) → find (has at_of at) h.entries ≡ o → is_some_and (option_map kept_of o) (λ k. is_told_with p cookie k.death) ≡ true → Some at ≡ option_map at_of (find is_it h.entries)
      of None f k = absurd cc
      of (Some e) f k =
          ap (λ n. Some n) (sym (eqb-true (at_of e) at (found_passes (has at_of at) h.entries e f)))
          ∙ sym (ap (option_map at_of) (only_counted (has at_of at) is_it h.entries e one f k))
