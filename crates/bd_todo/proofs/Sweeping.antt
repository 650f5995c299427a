-- A walk over all slots takes out the work items that aren't to stay, or counts some.
use Rattle.std.proofs.Common.{◌≡◌, ℕ, ◌+◌, ◌<◌, Bool, true, false, not, cond, List, [], ◌∷◌, filter, count_by, Some, is_some, refl, sym, ◌∙◌, arith}
use Rattle.bd_space.specs.{declared.space.Work.{Work}, Words.{is_some_and}}
use Rattle.bd_chains.specs.{Chain.{has, distinct}, Rows.{Row, keys, row_at, drop_key}, Columns.{is_there}}
use Rattle.bd_todo.specs.{Rows.{works, work_in, seen_by}, QueuesStand.{Queues, Shows, work_at}, Stands.{RowsAre}}
use Rattle.bd_todo.specs.declared.table.WorkTable.{WorkTable}
use Rattle.bd_todo.proofs.{Rows.{work_is, filter_dropped}, SoughtCounts.{count_cons, all_pass}}

-- ---- those that a walk has come past

module _ (p : Work → Bool) where
  pub seen_first : (rs : List (Row Work)) → seen_by p 0 rs ≡ 0
  seen_first [] = refl
  seen_first (r ∷ rs) = grind (arith, seen_first rs)

  seen_same : (i : ℕ) (rs : List (Row Work)) → has i (keys rs) ≡ false → seen_by p (i + 1) rs ≡ seen_by p i rs
  seen_same i [] off = refl
  seen_same i (r ∷ rs) off = grind (arith, seen_same i rs)

  pub seen_more : (i : ℕ) (rs : List (Row Work)) → distinct (keys rs) ≡ true → seen_by p (i + 1) rs ≡ cond (is_some_and (work_in i rs) p) (seen_by p i rs + 1) (seen_by p i rs)
  seen_more i [] apart = refl
  seen_more i (r ∷ rs) apart = grind (arith, seen_more i rs, seen_same i rs)

  seen_dropped : (i : ℕ) (rs : List (Row Work)) → seen_by p (i + 1) (drop_key i rs) ≡ seen_by p i rs
  seen_dropped i [] = refl
  seen_dropped i (r ∷ rs) = grind (arith, seen_dropped i rs)

  pub seen_all : (n : ℕ) (rs : List (Row Work)) → ((k : ℕ) → has k (keys rs) ≡ true → k < n) → seen_by p n rs ≡ count_by p (works rs)
  seen_all n [] low = refl
  seen_all n (r ∷ rs) low = grind (arith, seen_all n rs (λ k on. low k (grind arith)), low r.key (grind arith), count_cons p r.held.value (works rs))

-- each slot's number is below the bound
pub keys_below : (t : Queues) (rs : List (Row Work)) → Shows t rs → (n : ℕ) → ((k : ℕ) → is_there t.chains (Some k) ≡ true → k < n) → (k : ℕ) → has k (keys rs) ≡ true → k < n
keys_below t rs s n below k on = below k (grind (arith, s.holds.shown_are k, in_row rs on))
  where
    in_row : (ss : List (Row Work)) → has k (keys ss) ≡ true → is_some (row_at k ss) ≡ true
    in_row [] on = grind arith
    in_row (r ∷ ss) on = grind (arith, in_row ss)

-- ---- some are taken out

kept_key : (i k : ℕ) (rs : List (Row Work)) → has k (keys (drop_key i rs)) ≡ true → has k (keys rs) ≡ true
kept_key i k [] on = on
kept_key i k (r ∷ rs) on = grind (arith, kept_key i k rs)

-- of these rows some are left, in which the same items pass, and all do that the walk has come past
pub record Swept (p : Work → Bool) (i : ℕ) (t : WorkTable) (rs : List (Row Work)) : Type 0 where
  pub left : List (Row Work)
  pub are : RowsAre t left
  pub of_them : (k : ℕ) → has k (keys left) ≡ true → has k (keys rs) ≡ true
  pub same : filter p (works left) ≡ filter p (works rs)
  pub none_seen : seen_by (λ w. not (p w)) i left ≡ 0

module _ (p : Work → Bool) (i : ℕ) (t : WorkTable) (rs : List (Row Work)) (s : Swept p i t rs) where
  pub swept_kept : is_some_and (work_at t.queues i) (λ w. not (p w)) ≡ false → Swept p (i + 1) t rs
  swept_kept stay = record {
    left = s.left;
    are = s.are;
    of_them = s.of_them;
    same = s.same;
    none_seen = grind (arith, seen_more (λ w. not (p w)) i s.left s.are.shows.holds.apart, work_is t.queues s.left s.are.shows i, s.none_seen);
  }

  pub swept_cut : (u : WorkTable) (w : Work) → work_at t.queues i ≡ Some w → p w ≡ false → ((ss : List (Row Work)) → RowsAre t ss → RowsAre u (drop_key i ss)) → Swept p (i + 1) u rs
  swept_cut u w is goes gone = record {
    left = drop_key i s.left;
    are = gone s.left s.are;
    of_them = λ k on. s.of_them k (kept_key i k s.left on);
    same = filter_dropped i w p s.left s.are.shows.holds.apart (sym (work_is t.queues s.left s.are.shows i) ∙ is) goes ∙ s.same;
    none_seen = seen_dropped (λ w. not (p w)) i s.left ∙ s.none_seen;
  }

  pub swept_all : ((k : ℕ) → has k (keys rs) ≡ true → k < i) → works s.left ≡ filter p (works rs)
  swept_all below = sym (all_pass p (λ w. not (p w)) (works s.left) (λ w. refl) (sym (seen_all (λ w. not (p w)) i s.left (λ k on. below k (s.of_them k on))) ∙ s.none_seen)) ∙ s.same
