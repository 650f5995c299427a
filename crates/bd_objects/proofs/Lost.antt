-- The only notification that goes with a name: the work items of all others stay.
use Rattle.bd_objects.proofs.Words.{Bool, DeathNotification, DeathTable, DeathsAre, Identity, List, Name, None, Option, Some, Space, WorkKind, [], and-false, and-true, and_from, and_parts, any_some, ap, at_name, cond, death_of, deaths_go_of, eq-eqb}
use Rattle.bd_objects.proofs.Words.{eqb-true, false, filter, find, find_gone, find_stays, found_passes, is_lost, is_name_of, is_notification, is_some, is_some_and, is_touched, is_uncleared_on, list_any, none_goes, not, one_goes, only_lost, only_one}
use Rattle.bd_objects.proofs.Words.{refl, still_due, subst, sym, true, uncleared_in, ℕ, ◌&&◌, ◌==◌, ◌||◌, ◌∙◌, ◌∷◌, ◌≡◌}
use Rattle.bd_objects.proofs.AtName.{filtered_at, lost_gone, lost_none}
use Rattle.bd_space.specs.declared.space.WorkKind.TheVariants as work

module _ (p : ℕ) (o : Identity) where
  abbrev at : DeathNotification → Bool
  at y = at_name p o y.process y.object

  uncleared_at : (y : DeathNotification) → is_uncleared_on p o y ≡ (at y && not y.cleared)
  uncleared_at y = three y.cleared (y.process == p) _
    where
      three : (c a b : Bool) → ((not c && a) && b) ≡ ((a && b) && not c)
      three true true true = refl
      three true true false = refl
      three true false b = refl
      three false true true = refl
      three false true false = refl
      three false false b = refl

  any_uncleared : (xs : List DeathNotification) → list_any (is_uncleared_on p o) xs ≡ list_any (λ y. at y && not y.cleared) xs
  any_uncleared [] = refl
  any_uncleared (x ∷ xs) = (λ i. uncleared_at x i || any_uncleared xs i)

  -- one goes with the name if it is uncleared, and the name is gone
  pub any_lost : (names : List Name) (xs : List DeathNotification) (b : Bool) → b ≡ is_name_of names p o → (is_some (uncleared_in xs p o) && not b) ≡ list_any (is_lost names p o) xs
  any_lost names xs true e = and-false (is_some (uncleared_in xs p o)) ∙ lost_none names p o true e refl xs
  any_lost names xs false e = and-true (is_some (uncleared_in xs p o)) ∙ sym (any_some (is_uncleared_on p o) xs) ∙ any_uncleared xs ∙ lost_gone names p o false e refl xs

  all_named : (xs : List DeathNotification) → filter (λ x. not (at x) || (x.cleared || true)) xs ≡ xs
  all_named [] = refl
  all_named (x ∷ xs) = rw (named (at x) x.cleared) (ap (λ ys. x ∷ ys) (all_named xs))
    where
      named : (a c : Bool) → (not a || (c || true)) ≡ true
      named true true = refl
      named true false = refl
      named false c = refl

  -- an element that is found makes others pass
  found_any : {A : Type 0} (q r : A → Bool) (x : A) → r x ≡ true → (xs : List A) → find q xs ≡ Some x → list_any r xs ≡ true
  found_any q r x e [] h = absurd cc
  found_any q r x e (y ∷ ys) h = by (q y) h (found_any q r x e ys)
    where
      by : (b : Bool) → cond b (Some y) (find q ys) ≡ Some x → (find q ys ≡ Some x → list_any r ys ≡ true) → (r y || list_any r ys) ≡ true
      by true g further = let is : y ≡ x = cc in rw (ap r is ∙ e) refl
      by false g further = rw (further g) (or_true (r y))
        where
          or_true : (a : Bool) → (a || true) ≡ true
          or_true true = refl
          or_true false = refl

  -- whether any on the name was made there
  at_of : (n : ℕ) (xs : List DeathNotification) → (not (list_any (λ y. (y.made == n) && at y) xs) || list_any (is_notification n) xs) ≡ true
  at_of n [] = refl
  at_of n (x ∷ xs) = by (x.made == n) (at x) (list_any (λ y. (y.made == n) && at y) xs) (at_of n xs)
    where
      by : (a b c : Bool) → (not c || list_any (is_notification n) xs) ≡ true → (not ((a && b) || c) || (a || list_any (is_notification n) xs)) ≡ true
      by true true c h = refl
      by true false true h = refl
      by true false false h = refl
      by false b c h = h

  module _ (t : DeathTable) (s : Space) (h : DeathsAre t s.deaths) where
    abbrev left : List DeathNotification
    left = (deaths_go_of (at_name p o) s).deaths

    left_named : is_name_of s.names p o ≡ true → left ≡ s.deaths
    unfolding deaths_go_of
    left_named named = filtered_at s.names p o true (sym named) s.deaths ∙ all_named s.deaths

    left_none : uncleared_in s.deaths p o ≡ None → (b : Bool) → is_name_of s.names p o ≡ b → left ≡ s.deaths
    unfolding deaths_go_of
    left_none none true named = left_named named
    left_none none false named = filtered_at s.names p o false (sym named) s.deaths ∙ none_goes t s.deaths h p o none

    left_one : (x : DeathNotification) → is_name_of s.names p o ≡ false → uncleared_in s.deaths p o ≡ Some x → left ≡ filter (λ y. not (is_notification x.made y)) s.deaths
    unfolding deaths_go_of
    left_one x named is = filtered_at s.names p o false (sym named) s.deaths ∙ one_goes t s.deaths h p o x is

    pub none_lost : uncleared_in s.deaths p o ≡ None → None ≡ only_lost s p o
    none_lost none = rw (only_one t s.deaths h p o ∙ none) (by (is_name_of s.names p o))
      where
        by : (b : Bool) → None ≡ cond {A = Option ℕ} b None None
        by true = refl
        by false = refl

    pub named_lost : is_name_of s.names p o ≡ true → None ≡ only_lost s p o
    named_lost named = rw named refl

    gone_any : (m : ℕ) → list_any (is_notification m) (filter (λ y. not (is_notification m y)) s.deaths) ≡ false
    gone_any m = any_some (is_notification m) _ ∙ ap is_some (find_gone (λ (y : DeathNotification). y.made) m s.deaths)

    pub one_lost : (x : DeathNotification) → is_name_of s.names p o ≡ false → uncleared_in s.deaths p o ≡ Some x → Some x.made ≡ only_lost s p o
    one_lost x named is = rw (named, only_one t s.deaths h p o ∙ is, ap (list_any (is_notification x.made)) (left_one x named is) ∙ gone_any x.made) refl

    -- what is left, by what is lost
    pub left_lost : (r : Option ℕ) → r ≡ only_lost s p o → left ≡ (elim r [ None ↦ s.deaths | Some m ↦ filter (λ y. not (is_notification m y)) s.deaths ])
    left_lost r e = of (is_name_of s.names p o) refl (uncleared_in s.deaths p o) refl e
      where
        of : (b : Bool) → is_name_of s.names p o ≡ b → (f : Option DeathNotification) → uncleared_in s.deaths p o ≡ f → r ≡ only_lost s p o → left ≡ (elim r [ None ↦ s.deaths | Some m ↦ filter (λ y. not (is_notification m y)) s.deaths ])
        of true named f is e = rw (e ∙ sym (named_lost named)) (left_named named)
        of false named None is e = rw (e ∙ sym (none_lost is)) (left_none is false named)
        of false named (Some x) is e = rw (e ∙ sym (one_lost x named is)) (left_one x named is)

    death_stays : (x : DeathNotification) → is_name_of s.names p o ≡ false → uncleared_in s.deaths p o ≡ Some x → (n : ℕ)
        → not (n == x.made) ≡ (not (list_any (λ y. (y.made == n) && at y) s.deaths) || list_any (is_notification n) left)
    death_stays x named is n = by (n == x.made) refl
      where
        by : (b : Bool) → (n == x.made) ≡ b → not b ≡ (not (list_any (λ y. (y.made == n) && at y) s.deaths) || list_any (is_notification n) left)
        by true e =
            let it : n ≡ x.made = eqb-true n x.made e in
            let q = sym (uncleared_at x) ∙ found_passes (is_uncleared_on p o) s.deaths x is in
            let there : list_any (λ y. (y.made == n) && at y) s.deaths ≡ true =
            found_any (is_uncleared_on p o) (λ y. (y.made == n) && at y) x (and_from _ _ (eq-eqb x.made n (sym it)) (and_parts (at x) (not x.cleared) q).0) s.deaths is in
            let goes : list_any (is_notification n) left ≡ false = ap (list_any (is_notification n)) (left_one x named is) ∙ subst (λ k. list_any (is_notification k) (filter (λ y. not (is_notification x.made y)) s.deaths) ≡ false) (sym it) (gone_any x.made) in
            rw (there, goes) refl
        by false e =
            let stays : list_any (is_notification n) left ≡ list_any (is_notification n) s.deaths =
            ap (list_any (is_notification n)) (left_one x named is) ∙ any_some (is_notification n) _
            ∙ ap is_some (find_stays (λ (y : DeathNotification). y.made) x.made n s.deaths (λ f. let k = eq-eqb n x.made (sym f) in absurd cc)) ∙ sym (any_some (is_notification n) s.deaths) in
            sym (rw stays (at_of n s.deaths))

    pub item_stays : (x : DeathNotification) → is_name_of s.names p o ≡ false → uncleared_in s.deaths p o ≡ Some x → (kind : WorkKind)
        → not (is_some_and (death_of kind) (λ n. n == x.made)) ≡ (not (is_touched (at_name p o) (λ i. false) s.deaths kind) || still_due s.processes s.objects s.references left kind)
    item_stays x named is (work.Notice i) = refl
    item_stays x named is (work.Complete spam) = refl
    item_stays x named is (work.Refusal r) = refl
    item_stays x named is (work.Call b) = refl
    item_stays x named is (work.Reply b) = refl
    item_stays x named is (work.Verdict r) = refl
    item_stays x named is (work.Death n) = death_stays x named is n
    item_stays x named is (work.Cleared c) = refl

    -- nothing goes with the name
    pub all_stay : None ≡ only_lost s p o → (n : ℕ) → true ≡ (not (list_any (λ y. (y.made == n) && at y) s.deaths) || list_any (is_notification n) left)
    all_stay none n = sym (ap (λ xs. not (list_any (λ y. (y.made == n) && at y) s.deaths) || list_any (is_notification n) xs) (left_lost None none) ∙ at_of n s.deaths)
