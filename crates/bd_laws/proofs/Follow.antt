-- FollowingIsLocal: with nothing pending elsewhere, a look at what was touched does all that follows.
use Rattle.bd_laws.proofs.words.Logic.{arith, ◌≡◌, ℕ, ◌==◌, Bool, true, false, cond, not, ◌&&◌, ◌||◌, List, [], ◌∷◌, inl, inr, refl, ap, sym, subst, ◌∙◌, filter, find, list_any, fold, eqb-true}
use Rattle.bd_laws.proofs.words.Types.{Identity, Object, DeathNotification, Work, WorkKind, OfProcess}
use Rattle.bd_laws.proofs.words.Space.{is_some_and, Space, object_in, objects_go, names_go, wants_notice, has_notice_in, with_notice, still_due, deaths_go, work_goes, notify, follow, NameTest, ObjectTest, names_go_of, objects_go_of, deaths_go_of, is_touched, work_goes_of, notify_of, follow_of}
use Rattle.bd_space.specs.declared.space.WorkKind.TheVariants as work
use Rattle.bd_laws.proofs.words.Laws.{In, Elsewhere}
use Rattle.bd_laws.proofs.Lists.{in_left, in_filter, filter_in, any_found, any_in}
use Rattle.bd_laws.proofs.Tests.{same_eq}

-- ---- lists

module _ {A : Type 0} where
  pub filter_same : (p q : A → Bool) (xs : List A) → ((x : A) → In x xs → p x ≡ q x) → filter p xs ≡ filter q xs
  filter_same p q [] h = refl
  filter_same p q (x ∷ xs) h = search (arith, filter_same p q xs (λ y l. h y (inr l)))

  pub find_kept : (p q : A → Bool) (xs : List A) → ((x : A) → In x xs → p x ≡ true → q x ≡ true) → find p (filter q xs) ≡ find p xs
  find_kept p q [] h = refl
  find_kept p q (x ∷ xs) h = search (arith, find_kept p q xs (λ y l. h y (inr l)))

pub or_not : (t c : Bool) → (t ≡ false → c ≡ true) → c ≡ (not t || c)
or_not t c h = search arith

-- ---- what isn't pending

module _ (a : NameTest) (b : ObjectTest) (z : Space) (h : Elsewhere a b z) where
  -- ---- work items

  here : Space
  here = deaths_go_of a (objects_go_of b (names_go_of a z))

  due_notice : (o : Identity) → b o ≡ false → is_some_and (object_in z.objects o) (wants_notice z.processes z.references) ≡ true
      → is_some_and (object_in here.objects o) (wants_notice here.processes here.references) ≡ true
  unfolding here deaths_go_of objects_go_of names_go_of
  due_notice o none k = search (arith, find_kept)

  due_death : (n : ℕ) → list_any (λ (x : DeathNotification). (x.made == n) && a x.process x.object) z.deaths ≡ false → list_any (λ (x : DeathNotification). x.made == n) z.deaths ≡ true
      → list_any (λ (x : DeathNotification). x.made == n) here.deaths ≡ true
  unfolding here deaths_go_of objects_go_of names_go_of
  due_death n none some = search (arith, any_found, any_in, filter_in)

  due : (w : Work) (kind : WorkKind) → In w z.todo → w.kind ≡ kind → is_touched a b z.deaths kind ≡ false
      → still_due here.processes here.objects here.references here.deaths kind ≡ true
  due w (work.Notice o) l e none = due_notice o none (h.notices w o l e none)
  due w (work.Death n) l e none = due_death n none (h.tellings w n l e)
  due w _ l e none = refl

  here_todo : here.todo ≡ z.todo
  unfolding here deaths_go_of objects_go_of names_go_of
  here_todo = search arith

  work_local : work_goes here ≡ work_goes_of a b z.deaths here
  unfolding work_goes work_goes_of
  work_local =
      ap (λ (ws : List Work). let x : Space = record here { todo = ws } in x)
      (filter_same _ _ here.todo
      (λ w l. or_not (is_touched a b z.deaths w.kind) (still_due here.processes here.objects here.references here.deaths w.kind) (λ none. due w w.kind (subst (In w) here_todo l) refl none)))

  -- ---- Notices

  there : Space
  there = work_goes_of a b z.deaths here

  standing : (o : Identity) → b o ≡ false → has_notice_in z.todo o ≡ true → has_notice_in there.todo o ≡ true
  unfolding there work_goes_of here deaths_go_of objects_go_of names_go_of
  standing o none has = search (arith, any_found, any_in, filter_in)

  tell : List Work → Object → List Work
  tell todo x = with_notice z.steps z.processes z.references (OfProcess x.owner) todo x

  -- each untouched object that wants a Notice has one
  abbrev AllMade : List Work → Type 0
  AllMade todo = (x : Object) → In x z.objects → b x.id ≡ false → wants_notice z.processes z.references x ≡ true → has_notice_in todo x.id ≡ true

  told_at : (x : Object) (xs : List Object) (todo : List Work) (c : Bool) → b x.id ≡ c → In x z.objects → AllMade todo
      → ((ws : List Work) → AllMade ws → fold tell ws xs ≡ fold tell ws (filter (λ y. b y.id) xs))
      → fold tell (tell todo x) xs ≡ fold tell todo (cond c (x ∷ filter (λ y. b y.id) xs) (filter (λ y. b y.id) xs))
  unfolding tell
  told_at x xs todo c e l k rest = search (arith, any_found, any_in, in_left)

  told : (xs : List Object) (todo : List Work) → ((x : Object) → In x xs → In x z.objects) → AllMade todo → fold tell todo xs ≡ fold tell todo (filter (λ x. b x.id) xs)
  told [] todo i k = refl
  told (x ∷ xs) todo i k = told_at x xs todo (b x.id) refl (i x (inl refl)) k (λ ws m. told xs ws (λ y l. i y (inr l)) m)

  there_objects : (x : Object) → In x there.objects → In x z.objects
  unfolding there work_goes_of here deaths_go_of objects_go_of names_go_of
  there_objects x l = search (arith, in_filter)

  all_made : AllMade there.todo
  all_made x l none wants = search (arith, standing)

  notify_local : notify there ≡ notify_of b there
  unfolding deaths_go_of here names_go_of notify objects_go_of tell there work_goes_of notify_of
  notify_local =
      search (arith, tell)
      ∙ ap (λ (ws : List Work). let x : Space = record there { todo = ws } in x) (told there.objects there.todo there_objects all_made)
      ∙ sym (search (arith, tell))

  -- what follows, follows where something was touched
  pub follow_local : follow z ≡ follow_of a b z
  unfolding follow follow_of there here objects_go_of names_go_of names_go objects_go deaths_go deaths_go_of
  follow_local = search (arith, filter_same, any_found, eqb-true, same_eq, any_in, filter_in, work_local, notify_local)
