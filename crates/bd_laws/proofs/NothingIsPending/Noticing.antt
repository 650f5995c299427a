-- For SpacesAreTidy: at most one Notice of an object is due. NothingIsPending uses `follow-wanted`, and as nothing is pending, a
-- Notice is due only while its object's owner lives.
use Rattle.bd_laws.proofs.words.Logic.{arith, ◌≡◌, ℕ, true, List, Option, Some, None, inl, inr, refl, ap, sym, subst}
use Rattle.bd_laws.proofs.words.Types.{Identity, Step, Entry, Process, Object, Reference, DeathNotification, Work, WorkKind, TodoList}
use Rattle.bd_laws.proofs.words.Space.{same, is_some_and, Space, lives_in, object_in, objects_go, names_go, with_work, owe, is_notice, notice_of, wants_notice, still_due, work_goes, deaths_go, notify, follow, read_by, counted, next}
use Rattle.bd_space.specs.declared.space.WorkKind.TheVariants as work
use Rattle.bd_laws.proofs.words.Laws.{In, Apart, Once, IsQuiet}
use Rattle.bd_laws.proofs.Lists.{in_push, in_filter, any_in, find_in, pairs_filter, pairs_push}
use Rattle.bd_laws.proofs.Tests.{both, same_eq, eq_same, notice_named}
use Rattle.bd_laws.proofs.Machine.EveryStep.{Keeps, every_step}
use Rattle.bd_laws.proofs.Machine.Deaths.{KeptOnDeaths, on_kept, on_told, on_commands}
use Rattle.bd_laws.proofs.Machine.Adding.{notify_keeps}
use Rattle.bd_laws.proofs.NothingIsPending.PlainItems.{Loose, keeps_says}

abbrev OnceIn : Space → Type 0
OnceIn z = Once z.todo

-- ---- work items that come and go

pub notice_is : (kind : WorkKind) (o : Identity) → notice_of kind ≡ Some o → is_notice o kind ≡ true
notice_is kind o e = subst (λ k. is_notice o k ≡ true) (sym (notice_named kind o e)) (eq_same o o refl)

once_other : (place : ℕ) (todo : List Work) (list : TodoList) (kind : WorkKind) → notice_of kind ≡ None → Once todo → Once (with_work place todo list kind)
once_other place todo list kind none h = pairs_push Apart _ todo h (λ w l o e f. absurd (cc))

-- a Notice comes where it was missing
loose_once : Loose (λ todo deaths. Once todo)
loose_once = search (arith, pairs_filter, pairs_push, any_in, notice_is)

once_on_deaths : KeptOnDeaths OnceIn
unfolding owe
once_on_deaths = search (arith, once_other)

keeps_once : (s : Space) (seat : ℕ) (x : Step) → Once s.todo → Keeps s seat x OnceIn OnceIn
unfolding read_by
keeps_once s seat x h =
    keeps_says (λ todo deaths. Once todo) loose_once s seat x h (on_commands s OnceIn (on_kept OnceIn once_on_deaths s h)) (λ a left. pairs_filter Apart _ s.todo h) (on_told OnceIn once_on_deaths)

pub next_once : (s : Space) (e : Entry) → Once s.todo → Once (next s e).todo
unfolding counted
next_once s e h = every_step s e.seat e.step OnceIn OnceIn (keeps_once s e.seat e.step h)

-- ---- what follows

-- each Notice's object is here, and is to be told
abbrev pub Wanted : List Process → List Reference → List Object → List Work → Type 0
Wanted processes references objects todo =
    (w : Work) (o : Identity) → In w todo → notice_of w.kind ≡ Some o → (x : Object) × In x objects × (x.id ≡ o) × (wants_notice processes references x ≡ true)

wanted_object : (processes : List Process) (objects : List Object) (references : List Reference) (o : Identity)
    → is_some_and (object_in objects o) (wants_notice processes references) ≡ true → (x : Object) × In x objects × (x.id ≡ o) × (wants_notice processes references x ≡ true)
wanted_object processes objects references o h = at (object_in objects o) refl h
  where
    at : (f : Option Object) → object_in objects o ≡ f → is_some_and f (wants_notice processes references) ≡ true → (x : Object) × In x objects × (x.id ≡ o) × (wants_notice processes references x ≡ true)
    at None g k = absurd (cc)
    at (Some x) g k = let l = find_in (λ (y : Object). same y.id o) x objects g in (x, l.0, same_eq x.id o l.1, k)

due_wanted : (processes : List Process) (objects : List Object) (references : List Reference) (deaths : List DeathNotification) (kind : WorkKind) (o : Identity)
    → notice_of kind ≡ Some o → still_due processes objects references deaths kind ≡ true → (x : Object) × In x objects × (x.id ≡ o) × (wants_notice processes references x ≡ true)
due_wanted processes objects references deaths kind o e h =
    wanted_object processes objects references o (subst (λ k. still_due processes objects references deaths k ≡ true) (notice_named kind o e) h)

pub follow_wanted : (z : Space) → Wanted (follow z).processes (follow z).references (follow z).objects (follow z).todo
unfolding follow notify work_goes
follow_wanted z =
    let y = deaths_go (objects_go (names_go z)) in
    notify_keeps (Wanted y.processes y.references y.objects) (work_goes y) (λ todo x i due k w o l e. elim (in_push w _ todo l) [
      | inl j ↦ k w o j e
      | inr is ↦ (
          let same_kind : notice_of (work.Notice x.id) ≡ notice_of w.kind = ap (λ (v : Work). notice_of v.kind) is in
          (x, i, cc, due.0))
    ]) (λ w o l e.
    due_wanted y.processes y.objects y.references y.deaths w.kind o e (in_filter (λ (w : Work). still_due y.processes y.objects y.references y.deaths w.kind) w y.todo l).1)

-- ---- where nothing is pending

-- each Notice's object is there, and its owner lives
abbrev pub Live : Space → Type 0
Live z = (w : Work) (o : Identity) → In w z.todo → notice_of w.kind ≡ Some o → (x : Object) × In x z.objects × (x.id ≡ o) × (lives_in z.processes x.owner ≡ true)

pub quiet_live : (z : Space) → IsQuiet z → Live z
quiet_live z h w o l e =
    let x = wanted_object z.processes z.objects z.references o (h.followed.notices w o l (notice_named w.kind o e) refl) in (x.0, x.1, x.2, (both _ _ x.3).0)
