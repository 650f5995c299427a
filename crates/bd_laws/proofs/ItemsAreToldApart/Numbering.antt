-- For ItemsAreToldApart, which SpacesAreTidy has as a part: each step keeps the identities of work items apart.
use Rattle.bd_laws.proofs.words.Logic.{◌≡◌, ℕ, ◌==◌, Bool, true, false, cond, not, ◌&&◌, ◌||◌, List, [], ◌∷◌, refl, ap, sym, subst, ◌∙◌, filter, arith, eqb-true, eq-eqb, list_any}
use Rattle.bd_laws.proofs.words.Types.{WorkKind, Phase, Entry, Reference, Holder, Carried, Thread, Name, Work, DeathNotification, OfThread, OfProcess, Queued}
use Rattle.bd_laws.proofs.words.Space.{changed, seats_in, lists_in, lost_with_process, is_some_and, Space, opening, owned_in, objects_go, gives_name_to, buffer_of_holder, named, is_named_in, names_go, owe, is_on, hands_out, is_name_of, deaths_go, with_phase, is_notification, is_lost_with, is_lost_reference, threads_go, without_process, tell_death, tell_deaths, seat_of, is_armed, change, counted, next}
use Rattle.bd_space.specs.declared.space.WorkKind.TheVariants as work
use Rattle.bd_laws.proofs.words.Laws.{In, AtHome, Told, IsQuiet}
use Rattle.bd_laws.proofs.Lists.{in_filter, filter_in, in_map, any_found, any_in, fold_keeps}
use Rattle.bd_laws.proofs.Tests.{both, and_both, not_true, not_eq}
use Rattle.bd_laws.proofs.FollowingIsLocal.Left.{Left, threads_left, on_thread}
use Rattle.bd_laws.proofs.AtHome.HomesSent.{one_thread}
use Rattle.bd_laws.proofs.Machine.EveryStep.{every_step}
use Rattle.bd_laws.proofs.ItemsAreToldApart.Numbered.{Due, Mid, Owing, fewer_mid, owe_mid, step_owing}

-- ---- a process ends: each Death that this makes stays due

-- what tells of a notification stays due whatever its phase becomes
any_kept : (p keep : DeathNotification → Bool) (phase : Phase) (n : ℕ) (xs : List DeathNotification)
    → ((x : DeathNotification) → keep (record x { phase = phase }) ≡ keep x)
    → list_any (λ (x : DeathNotification). x.made == n) (filter keep (changed p (λ (x : DeathNotification). record x { phase = phase }) xs))
    ≡ list_any (λ (x : DeathNotification). x.made == n) (filter keep xs)
any_kept p keep phase n [] k = refl
any_kept p keep phase n (x ∷ xs) k = search (arith, any_kept p keep phase n xs k)

phase_due : (z : Space) (made : ℕ) (phase : Phase) (kind : WorkKind) → Due z kind → Due (with_phase z made phase) kind
unfolding with_phase deaths_go objects_go names_go
phase_due z made phase (work.Death n) h = any_kept (is_notification made) _ phase n z.deaths (λ x. refl) ∙ h
phase_due z made phase _ h = h

module _ (s : Space) (p : ℕ) (h : Told s) (quiet : IsQuiet s) (home : AtHome s) where
  abbrev pub threadless : Space
  threadless = threads_go s p

  abbrev pub rest : Space
  rest = without_process threadless p

  left : Left s (lost_with_process s p) (seats_in s p) (lists_in s p) threadless
  left = threads_left s p

  -- while p's threads go, other processes keep their references
  not_lost : (r : Reference) (q : ℕ) → (q ≡ p → ⊥) → In r s.references → gives_name_to q r.holder ≡ true → (seat : ℕ) → In seat (seats_in s p) → is_lost_reference s.todo (OfThread seat) r ≡ true → ⊥
  not_lost r q other l named seat at lost = holds r.holder refl named lost
    where
      carries : (b : ℕ) → r.holder ≡ Carried b q → is_lost_with s.todo (OfThread seat) b ≡ true → ⊥
      carries b is e =
          let w = any_found (λ (w : Work). is_on (OfThread seat) w && is_some_and (hands_out w.kind) (λ m. m == b)) s.todo e in
          let c = both (is_on (OfThread seat) w.0) (is_some_and (hands_out w.0.kind) (λ m. m == b)) w.2 in
          let i = home.home w.0 seat b w.1 (on_thread seat w.0.list c.0) (search (arith, eqb-true)) in
          let t = in_map seat_of seat (filter (λ (t : Thread). t.process == p) s.threads) at in
          let u = in_filter (λ (t : Thread). t.process == p) t.0 s.threads t.1 in
          let same_thread = one_thread s home t.0 i.0 u.0 i.1 (t.2 ∙ sym i.2) in
          other (sym (i.3 r q l is) ∙ ap (λ (y : Thread). y.process) (sym same_thread) ∙ eqb-true t.0.process p u.1)

      holds : (o : Holder) → r.holder ≡ o → gives_name_to q o ≡ true → is_some_and (buffer_of_holder o) (is_lost_with s.todo (OfThread seat)) ≡ true → ⊥
      holds (Carried b c) is e k = carries b (is ∙ ap (Carried b) (eqb-true c q e)) k
      holds _ is e k = search arith

  -- a reference of another process stays
  pub rest_references : (r : Reference) (q : ℕ) → (q ≡ p → ⊥) → gives_name_to q r.holder ≡ true → In r s.references → In r rest.references
  unfolding without_process
  rest_references r q other named l = search (arith, any_found, not_lost, filter_in, left, not_eq, eqb-true)

  -- another process's notification stands as before
  Stands : DeathNotification → Type 0
  Stands x = (x.cleared || is_name_of (filter (λ (m : Name). is_named_in rest.objects rest.references m.process m.object) rest.names) x.process x.object) ≡ true

  stands : (x : DeathNotification) → In x rest.deaths → Stands x
  unfolding without_process Stands
  stands x l =
      let i = in_filter (λ (x : DeathNotification). not (x.process == p)) x threadless.deaths l in
      let other : (x.process ≡ p → ⊥) = λ e. (let yes = eq-eqb x.process p e in let no = not_true (x.process == p) i.1 in cc) in
      let was = quiet.followed.deaths x (subst (In x) left.deaths i.0) refl in
      search (arith, any_found, any_in, eqb-true, filter_in, left.names, left.objects, not_eq, and_both, rest_references)

  -- so what tells of it is due, while all are told
  record Telling (z : Space) : Type 0 where
    mid : Mid s.steps z
    stand : (x : DeathNotification) → In x rest.deaths → Due z (work.Death x.made)

  tells : (z : Space) (x : DeathNotification) → In x rest.deaths → Telling z → Telling (tell_death p z x)
  unfolding with_phase owe deaths_go objects_go names_go
  tells z x l k = at (is_armed x.phase && owned_in z.objects p x.object)
    where
      at : (b : Bool) → Telling (cond b (owe (with_phase z x.made Queued) (OfProcess x.process) (work.Death x.made)) z)
      at false = k
      at true = search (arith, owe_mid, phase_due, k.stand, k.mid.steps, k.mid.items.numbered, k.mid.items.due)

  ends_mid : Mid s.steps (tell_deaths rest p)
  unfolding tell_deaths without_process deaths_go objects_go names_go Stands
  ends_mid =
      (fold_keeps Telling (tell_death p) rest.deaths (λ z x l. tells z x l) rest (record {
        mid = fewer_mid s rest h left.steps (λ w l. left.less w (in_filter (λ (w : Work). not (is_on (OfProcess p) w)) w threadless.todo l).0);
        stand = λ x l. any_in (λ (d : DeathNotification). d.made == x.made) x _ (filter_in _ x rest.deaths l (stands x l)) (eq-eqb x.made x.made refl);
      })).mid

changed_owing : (s : Space) (e : Entry) → Told s → IsQuiet s → AtHome s → Owing s.steps (change s e.seat e.step).space
changed_owing s e h quiet home = every_step s e.seat e.step (Mid s.steps) (Owing s.steps) (step_owing s e.seat e.step h quiet (λ p. ends_mid s p h quiet home))

pub next_told : (s : Space) (e : Entry) → Told s → IsQuiet s → AtHome s → Told (next s e)
unfolding counted
next_told s e h quiet home =
    let k = changed_owing s e h quiet home in
    record { fresh = λ w l. (let le = k.todo.below w l in let is = k.steps in omega arith); distinct = k.todo.distinct }

pub opening_told : Told opening
opening_told = record { fresh = λ w l. absurd l; distinct = λ v w l m same. absurd l }
