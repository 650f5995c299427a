-- For the engine, by FollowingIsLocal: after the end of a process it is enough to look at what it touched.
use Rattle.bd_laws.proofs.words.Logic.{arith, ◌≡◌, ℕ, ◌==◌, Bool, true, false, cond, not, ◌&&◌, ◌||◌, List, [], ◌∷◌, length, ◌⊎◌, inl, inr, refl, ap, sym, subst, ◌∙◌, list_any, eqb-true, eq-eqb}
use Rattle.bd_laws.proofs.words.Types.{Identity, Object, Reference, Name, Frame, DeathNotification, Queued, Work, TodoList, OfThread, OfProcess}
use Rattle.bd_laws.proofs.words.Space.{changed, Space, lives_in, owned_in, owe, is_on, same_list, is_name_of, follow, settle, is_notification, with_phase, thread_goes, is_lost_reference, is_unread_on, unread_frame, threads_go, without_process, tell_death, tell_deaths, is_armed, is_dropped_with, ObjectTest, no_name, follow_of, close_among, left_objects, seats_in, lists_in, lost_with_process, objects_ended, frames_ended}
use Rattle.bd_space.specs.declared.space.WorkKind.TheVariants as work
use Rattle.bd_laws.proofs.words.Laws.{In, IsTidy, IsFramed}
use Rattle.bd_laws.proofs.Lists.{in_left, in_push, in_filter, filter_in, map_in, in_changed, any_found, any_in, fold_keeps}
use Rattle.bd_laws.proofs.Tests.{both, and_both, neither, not_true, or_right, to_false}
use Rattle.bd_laws.proofs.Machine.Deaths.{KeptOnDeaths, on_told, tell_deaths_aside}
use Rattle.bd_laws.proofs.Machine.Untouched.{tell_deaths_untouched}
use Rattle.bd_laws.proofs.Follow.{follow_local}
use Rattle.bd_laws.proofs.Fewer.{any_filtered}
use Rattle.bd_laws.proofs.ItemsAreToldApart.Numbering.{rest_references}
use Rattle.bd_laws.proofs.IsQueued.Queueing.{sits_on}
use Rattle.bd_laws.proofs.Abandoned.{OneEach}
use Rattle.bd_laws.proofs.Framing.{Keeping, framed_table, framed_exits, one_each_framed}
use Rattle.bd_laws.proofs.Machine.Table.{Any, ended_by}
use Rattle.bd_laws.proofs.FollowingIsLocal.Closings.{Covered, settle_among}
use Rattle.bd_laws.proofs.Leaving.{Parts, parts_elsewhere, elsewhere_more, untouched_reference, untouched_notice}
use Rattle.bd_laws.proofs.FollowingIsLocal.Left.{Left, left_none, left_step, AllWent, went_map, unread_or, cover_unread, abandoned_touched}
use Rattle.bd_laws.proofs.Machine.Fields.{follow_of_frames as follow_frames}

-- ---- what telling of deaths adds

told_notices : (y : Space) → KeptOnDeaths (λ z. (w : Work) (o : Identity) → In w z.todo → w.kind ≡ work.Notice o → In w y.todo)
unfolding owe
told_notices y = record {
  others = λ z ds h. h;
  dies = λ z p made h w o l e. elim (in_push w _ z.todo l) [ inl i ↦ h w o i e | inr is ↦ (let no : work.Death made ≡ work.Notice o = ap (λ (v : Work). v.kind) is ∙ e in absurd (cc)) ];
  clears = λ z t cookie h w o l e. elim (in_push w _ z.todo l) [ inl i ↦ h w o i e | inr is ↦ (let no : work.Cleared cookie ≡ work.Notice o = ap (λ (v : Work). v.kind) is ∙ e in absurd (cc)) ];
}

told_more : (y : Space) → KeptOnDeaths (λ z. (w : Work) → In w y.todo → In w z.todo)
unfolding owe
told_more y = search (arith, in_left)

-- The two notifications differ in their phases at most.
abbrev Same : DeathNotification → DeathNotification → Type 0
Same x y = (let z : DeathNotification = record y { phase = x.phase } in z) ≡ x

-- only phases differ from the notifications before, and each Death item keeps its own
record Telling (w : Space) (z : Space) : Type 0 where
  from : (y : DeathNotification) → In y z.deaths → (x : DeathNotification) × In x w.deaths × Same x y
  to : (x : DeathNotification) → In x w.deaths → list_any (λ (y : DeathNotification). y.made == x.made) z.deaths ≡ true
  items : (v : Work) (n : ℕ) → In v z.todo → v.kind ≡ work.Death n → In v w.todo ⊎ ((x : DeathNotification) × In x w.deaths × (x.made ≡ n))

any_made : (n : ℕ) (p : DeathNotification → Bool) (xs : List DeathNotification) → list_any (λ (y : DeathNotification). y.made == n) xs ≡ true
    → list_any (λ (y : DeathNotification). y.made == n) (changed p (λ y. record y { phase = Queued }) xs) ≡ true
any_made n p [] h = h
any_made n p (x ∷ xs) h = search (arith, any_made n p xs)

tells_one : (w : Space) (p : ℕ) (z : Space) (x : DeathNotification) → In x w.deaths → Telling w z → Telling w (tell_death p z x)
unfolding with_phase owe
tells_one w p z x l k = at (is_armed x.phase && owned_in z.objects p x.object)
  where
    at : (b : Bool) → Telling w (cond b (owe (with_phase z x.made Queued) (OfProcess x.process) (work.Death x.made)) z)
    at false = k
    at true = record {
      from = λ y m.
          let u = in_changed (is_notification x.made) (λ (y : DeathNotification). record y { phase = Queued }) y z.deaths m in
          let v = k.from u.0 u.1 in
          (v.0, v.1, subst (Same v.0) (sym u.2) (search arith));
      to = λ u m. any_made u.made (is_notification x.made) z.deaths (k.to u m);
      items = λ v n m e. elim (in_push v _ z.todo m) [
        | inl i ↦ k.items v n i e
        | inr is ↦ (let kinds : work.Death x.made ≡ work.Death n = ap (λ (y : Work). y.kind) is ∙ e in let same_made : x.made ≡ n = cc in inr (x, l, same_made))
      ];
    }

all_tell : (w : Space) (p : ℕ) → Telling w (tell_deaths w p)
unfolding tell_deaths
all_tell w p = fold_keeps (Telling w) (tell_death p) w.deaths (λ z x l k. tells_one w p z x l k) w (record {
  from = λ y l. (y, l, refl);
  to = λ x l. any_in (λ (y : DeathNotification). y.made == x.made) x w.deaths l (eq-eqb x.made x.made refl);
  items = λ v n l e. inl l;
})

-- ---- the threads, and then the process

module _ (s : Space) (p : ℕ) (h : IsTidy s) where
  abbrev gone : Reference → Bool
  gone = lost_with_process s p

  abbrev seats : List ℕ
  seats = seats_in s p

  abbrev lists : List TodoList
  lists = lists_in s p

  abbrev threadless : Space
  threadless = threads_go s p

  abbrev rest : Space
  rest = without_process threadless p

  abbrev ended : Space
  ended = tell_deaths rest p

  left : Left s gone seats lists threadless
  unfolding threads_go
  left = fold_keeps (Left s gone seats lists) thread_goes seats (λ z seat i k.
      left_step s gone seats lists z seat i (inr (map_in (λ t. OfThread t) seat seats i))
      (λ r e. or_right (is_dropped_with s.objects p r) _ (any_in (λ t. is_lost_reference s.todo (OfThread t) r) seat seats i e)) k) s (left_none s gone seats lists)

  rest_names : (m : Name) → In m rest.names → In m s.names × (m.process ≡ p → ⊥)
  unfolding without_process
  rest_names m l = search (arith, in_filter, left)

  rest_objects : rest.objects ≡ s.objects
  unfolding without_process
  rest_objects = search (arith, left)

  rest_lives : (q : ℕ) → (q ≡ p → ⊥) → lives_in rest.processes q ≡ lives_in s.processes q
  unfolding without_process
  rest_lives q other = search (arith, any_filtered, eqb-true, left)

  rest_fewer : (r : Reference) → In r rest.references → In r s.references
  unfolding without_process
  rest_fewer r l = left.fewer r (in_filter (λ (r : Reference). not (is_dropped_with threadless.objects p r)) r threadless.references l).0

  rest_stay : (r : Reference) → In r s.references → gone r ≡ false → In r rest.references
  unfolding without_process
  rest_stay r l none = search (arith, filter_in, left)

  rest_less : (w : Work) → In w rest.todo → In w s.todo × (is_on (OfProcess p) w ≡ false)
  unfolding without_process
  rest_less w l = let i = in_filter (λ (w : Work). not (is_on (OfProcess p) w)) w threadless.todo l in (left.less w i.0, not_true _ i.1)

  rest_more : (w : Work) → In w s.todo → list_any (λ (l : TodoList). is_on l w) lists ≡ false → In w rest.todo
  unfolding without_process
  rest_more w l none = search (arith, filter_in, left)

  rest_deaths : (x : DeathNotification) → In x rest.deaths → In x s.deaths × (x.process ≡ p → ⊥)
  unfolding without_process
  rest_deaths x l = search (arith, in_filter, left)

  deaths_rest : (x : DeathNotification) → In x s.deaths → (x.process ≡ p → ⊥) → In x rest.deaths
  unfolding without_process
  deaths_rest x l other = search (arith, filter_in, left)

  rest_frames : AllWent (frames_ended s p) s.frames rest.frames
  unfolding without_process
  rest_frames =
      went_map (frames_ended s p) s.frames threadless.frames (unread_frame threadless.todo (OfProcess p)) left.frames (λ g. refl) (λ g. refl)
      (λ f g l i made server. elim (unread_or threadless.todo (OfProcess p) g.made g.server) [
        | inl e ↦ inl e
        | inr e ↦ inr (cover_unread s gone seats lists threadless (OfProcess p) f (inl refl) left.less l (ap (is_unread_on threadless.todo (OfProcess p)) (sym made) ∙ e))
      ])

  unowned : (x : Object) → In x s.objects → objects_ended s p x.id ≡ false → x.owner ≡ p → ⊥
  unowned x l none e = search (arith, any_in, and_both)

  unleft : (o : Identity) → objects_ended s p o ≡ false → left_objects gone lists s o ≡ false
  unleft o none = search (arith, neither)

  -- where a notification goes, so does its item: both are the process's
  still_told : (w : Work) (n : ℕ) → In w rest.todo → w.kind ≡ work.Death n → list_any (λ (y : DeathNotification). y.made == n) ended.deaths ≡ true
  still_told w n l e =
      let i = rest_less w l in
      let x = any_found (λ (x : DeathNotification). x.made == n) s.deaths (h.quiet.followed.tellings w n i.0 e) in
      let made : x.0.made ≡ n = eqb-true x.0.made n x.2 in
      let on = sits_on s h.queued w x.0 i.0 x.1 (e ∙ ap work.Death (sym made)) in
      subst (λ m. list_any (λ (y : DeathNotification). y.made == m) ended.deaths ≡ true) made ((all_tell rest p).to x.0 (deaths_rest x.0 x.1 (λ is.
      let here : is_on (OfProcess p) w ≡ true = ap (same_list (OfProcess p)) on ∙ eq-eqb p x.0.process (sym is) in
      let not_here = i.1 in cc)))

  pub ended_parts : Parts no_name (objects_ended s p) s ended
  unfolding without_process
  ended_parts =
      let u = tell_deaths_untouched rest p in
      let told = all_tell rest p in
      record {
        names = λ m l. (rest_names m (subst (In m) u.names l)).0;
        objects = u.objects ∙ rest_objects;
        owners = λ x l none. ap (λ ps. lives_in ps x.owner) u.processes ∙ rest_lives x.owner (unowned x l none);
        fewer = λ r l. rest_fewer r (subst (In r) u.references l);
        stay = λ r l none. subst (In r) (sym u.references) (rest_stay r l (untouched_reference s gone lists r l (unleft r.object none)));
        named = λ m l none r i at for.
            subst (In r) (sym u.references) (rest_references s p h.told h.quiet h.home r m.process (rest_names m (subst (In m) u.names l)).1 for i);
        less = λ w o l e. (rest_less w (on_told _ (told_notices rest) rest p (λ v i m f. m) w o l e)).0;
        more = λ w o l e none. on_told _ (told_more rest) rest p (λ v m. m) w (rest_more w l (untouched_notice s gone lists w o l e (unleft o none)));
        deaths = λ d l none.
            let x = told.from d l in
            let i = rest_deaths x.0 x.1 in
            ap (λ (y : DeathNotification). y.cleared || is_name_of ended.names y.process y.object) x.2
            ∙ ap (λ ns. x.0.cleared || is_name_of ns x.0.process x.0.object) u.names
            ∙ ap (λ c. x.0.cleared || c) (search (arith, any_filtered, to_false, eqb-true, both, left))
            ∙ h.quiet.followed.deaths x.0 i.0 refl;
        tellings = λ w n l e. elim (told.items w n l e) [
          | inl i ↦ still_told w n i e
          | inr x ↦ subst (λ m. list_any (λ (y : DeathNotification). y.made == m) ended.deaths ≡ true) x.2 (told.to x.0 x.1)
        ];
      }

  -- Of ExitProcess: other processes keep their names. Where its own objects, those of the lists and references that it loses,
  -- and its threads' frames are looked at, nothing else has to be
  pub ending_local : (b : ObjectTest) (c : ℕ → Bool) → ((o : Identity) → objects_ended s p o ≡ true → b o ≡ true) → ((m : ℕ) → frames_ended s p m ≡ true → c m ≡ true)
      → settle (follow ended) ≡ close_among (length ended.frames) c (follow_of no_name b ended)
  unfolding IsFramed
  ending_local b c objects among =
      let y = follow_of no_name b ended in
      let same_frames = follow_frames no_name b ended in
      let one : OneEach ended.frames = one_each_framed s.steps ended.frames (ended_by Keeping Any framed_table framed_exits s p s.steps h.framed) in
      let aside = (tell_deaths_aside rest p).frames in
      let covered : Covered c ended.frames = subst (Covered c) (sym aside) (λ f l e. among f.made (abandoned_touched (frames_ended s p) s.frames rest.frames h.quiet.settled rest_frames f l e)) in
      let quiet = elsewhere_more no_name no_name (objects_ended s p) b ended (λ q o e. e) objects (parts_elsewhere no_name (objects_ended s p) s ended h.quiet.followed ended_parts) in
      ap settle (follow_local no_name b ended quiet)
      ∙ settle_among c y (subst OneEach (sym same_frames) one) (subst (Covered c) (sym same_frames) covered)
      ∙ ap (λ (fs : List Frame). close_among (length fs) c y) same_frames
