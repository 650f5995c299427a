-- The space after the end of a process was told, by one death notification after the other.
use Rattle.bd_objects.proofs.Words.{Bool, Death, DeathNotification, List, Object, OfProcess, Queued, Space, [], ap, changed, cond, false, fold, is_armed, is_notification, none, owe, owned_in, queued, refl, subst, sym, tell_death, told, told_by}
use Rattle.bd_objects.proofs.Words.{told_more, true, with_phase, ℕ, ◌&&◌, ◌∙◌, ◌∷◌, ◌≡◌}

-- the members that telling leaves alone, and the notifications
pub record Told (s t : Space) (deaths : List DeathNotification) : Type 0 where
  pub objects_are : t.objects ≡ s.objects
  pub references_are : t.references ≡ s.references
  pub names_are : t.names ≡ s.names
  pub deaths_are : t.deaths ≡ deaths

module _ (objects : List Object) (p : ℕ) where
  Told_case : (s : Space) (x : DeathNotification) (b : Bool)
      → Told s (cond b (owe (with_phase s x.made Queued) (OfProcess x.process) (Death x.made)) s) (cond b (changed (is_notification x.made) (queued objects p) s.deaths) s.deaths)
  unfolding owe with_phase
  Told_case s x true = record { objects_are = refl; references_are = refl; names_are = refl; deaths_are = refl }
  Told_case s x false = record { objects_are = refl; references_are = refl; names_are = refl; deaths_are = refl }

  Told_one : (s : Space) (x : DeathNotification) → s.objects ≡ objects → Told s (tell_death p s x) (told objects p x s.deaths)
  Told_one s x e =
      let at = λ (os : List Object). Told s (tell_death p s x) (cond (is_armed x.phase && owned_in os p x.object) (changed (is_notification x.made) (queued objects p) s.deaths) s.deaths) in
      subst at e (Told_case s x (is_armed x.phase && owned_in s.objects p x.object))

  pub Told_all : (xs : List DeathNotification) (s : Space) → s.objects ≡ objects → Told s (fold (tell_death p) s xs) (changed (told_by objects p xs) (queued objects p) s.deaths)
  Told_all [] s e = record { objects_are = refl; references_are = refl; names_are = refl; deaths_are = sym (none (queued objects p) (λ y. false) s.deaths (λ y. refl)) }
  Told_all (x ∷ xs) s e =
      let one = Told_one s x e in
      let rest = Told_all xs (tell_death p s x) (one.objects_are ∙ e) in
      record {
        objects_are = rest.objects_are ∙ one.objects_are;
        references_are = rest.references_are ∙ one.references_are;
        names_are = rest.names_are ∙ one.names_are;
        deaths_are = rest.deaths_are ∙ ap (λ ys. changed (told_by objects p xs) (queued objects p) ys) one.deaths_are ∙ told_more objects p x xs s.deaths;
      }
