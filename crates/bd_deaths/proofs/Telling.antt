-- Notifications that are told, one after the other.
use Rattle.bd_deaths.proofs.Words.{Bool, DeathNotification, List, Object, Queued, ap, changed, cond, is_due, is_due_at, is_notification, list_any, refl, ℕ, ◌&&◌, ◌∙◌, ◌∷◌, ◌≡◌}
use Rattle.bd_deaths.proofs.Tests.{guarded, twice}

module _ (objects : List Object) (p : ℕ) where
  abbrev pub queued : DeathNotification → DeathNotification
  queued x = record x { phase = Queued }

  -- one of these is due, of this place
  abbrev pub told_at : List DeathNotification → ℕ → Bool
  told_at l m = list_any (is_due_at objects p m) l

  -- ---- one notification after the other

  abbrev pub told_by : List DeathNotification → DeathNotification → Bool
  told_by xs y = told_at xs y.made

  -- what one notification does to the list
  abbrev pub told : DeathNotification → List DeathNotification → List DeathNotification
  told x ys = cond (is_due objects p x) (changed (is_notification x.made) queued ys) ys

  pub told_more : (x : DeathNotification) (xs ys : List DeathNotification) → changed (told_by xs) queued (told x ys) ≡ changed (told_by (x ∷ xs)) queued ys
  told_more x xs ys =
      ap (λ zs. changed (told_by xs) queued zs) (guarded queued (is_notification x.made) ys (is_due objects p x))
      ∙ twice queued (told_by xs) (λ y. is_due objects p x && is_notification x.made y) ys (λ y. refl) (λ y. refl)
