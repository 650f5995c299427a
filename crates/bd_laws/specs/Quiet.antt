-- Nothing is pending: what follows a change has nothing left to do.
use Rattle.std.specs.Prelude.{◌≡◌, ℕ, ◌==◌, true, false, ◌||◌, List, [], ◌∷◌, ◌++◌, None, find}
use Rattle.bd_ways.specs.Words.{list_any, Identity, Object, Name, DeathNotification, Work, Turn, Frame, is_some_and, Space}
use Rattle.bd_space.specs.declared.space.WorkKind.TheVariants as work
use Rattle.bd_space.specs.References.{object_in, stays_in}
use Rattle.bd_space.specs.Names.{is_named_in}
use Rattle.bd_space.specs.Notices.{wants_notice, has_notice_in, is_name_of}
use Rattle.bd_space.specs.Turns.{is_ripe, turns_of}
use Rattle.bd_space.specs.Settle.{is_abandoned}
use Rattle.bd_ways.specs.Local.{NameTest, ObjectTest}
use Rattle.bd_laws.specs.Lists.{In, Pairs}
use Rattle.bd_laws.specs.Objects.{Differ}

-- Of names and objects that neither test passes nothing is left to do: names rest on references, objects stay, notifications are
-- cleared or have their names, Notices stand exactly where they are wanted. Each Death item has its notification.
pub record Elsewhere (a : NameTest) (b : ObjectTest) (z : Space) : Type 0 where
  pub names : (m : Name) → In m z.names → a m.process m.object ≡ false → is_named_in z.objects z.references m.process m.object ≡ true
  pub objects : (x : Object) → In x z.objects → b x.id ≡ false → stays_in z.processes z.references x ≡ true
  pub deaths : (d : DeathNotification) → In d z.deaths → a d.process d.object ≡ false → (d.cleared || is_name_of z.names d.process d.object) ≡ true
  pub notices : (w : Work) (o : Identity) → In w z.todo → w.kind ≡ work.Notice o → b o ≡ false → is_some_and (object_in z.objects o) (wants_notice z.processes z.references) ≡ true
  pub tellings : (w : Work) (n : ℕ) → In w z.todo → w.kind ≡ work.Death n → list_any (λ (x : DeathNotification). x.made == n) z.deaths ≡ true
  pub made : (x : Object) → In x z.objects → b x.id ≡ false → wants_notice z.processes z.references x ≡ true → has_notice_in z.todo x.id ≡ true

-- Of no name and of no object is anything left to do, nor of any notification or Notice.
abbrev pub IsFollowed : Space → Type 0
IsFollowed z = Elsewhere (λ p o. false) (λ o. false) z

-- none of these calls is ripe, after the older ones
abbrev pub NoneRipe : List Work → List Turn → List Turn → Type 0
NoneRipe todo older [] = Unit {0}
NoneRipe todo older (t ∷ ts) = (is_ripe todo older t ≡ false) × NoneRipe todo (older ++ t ∷ []) ts

-- none of the frames is abandoned
abbrev pub IsSettled : List Frame → Type 0
IsSettled frames = find (is_abandoned frames) frames ≡ None

-- Nothing is pending: what follows a step, ripening and settling would all leave the space as it is.
pub record IsQuiet (z : Space) : Type 0 where
  pub differ : Pairs Differ z.objects
  pub followed : IsFollowed z
  pub unripe : NoneRipe z.todo [] (turns_of z.buffers)
  pub settled : IsSettled z.frames
