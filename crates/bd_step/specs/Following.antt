-- What follows from a change at chosen names and objects alone.
use Rattle.std.specs.Prelude.{◌≡◌, false, true, Bool, not, ◌||◌, List, [], ◌∷◌, filter, fold, None, Some}
use Rattle.bd_ways.specs.Words.{Identity, Work, WorkKind, OfProcess, is_some_and, Space}
use Rattle.bd_space.specs.declared.space.WorkKind.TheVariants as work
use Rattle.bd_space.specs.References.{object_in}
use Rattle.bd_space.specs.Notices.{wants_notice, with_notice}
use Rattle.bd_ways.specs.Local.{NameTest, ObjectTest, names_go_of, objects_go_of, deaths_go_of, work_goes_of, at_object, is_among}
use Rattle.bd_laws.specs.Lists.{Pairs}
use Rattle.bd_laws.specs.Objects.{Earlier, NotLater}
use Rattle.bd_objects.specs.Telling.{owner_due}
use Rattle.bd_step.specs.declared.tables.Tables.{Tables}
use Rattle.bd_step.specs.Stands.{Within}

-- death notifications go with their names, and their work items with them
unfoldable pub deaths_followed : NameTest → Space → Space
deaths_followed a s = work_goes_of a (λ i. false) s.deaths (deaths_go_of a s)

-- their work items alone
unfoldable pub deaths_withdrawn : NameTest → Space → Space
deaths_withdrawn a s = record s { todo = (deaths_followed a s).todo }

-- and the names go first, with the references that they rested on
unfoldable pub names_followed : NameTest → Space → Space
names_followed a s = deaths_followed a (names_go_of a s)

-- the Notice of a chosen object stays while its owner is to be told
abbrev pub notice_stays : ObjectTest → Space → WorkKind → Bool
notice_stays b s (work.Notice o) = not (b o) || is_some_and (object_in s.objects o) (wants_notice s.processes s.references)
notice_stays b s _ = true

-- of chosen objects those go that nothing keeps, and the Notices that have nothing left to say
unfoldable pub shed_of : ObjectTest → Space → Space
shed_of b s = let z = objects_go_of b s in record z { todo = filter (λ w. notice_stays b z w.kind) z.todo }

-- the object's Notice is made on its owner's list, if it is missing
abbrev pub told_at : Space → List Work → Identity → List Work
told_at s todo o = elim (object_in s.objects o) [ None ↦ todo | Some x ↦ with_notice s.steps s.processes s.references (OfProcess x.owner) todo x ]

-- one object's after the other's
unfoldable pub told_of : List Identity → Space → Space
told_of os s = record s { todo = fold (told_at s) s.todo os }

-- one object is shed, and then told of if it stays
abbrev pub followed_at : Identity → Space → Space
followed_at o s = told_of (o ∷ []) (shed_of (at_object o) s)

-- no owner is to be told of one of these
abbrev pub IsNobodyDue : Space → List Identity → Type 0
IsNobodyDue s os = (o : Identity) → is_among os o ≡ true → owner_due s (object_in s.objects o) ≡ None

-- a change within a step makes what f makes of each space whose objects stand in the order in which they were made
abbrev pub MakesOfOrdered : Tables → Tables → (Space → Space) → Type 0
MakesOfOrdered old new f = (s : Space) → Within old s → Pairs Earlier s.objects → Within new (f s)

-- these are the objects that the test is true of, in the order in which they were made
pub record AreTouched (b : ObjectTest) (os : List Identity) : Type 0 where
  pub in_order : Pairs NotLater os
  pub among : is_among os ≡ b
