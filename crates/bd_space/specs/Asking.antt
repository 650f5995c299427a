-- What BC_INCREFS, BC_ACQUIRE, BC_RELEASE, BC_DECREFS, BC_INCREFS_DONE and BC_ACQUIRE_DONE check and change.
use Rattle.std.specs.Prelude.{ℕ, ◌==◌, Bool, not, ◌&&◌, [], ◌∷◌, ◌++◌, Result, find, if◌then◌else◌}
use Rattle.bd_space.specs.{Words.{list_any, Note, Identity, Object, Asked, when, first_of, ok_or, unless, and_then, without_first, Space}, References.{reference_of, strong_in, owned_in, is_asking, is_shaking}, Names.{named, assign_numbers}}

-- the object that is asked for, or the first note against it: 0 means the context manager's object while there is one, a
-- strong reference is to be had only while somebody has one, and nobody asks for his own
unfoldable pub ask_check : Space → ℕ → ℕ → Bool → Result Identity Note
ask_check s p n strong =
    and_then (ok_or (if n == 0 then first_of (s.manager ∷ named s p 0 ∷ []) else named s p n) Note.NoSuchNumber)
    (λ o. unless (first_of (
    when (strong && not (strong_in s.references o)) Note.NotStrong
    ∷ when (owned_in s.objects p o) Note.OwnManager
    ∷ [])) o)

-- the reference comes in, and the name with it
unfoldable pub ask : Space → ℕ → Identity → Bool → Space
ask s p o strong = assign_numbers (record s { references = s.references ++ reference_of s.steps 0 o strong (Asked p) ∷ [] }) p (o ∷ [])

unfoldable pub drop_check : Space → ℕ → ℕ → Bool → Result Identity Note
drop_check s p n strong =
    and_then (ok_or (named s p n) Note.NoSuchNumber)
    (λ o. unless (when (not (list_any (is_asking p o strong) s.references)) Note.NothingAsked) o)

-- the least reference of that strength that the process asked for goes
unfoldable pub drop_asked : Space → ℕ → Identity → Bool → Space
drop_asked s p o strong = record s { references = without_first (is_asking p o strong) s.references }

-- the own object that an owner acknowledges
unfoldable pub done_check : Space → ℕ → ℕ → ℕ → Bool → Result Object Note
done_check s p ptr cookie strong =
    and_then (ok_or (find (λ x. (x.owner == p) && (x.ptr == ptr) && (x.cookie == cookie)) s.objects) Note.NoSuchObject)
    (λ x. unless (when (not (list_any (is_shaking x.id strong) s.references)) Note.NoHandshake) x)

-- the reference that stood for the acknowledgement goes
unfoldable pub acknowledge : Space → Identity → Bool → Space
acknowledge s o strong = record s { references = without_first (is_shaking o strong) s.references }
