-- No name of a table has a number past the limit.
use Rattle.bd_objects.proofs.Words.{DeathNotification, List, Name, Object, ObjectTable, Reference, Stands, false, has_number_past_limit, ◌≡◌}

pub numbers_fit : (t : ObjectTable) (objects : List Object) (references : List Reference) (names : List Name)
    (deaths : List DeathNotification) → Stands t objects references names deaths → has_number_past_limit names ≡ false
numbers_fit t objects references names deaths h = h.names_are.stands.fits
