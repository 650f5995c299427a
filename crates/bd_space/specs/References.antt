-- References to objects: what each is for, and which objects they keep.
use Rattle.std.specs.Prelude.{ℕ, ◌==◌, Bool, true, false, ◌&&◌, ◌||◌, List, find, filter, Option, Some, None}
use Rattle.bd_space.specs.{Words.{list_any, beq, Identity, Process, Object, Reference, Holder, Asked, Carried, Target, Handshake, Manager, same, is_some_and, Space}, Seats.lives_in}

-- what the step at this place refers to is counted from 0
abbrev pub reference_of : ℕ → ℕ → Identity → Bool → Holder → Reference
reference_of place index o strong holder = record { id = record { place = place; index = index }; object = o; strong = strong; holder = holder }

-- an object is held with any reference, and strong with a strong one
abbrev pub held_in : List Reference → Identity → Bool
held_in references o = list_any (λ r. same r.object o) references

abbrev pub strong_in : List Reference → Identity → Bool
strong_in references o = list_any (λ r. r.strong && same r.object o) references

abbrev pub object_in : List Object → Identity → Option Object
object_in objects o = find (λ x. same x.id o) objects

-- p owns the object
abbrev pub owned_in : List Object → ℕ → Identity → Bool
owned_in objects p o = list_any (λ x. same x.id o && (x.owner == p)) objects

-- p's object with this ptr
abbrev pub own_in : List Object → ℕ → ℕ → Option Object
own_in objects p ptr = find (λ x. (x.owner == p) && (x.ptr == ptr)) objects

-- an object stays while there is a reference to it, or while its live owner still believes that there is one
abbrev pub stays_in : List Process → List Reference → Object → Bool
stays_in processes references x = held_in references x.id || (lives_in processes x.owner && (x.told_weak || x.told_strong))

unfoldable pub objects_go : Space → Space
objects_go s = record s { objects = filter (stays_in s.processes s.references) s.objects }

-- ---- what a reference is for

-- p asked for it
abbrev pub is_asked_by : ℕ → Holder → Bool
is_asked_by p (Asked q) = q == p
is_asked_by p _ = false

-- p has a name by it: p asked, or one of the buffers that p received carries it
abbrev pub gives_name_to : ℕ → Holder → Bool
gives_name_to p (Asked q) = q == p
gives_name_to p (Carried b q) = q == p
gives_name_to p _ = false

-- the buffer with which it ends
abbrev pub buffer_of_holder : Holder → Option ℕ
buffer_of_holder (Carried b q) = Some b
buffer_of_holder (Target b q) = Some b
buffer_of_holder _ = None

abbrev pub is_of_buffer : ℕ → Holder → Bool
is_of_buffer b h = is_some_and (buffer_of_holder h) (λ c. c == b)

-- that buffer lies in p's window
abbrev pub is_in_window : ℕ → Holder → Bool
is_in_window p (Carried b q) = q == p
is_in_window p (Target b q) = q == p
is_in_window p _ = false

abbrev pub is_handshake : Holder → Bool
is_handshake Handshake = true
is_handshake _ = false

-- the owner's own: what it was told and hasn't acknowledged, and the context manager's
abbrev pub is_of_owner : Holder → Bool
is_of_owner Handshake = true
is_of_owner Manager = true
is_of_owner _ = false

-- p asked for the object, in this strength
abbrev pub is_asking : ℕ → Identity → Bool → Reference → Bool
is_asking p o strong r = beq r.strong strong && same r.object o && is_asked_by p r.holder

-- the owner is to acknowledge the object, in this strength
abbrev pub is_shaking : Identity → Bool → Reference → Bool
is_shaking o strong r = beq r.strong strong && same r.object o && is_handshake r.holder
