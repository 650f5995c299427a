-- Names: the numbers (handles) by which processes know the objects of others.
use Rattle.std.specs.Prelude.{ℕ, suc, ◌==◌, nat_lt, Bool, not, ◌&&◌, List, [], ◌∷◌, ◌++◌, length, Option, Some, None, find, filter, fold, is_some, option_map, option_and_then, unwrap_or, if◌then◌else◌}
use Rattle.bd_space.specs.{Words.{list_any, Identity, Object, Reference, Name, same, is_some_and, least, Space}, References.{gives_name_to, owned_in}}

-- o is another's, and p asked for it, or some buffer that p received carries it: only then p has a name for it
abbrev pub is_named_in : List Object → List Reference → ℕ → Identity → Bool
is_named_in objects references p o = not (owned_in objects p o) && list_any (λ r. same r.object o && gives_name_to p r.holder) references

-- what the number names for p, and p's number of o
abbrev pub named_in : List Name → ℕ → ℕ → Option Identity
named_in names p n = option_map (λ m. m.object) (find (λ m. (m.process == p) && (m.number == n)) names)

abbrev pub number_in : List Name → ℕ → Identity → Option ℕ
number_in names p o = option_map (λ m. m.number) (find (λ m. (m.process == p) && same m.object o) names)

unfoldable pub named : Space → ℕ → ℕ → Option Identity
named s p n = named_in s.names p n

-- the same, where a strong reference gives p the name
unfoldable pub strongly_named : Space → ℕ → ℕ → Option Identity
strongly_named s p n =
    option_and_then
    (λ o. if not (owned_in s.objects p o) && list_any (λ r. r.strong && same r.object o && gives_name_to p r.holder) s.references
    then Some o else None)
    (named_in s.names p n)

-- the object is the context manager's
abbrev pub is_managers : Option Identity → Identity → Bool
is_managers manager o = is_some_and manager (λ m. same m o)

-- the least number that p doesn't use, from 0 for the context manager's object and else from 1: one more than there are names are
-- looked at, so that one of them is free and the 0 that stands for none is never given
abbrev pub free_number : Option Identity → List Name → ℕ → Identity → ℕ
free_number manager names p o =
    unwrap_or (least (suc (length names)) (if is_managers manager o then 0 else 1) (λ n. not (list_any (λ m. (m.process == p) && (m.number == n)) names))) 0

-- a name for o that p lacks gets its number
abbrev pub with_name : Option Identity → List Object → List Reference → ℕ → List Name → Identity → List Name
with_name manager objects references p names o =
    if is_named_in objects references p o && not (is_some (number_in names p o))
    then names ++ record { process = p; number = free_number manager names p o; object = o } ∷ []
    else names

-- and for each of these, in their order
unfoldable pub assign_numbers : Space → ℕ → List Identity → Space
assign_numbers s p os = record s { names = fold (with_name s.manager s.objects s.references p) s.names os }

-- a name goes with the last reference that it rests on
unfoldable pub names_go : Space → Space
names_go s = record s { names = filter (λ m. is_named_in s.objects s.references m.process m.object) s.names }

-- a number that no history may need
abbrev pub has_number_past_limit : List Name → Bool
has_number_past_limit names = list_any (λ m. nat_lt 4294967294 m.number) names
