-- Where entries that grow stop being lawful, and a history.
use Rattle.bd_laws.proofs.words.Logic.{◌≡◌, ◌≤◌, ◌+◌, ℕ, [], ◌∷◌, length, Option, Some, None, ap, sym, subst, arith, false, is_some, length-append, take_all, take-append-le, ◌<◌}
use Rattle.std.proofs.lemmas.List.{length-take-le, take-take}
use Rattle.bd_laws.proofs.words.Types.{Entry}
use Rattle.bd_laws.proofs.words.Space.{History, IsHistory}
use Rattle.bd_space.specs.Histories.{HasLivePlace, IsLawful, history_of}
use Rattle.bd_engine.specs.declared.live.Live.{Live}
use Rattle.bd_engine.specs.Follows.{Follows as IsFollowed}
use Rattle.bd_audit.specs.Replays.{with_entry, beginning, IsLawfulUpTo, StopsAt}
use Rattle.bd_audit.specs.Judging.{HasSeen, IsStop}
use Rattle.bd_audit.proofs.Beginnings.{take_history, take_lawful}

-- an entry more changes nothing before it
same_front : (h : History) (e : Entry) (n : ℕ) → n ≤ length h.entries → beginning n h ≡ beginning n (with_entry h e)
same_front h e n few = ap (history_of h.seats) (sym (take-append-le n h.entries (e ∷ []) few))

longer : (h : History) (e : Entry) → length (with_entry h e).entries ≡ length h.entries + 1
longer h e = length-append h.entries (e ∷ [])

pub stops_still : (h : History) (e : Entry) (at : ℕ) → IsLawfulUpTo h at → IsLawfulUpTo (with_entry h e) at
stops_still h e at s = record {
  inside = omega (arith, s.inside, longer h e);
  before = subst IsLawful (same_front h e at (omega (arith, s.inside))) s.before;
  stops = subst (λ (k : History). IsLawful k → ⊥) (same_front h e (at + 1) (omega (arith, s.inside))) s.stops;
}

whole : (h : History) (n : ℕ) → length h.entries ≤ n → h ≡ beginning n h
whole h n all = ap (history_of h.seats) (sym (take_all n h.entries all))

pub stops_here : (h : History) (e : Entry) (at : ℕ) → at ≡ length h.entries → IsLawful h → (IsLawful (with_entry h e) → ⊥) → IsLawfulUpTo (with_entry h e) at
stops_here h e at here lawful fails = record {
  inside = omega (arith, here, longer h e);
  before = subst IsLawful (same_front h e at (omega (arith, here))) (subst IsLawful (whole h at (omega (arith, here))) lawful);
  stops = subst (λ (k : History). IsLawful k → ⊥) (whole (with_entry h e) (at + 1) (omega (arith, here, longer h e))) fails;
}

is_stop : (h : History) (at : ℕ) → IsLawfulUpTo h at → IsStop h (Some at)
is_stop h at s = (λ lawful. s.stops (take_lawful (at + 1) h lawful), s)

-- what a judge that goes on comes to where the engine refuses
pub stops_now : (live : Live) (stop : Option ℕ) (h : History) (e : Entry) (at : ℕ) → false ≡ is_some stop → HasSeen live stop h
    → (IsFollowed live h → at ≡ length h.entries) → (IsFollowed live h → IsLawful (with_entry h e) → ⊥) → IsLawfulUpTo (with_entry h e) at
stops_now live None h e at none seen place refuses = stops_here h e at (place seen) seen.lawful (refuses seen)
stops_now live (Some x) h e at none seen place refuses = absurd (cc)

-- and what it comes to where it accepts
pub goes_on : (old new : Live) (stop : Option ℕ) (h : History) (e : Entry) → false ≡ is_some stop → HasSeen old stop h → (IsFollowed old h → IsFollowed new (with_entry h e))
    → HasSeen new stop (with_entry h e)
goes_on old new None h e none seen accepts = accepts seen
goes_on old new (Some x) h e none seen accepts = absurd (cc)

-- where it wants memory, one entry more has a place
pub wants_place : (live : Live) (stop : Option ℕ) (h : History) → false ≡ is_some stop → HasSeen live stop h → (IsFollowed live h → HasLivePlace h) → HasLivePlace h
wants_place live None h none seen has = has seen
wants_place live (Some x) h none seen has = absurd (cc)

pub told : (live : Live) (stop : Option ℕ) (h : History) → HasSeen live stop h → IsStop h stop
told live None h seen = seen.lawful
told live (Some at) h seen = is_stop h at seen

-- ---- what is lawful is a history as long as places have 32 bits

pub is_lawful : (h : History) → IsHistory h → IsLawful h
is_lawful h k = record { short = omega (arith, k.short); seats = k.seats; follows = k.follows }

pub is_history : (h : History) → length h.entries ≤ 4294967295 → IsLawful h → IsHistory h
is_history h short k = record { short = short; seats = k.seats; follows = k.follows }

module _ (h : History) (n : ℕ) (within : n ≤ length h.entries) (few : n ≤ 4294967295) where
  so_many : length (beginning n h).entries ≡ n
  so_many = length-take-le n h.entries within

  -- an entry of those that have places
  pub stops_before : (at : ℕ) → IsLawfulUpTo (beginning n h) at → StopsAt h at
  stops_before at s =
      let inside : at < n = omega (arith, s.inside, so_many) in
      let front = λ (m : ℕ) (le : m ≤ n). ap (history_of h.seats) (take-take m n h.entries le) in
      record {
        inside = omega (arith, inside, within);
        before = is_history (beginning at h) (omega (arith, length-take-le at h.entries (omega (arith, inside, within)), inside, few))
            (subst IsLawful (front at (omega (arith, inside))) s.before);
        stops = λ k. s.stops (subst IsLawful (sym (front (at + 1) (omega (arith, inside)))) (is_lawful _ k));
      }

  -- all that have places are lawful, and one more has none
  pub stops_at_end : n ≡ 4294967295 → n < length h.entries → IsLawful (beginning n h) → StopsAt h 4294967295
  stops_at_end is more lawful = subst (StopsAt h) is (record {
    inside = more;
    before = is_history (beginning n h) (omega (arith, so_many, few)) lawful;
    stops = λ k. let long = length-take-le (n + 1) h.entries (omega (arith, more)) in absurd (omega (arith, long, k.short, is));
  })

-- a history that stops being one is none
pub no_history : (h : History) (at : ℕ) → StopsAt h at → IsHistory h → ⊥
no_history h at s k = s.stops (take_history (at + 1) h k)

-- all have places
pub all_placed : (h : History) → length h.entries ≤ 4294967295 → (n : ℕ) → length h.entries ≤ n → IsLawful (beginning n h) → IsHistory h
all_placed h short n all lawful = is_history h short (subst IsLawful (sym (whole h n all)) lawful)
