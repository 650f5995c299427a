-- A live engine that begins at a later place.
use Rattle.bd_engine.proofs.Words.{Before, Follows, Live, Tables, actor, after, ap, arith, change, counted, length-replicate, list_all, lt-ltb, nat_lt, opening, refl, refusals, refused_entry, replicate, space_after, subst, suc, sym, true, zero, ℕ, ◌+◌, ◌<◌, ◌∙◌, ◌≡◌, ◌≤◌}
use Rattle.bd_ways.specs.Words.{Entry, Space}
use Rattle.bd_space.specs.Histories.{Follows as EntriesFollow}

-- the space in which nothing is, after so many steps
abbrev at : ℕ → Space
at n = record opening { steps = n }

refused_after : (k n : ℕ) → after (at k) (replicate n refused_entry) ≡ at (k + n)
unfolding actor change counted
refused_after k zero = ap at (omega arith)
refused_after k (suc n) = refused_after (suc k) n ∙ ap at (omega arith)

refused_follow : (k n : ℕ) → EntriesFollow (at k) (replicate n refused_entry)
unfolding actor change counted
refused_follow k zero = tt
refused_follow k (suc n) = (record { answer = refl; numbers = refl }, refused_follow (suc k) n)

all_seated : (seats n : ℕ) → 0 < seats → list_all (λ (e : Entry). nat_lt e.seat seats) (replicate n refused_entry) ≡ true
all_seated seats zero some = refl
all_seated seats (suc n) some = rw (lt-ltb 0 seats some) (all_seated seats n some)

stands_at : (t : Tables) (n : ℕ) → Before t opening → Before (record t { steps = n }) (at n)
stands_at t n h = record {
  own = record { steps_are = refl; processes_are = h.own.processes_are; manager_is = h.own.manager_is };
  objects_stand = h.objects_stand;
  calls_stand = h.calls_stand;
  windows_stand = record {
    windows_are = h.windows_stand.windows_are;
    made = record {
      processes_in_order = λ i j d lt le. absurd (omega (arith, le));
      processes_before = λ i d le. absurd (omega (arith, le));
      buffers_in_order = λ i j d lt le. absurd (omega (arith, le));
      buffers_before = λ i d le. absurd (omega (arith, le));
      received = λ i d le. absurd (omega (arith, le));
    };
    homes_are = h.windows_stand.homes_are;
  };
}

pub begins_at : (l : Live) (t : Tables) (seats n : ℕ) → l.seats ≡ seats → 1 ≤ seats → seats ≤ 65536 → n < 18446744073709551616 → Before t opening → l.tables.value ≡ record t { steps = n }
    → Follows l (refusals seats n)
unfolding space_after
begins_at l t seats n same some few short stands is =
    let there : after opening (replicate n refused_entry) ≡ at n = refused_after 0 n ∙ ap at (omega arith) in
    record {
      seats_are = same;
      some = some;
      few = few;
      lawful = record {
        short = omega (arith, length-replicate n refused_entry, short);
        seats = all_seated seats n (omega (arith, some));
        follows = refused_follow 0 n;
      };
      stands = subst (λ (u : Tables). Before u (after opening (replicate n refused_entry))) (sym is) (subst (Before (record t { steps = n })) (sym there) (stands_at t n stands));
    }
