-- The table after a change.
use Rattle.bd_deaths.proofs.Words.{All, All-filter, All-push, AllPairs, AllPairs-filter, Apart, AreShared, Bool, DeathNotification, DeathTable, DeathsAre, Distinct, EntriesAre, Entry, Fits, Kept, List, Mark, NameKey, None, ObjectsShow, Option}
use Rattle.bd_deaths.proofs.Words.{ProcessesShow, Row, Some, Uses, Watch, [], all_pairs_push, and_parts, ap, arith, asks_on, at_of, cond, death_count, death_of, death_room, drop_key, drop_none, eq-eqb, eqb-true, false, filter, filter_none, find}
use Rattle.bd_deaths.proofs.Words.{found_passes, get_or, has, is_notification, is_some_and, is_uncleared_on, kept_at, kept_of, keys, length, lists_room, made_of, map, map-append, min, name_at, name_of, none_found, none_mapped, not, object_row}
use Rattle.bd_deaths.proofs.Words.{option_map, pairs_tail, place_at, process_row, refl, rest_differ, same, same_eq, same_name, slab_len, spare, subst, sym, true, uncleared_in, without, word_room, ℕ, ◌&&◌, ◌++◌, ◌+◌, ◌-◌, ◌<◌, ◌==◌, ◌^◌, ◌∙◌, ◌∷◌}
use Rattle.bd_deaths.proofs.Words.{◌≡◌, ◌≤◌}
use Rattle.bd_deaths.proofs.{Indexed.{Once, found_once, shown_less, shown_more}, Sharing.{distinct_mapped}}
use Rattle.bd_chains.specs.Chain as chain

pub filter_map : {A B : Type 0} (f : A → B) (p : B → Bool) (xs : List A) → map f (filter (λ x. p (f x)) xs) ≡ filter p (map f xs)
filter_map f p [] = refl
filter_map f p (x ∷ xs) = grind (arith, filter_map f p xs)

pub find_map : {A B : Type 0} (f : A → B) (p : B → Bool) (xs : List A) → find p (map f xs) ≡ option_map f (find (λ x. p (f x)) xs)
find_map f p [] = refl
find_map f p (x ∷ xs) = grind (arith, find_map f p xs)

pub find_same : {A : Type 0} (p q : A → Bool) → ((x : A) → p x ≡ q x) → (xs : List A) → find p xs ≡ find q xs
find_same p q same [] = refl
find_same p q same (x ∷ xs) = (λ i. cond (same x i) (Some x) (find_same p q same xs i))

-- it is uncleared on a name, also where that is told by its parts
pub asks_uncleared : (k : NameKey) (x : DeathNotification) → asks_on k x ≡ is_uncleared_on k.process k.object x
asks_uncleared k x = three (not x.cleared) (x.process == k.process) (same x.object k.object)
  where
    three : (a b c : Bool) → (a && (b && c)) ≡ ((a && b) && c)
    three true b c = refl
    three false b c = refl

both : (a b p q : ℕ) → a ≤ b → p ≤ q → min a p ≤ min b q
both a b p q e f = omega arith

less : (c d l m : ℕ) → c ≤ d → m ≤ l → c - l ≤ d - m
less c d l m e f = omega arith

-- a change that takes nothing
pub uses_less : (t u : DeathTable) → t.slots.capacity ≤ u.slots.capacity → slab_len u.slots ≤ slab_len t.slots → u.next ≡ t.next
    → lists_room t.objects.chains (spare t.objects.numbers.all) ≤ lists_room u.objects.chains (spare u.objects.numbers.all)
    → lists_room t.processes.chains (spare t.processes.numbers.all) ≤ lists_room u.processes.chains (spare u.processes.numbers.all)
    → spare t.places ≤ spare u.places → spare t.names ≤ spare u.names → word_room t.cookies ≤ word_room u.cookies → Uses t u 0
unfolding death_room death_count
uses_less t u capacity len next objects processes places names cookies = record {
  room = let more = both _ _ _ _ (both _ _ _ _ (less _ _ _ _ capacity len) (less _ _ _ _ (refl_le 18446744073709551615) (eq_le next))) (both _ _ _ _ (both _ _ _ _ objects processes) (both _ _ _ _ places (both _ _ _ _ names cookies))) in omega (arith, more);
  count = omega (arith, len);
}
  where
    refl_le : (n : ℕ) → n ≤ n
    refl_le n = omega arith

    eq_le : {a b : ℕ} → a ≡ b → a ≤ b
    eq_le e = omega (arith, e)

-- ---- by what one is found at most one is found

module _ (es : List Entry) (apart : AllPairs Apart es) where
  pub by_place : Distinct made_of es
  by_place i j d lt h = (apart i j d lt h).places

  pub by_slot : Distinct at_of es
  by_slot i j d lt h = (apart i j d lt h).slots

  pub once_slot : (k : ℕ) → Once (λ e. at_of e == k) es
  once_slot k i j d lt h a b = (apart i j d lt h).slots (eqb-true _ k a ∙ sym (eqb-true _ k b))

  pub once_place : (m : ℕ) → Once (λ e. made_of e == m) es
  once_place m i j d lt h a b = (apart i j d lt h).places (eqb-true _ m a ∙ sym (eqb-true _ m b))

  pub once_name : (k : NameKey) → Once (λ e. asks_on k (death_of e)) es
  once_name k i j d lt h = (apart i j d lt h).names k

-- one that was found, in its slot
pub record Found (t : DeathTable) (es : List Entry) (q : Entry → Bool) (at : ℕ) : Type 0 where
  pub entry : Entry
  pub is : find q es ≡ Some entry
  pub slot : at_of entry ≡ at
  pub kept : kept_at t at ≡ Some entry.kept

pub found : (t : DeathTable) (es : List Entry) (q : Entry → Bool) (at : ℕ) → EntriesAre t es → option_map at_of (find q es) ≡ Some at → Found t es q at
found t es q at h is = of (find q es) refl is
  where
    of : (o : Option Entry) → find q es ≡ o → option_map at_of o ≡ Some at → Found t es q at
    of None e k = absurd cc
    of (Some x) e k =
        let slot : at_of x ≡ at = cc in
        record {
          entry = x;
          is = e;
          slot = slot;
          kept = h.slots_are at ∙ ap (option_map kept_of) (found_once (λ e. at_of e == at) q es x (once_slot es h.apart at) e (eq-eqb (at_of x) at slot));
        }

-- ---- the one made at a place, among the rows

module _ {T : Type 0} (row : Entry → Row T) (m : ℕ) where
  found_key : (es : List Entry) (e : Entry) → find (has made_of m) es ≡ Some e → chain.has (row e).key (keys (map row es)) ≡ true
  found_key [] e is = grind arith
  found_key (x ∷ es) e is = grind (arith, found_key es e)

  -- the first's is in no other's
  pub row_went : (es : List Entry) (e : Entry) → Distinct made_of es → chain.distinct (keys (map row es)) ≡ true → find (has made_of m) es ≡ Some e
      → drop_key (row e).key (map row es) ≡ map row (without made_of m es)
  row_went [] e distinct apart is = grind arith
  row_went (x ∷ es) e distinct apart is =
      grind (arith, row_went es e (pairs_tail (λ a b. made_of a ≡ made_of b → ⊥) x es distinct), found_key es e, drop_none (row e).key (map row es), first)
    where
      first : made_of x ≡ m → without made_of m es ≡ es
      first is = filter_none made_of m es (rest_differ made_of m x es distinct is)

-- ---- what stands on the lists stays, and is found where it was

pub entries_kept : (t u : DeathTable) (es : List Entry) → ((rs : List (Row Watch)) → ObjectsShow t rs → ObjectsShow u rs) → ((rs : List (Row Mark)) → ProcessesShow t rs → ProcessesShow u rs)
    → ((k : ℕ) → kept_at u k ≡ kept_at t k) → ((m : ℕ) → place_at u m ≡ place_at t m) → ((k : NameKey) → name_at u k ≡ name_at t k) → u.next ≡ t.next → EntriesAre t es → EntriesAre u es
entries_kept t u es objects processes slots places names next h = record {
  on_objects = objects (map object_row es) h.on_objects;
  of_processes = processes (map process_row es) h.of_processes;
  slots_are = λ k. slots k ∙ h.slots_are k;
  places_are = λ m. places m ∙ h.places_are m;
  names_are = λ k. names k ∙ h.names_are k;
  apart = h.apart;
  fit = subst (λ n. All (Fits n) es) (sym next) h.fit;
}

pub deaths_kept : (t u : DeathTable) (l : List DeathNotification) → ((rs : List (Row Watch)) → ObjectsShow t rs → ObjectsShow u rs) → ((rs : List (Row Mark)) → ProcessesShow t rs → ProcessesShow u rs)
    → ((k : ℕ) → kept_at u k ≡ kept_at t k) → ((m : ℕ) → place_at u m ≡ place_at t m) → ((k : NameKey) → name_at u k ≡ name_at t k) → u.next ≡ t.next → (AreShared t.cookies l → AreShared u.cookies l)
    → DeathsAre t l → DeathsAre u l
deaths_kept t u l objects processes slots places names next shared h = record {
  entries = h.entries;
  are = entries_kept t u h.entries objects processes slots places names next h.are;
  deaths_are = h.deaths_are;
  shared = shared h.shared;
}

-- ---- one goes

pub deaths_removed : (t u : DeathTable) (made at : ℕ) (kept : Kept) (l : List DeathNotification) → place_at t made ≡ Some at → kept_at t at ≡ Some kept
    → ((rs : List (Row Watch)) → ObjectsShow t rs → ObjectsShow u (drop_key kept.object rs)) → ((rs : List (Row Mark)) → ProcessesShow t rs → ProcessesShow u (drop_key kept.process rs))
    → ((k : ℕ) → kept_at u k ≡ cond (at == k) None (kept_at t k)) → ((m : ℕ) → place_at u m ≡ cond (made == m) None (place_at t m))
    → ((k : NameKey) → name_at u k ≡ cond (asks_on k kept.death) None (name_at t k)) → u.next ≡ t.next
    → AreShared u.cookies (filter (λ x. not (is_notification made x)) l) → DeathsAre t l → DeathsAre u (filter (λ x. not (is_notification made x)) l)
deaths_removed t u made at kept l place there objects processes slots places names next shared h =
    let es = h.entries in
    let f = found t es (has made_of made) at h.are (sym (h.are.places_are made) ∙ place) in
    let e = f.entry in
    let same : e.kept ≡ kept = some_is (sym f.kept ∙ there) in
    let here : made_of e ≡ made = eqb-true (made_of e) made (found_passes (has made_of made) es e f.is) in
    let distinct = by_place es h.are.apart in
    record {
      entries = without made_of made es;
      are = record {
        on_objects = subst (ObjectsShow u) (ap (λ (k : Kept). drop_key k.object (map object_row es)) (sym same) ∙ row_went object_row made es e distinct h.are.on_objects.holds.apart f.is)
            (objects (map object_row es) h.are.on_objects);
        of_processes = subst (ProcessesShow u) (ap (λ (k : Kept). drop_key k.process (map process_row es)) (sym same) ∙ row_went process_row made es e distinct h.are.of_processes.holds.apart f.is)
            (processes (map process_row es) h.are.of_processes);
        slots_are = λ k. slots k ∙ ap (λ a. cond (a == k) None (kept_at t k)) (sym f.slot) ∙ ap (λ o. cond (at_of e == k) None o) (h.are.slots_are k)
            ∙ shown_less (λ e. at_of e == k) kept_of made_of made es e distinct (once_slot es h.are.apart k) f.is;
        places_are = λ m. places m ∙ ap (λ n. cond (n == m) None (place_at t m)) (sym here) ∙ ap (λ o. cond (made_of e == m) None o) (h.are.places_are m)
            ∙ shown_less (λ e. made_of e == m) at_of made_of made es e distinct (once_place es h.are.apart m) f.is;
        names_are = λ k. names k ∙ ap (λ (c : Kept). cond (asks_on k c.death) None (name_at t k)) (sym same) ∙ ap (λ o. cond (asks_on k (death_of e)) None o) (h.are.names_are k)
            ∙ shown_less (λ e. asks_on k (death_of e)) at_of made_of made es e distinct (once_name es h.are.apart k) f.is;
        apart = AllPairs-filter Apart (λ e. not (has made_of made e)) es h.are.apart;
        fit = All-filter (λ e. not (has made_of made e)) (Fits u.next) es (subst (λ n. All (Fits n) es) (sym next) h.are.fit);
      };
      deaths_are = filter_map death_of (λ x. not (x.made == made)) es ∙ ap (filter (λ x. not (x.made == made))) h.deaths_are;
      shared = shared;
    }
  where
    some_is : {a b : Kept} → Some a ≡ Some b → a ≡ b
    some_is e = cc

-- none was made there
pub none_there : (t : DeathTable) (made : ℕ) (l : List DeathNotification) → DeathsAre t l → place_at t made ≡ None → find (is_notification made) l ≡ None
none_there t made l h none =
    ap (find (is_notification made)) (sym h.deaths_are) ∙ find_map death_of (is_notification made) h.entries
    ∙ ap (option_map death_of) (none_mapped at_of (find (has made_of made) h.entries) (sym (h.are.places_are made) ∙ none))

pub none_goes : (t : DeathTable) (made : ℕ) (l : List DeathNotification) → DeathsAre t l → place_at t made ≡ None → filter (λ x. not (is_notification made x)) l ≡ l
none_goes t made l h none = filter_none (λ (x : DeathNotification). x.made) made l (none_found (is_notification made) l (none_there t made l h none))

-- what is found has a slot in which it is
pub nothing_kept : {X Y : Type 0} (f : Kept → Y) (t : DeathTable) (made at : ℕ) (l : List DeathNotification) → DeathsAre t l → place_at t made ≡ Some at → option_map f (kept_at t at) ≡ None → X
nothing_kept f t made at l h place none =
    let e = found t h.entries (has made_of made) at h.are (sym (h.are.places_are made) ∙ place) in
    absurd (clash (sym e.kept ∙ none_mapped f (kept_at t at) none))
  where
    clash : {k : Kept} → Some k ≡ None → ⊥
    clash e = cc

-- ---- one comes

none_kept : (t : DeathTable) (es : List Entry) (at : ℕ) → EntriesAre t es → kept_at t at ≡ None → find (λ e. at_of e == at) es ≡ None
none_kept t es at h none = none_mapped kept_of (find (λ e. at_of e == at) es) (sym (h.slots_are at) ∙ none)

module _ (t : DeathTable) (x : DeathNotification) (at object process : ℕ) (l : List DeathNotification) (new : find (is_notification x.made) l ≡ None)
    (asked : uncleared_in l x.process x.object ≡ None) (uncleared : x.cleared ≡ false) (fresh : kept_at t at ≡ None) (fits : at < 2 ^ 64) (h : DeathsAre t l) where
  abbrev es : List Entry
  es = h.entries

  abbrev kept : Kept
  kept = record { death = x; serial = t.next; object = object; process = process }

  no_slot : find (λ e. at_of e == at) es ≡ None
  no_slot = none_kept t es at h.are fresh

  no_place : find (λ e. made_of e == x.made) es ≡ None
  no_place = none_mapped death_of (find (λ e. made_of e == x.made) es) (sym (find_map death_of (is_notification x.made) es) ∙ ap (find (is_notification x.made)) h.deaths_are ∙ new)

  no_name : find (λ e. is_uncleared_on x.process x.object (death_of e)) es ≡ None
  no_name = none_mapped death_of (find (λ e. is_uncleared_on x.process x.object (death_of e)) es) (sym (find_map death_of (is_uncleared_on x.process x.object) es) ∙ ap (find (is_uncleared_on x.process x.object)) h.deaths_are ∙ asked)

  named : (k : NameKey) → asks_on k x ≡ true → name_of x ≡ k
  named k on =
      let e = and_parts (x.process == k.process) (same x.object k.object) (and_parts (not x.cleared) (same_name (name_of x) k) on).1 in
      (λ i. record { process = eqb-true x.process k.process e.0 i; object = same_eq x.object k.object e.1 i })

  none_named : (k : NameKey) → asks_on k x ≡ true → find (λ e. asks_on k (death_of e)) es ≡ None
  none_named k on = subst (λ k. find (λ e. asks_on k (death_of e)) es ≡ None) (named k on) (find_same _ _ (λ e. asks_uncleared (name_of x) (death_of e)) es ∙ no_name)

  apart_from : (e : Entry) → e.kept ≡ kept → e.at ≡ at → (i : ℕ) (d : Entry) → i < length es → Apart (get_or es i d) e
  apart_from e is here i d lt = record {
    slots = λ same. differ at_of (at_of (get_or es i d)) at (none_found (λ e. at_of e == at) es no_slot i d lt) (same ∙ here);
    places = λ same. differ made_of (made_of (get_or es i d)) x.made (none_found (λ e. made_of e == x.made) es no_place i d lt) (same ∙ ap (λ (k : Kept). k.death.made) is);
    names = λ k a b. clash a (none_found (λ e. asks_on k (death_of e)) es (none_named k (sym (ap (λ (k2 : Kept). asks_on k k2.death) is) ∙ b)) i d lt);
    serials = subst (λ n. (get_or es i d).kept.serial < n) (sym (ap (λ (k : Kept). k.serial) is)) (h.are.fit i d lt).serial;
  }
    where
      differ : (f : Entry → ℕ) (a b : ℕ) → (a == b) ≡ false → a ≡ b → ⊥
      differ f a b off is = let on = eq-eqb a b is in absurd (cc)

      clash : {b : Bool} → b ≡ true → b ≡ false → ⊥
      clash on off = cc

  pub deaths_pushed : (u : DeathTable)
      → ((rs : List (Row Watch)) → ObjectsShow t rs → (n : ℕ) × ObjectsShow u (rs ++ record { key = object; list = n; held = record { value = record { object = x.object; at = at }; counted = false } } ∷ []))
      → ((rs : List (Row Mark)) → ProcessesShow t rs → (n : ℕ) × ProcessesShow u (rs ++ record { key = process; list = n; held = record { value = record { process = x.process; made = x.made; at = at }; counted = false } } ∷ []))
      → ((k : ℕ) → kept_at u k ≡ cond (at == k) (Some kept) (kept_at t k)) → ((m : ℕ) → place_at u m ≡ cond (x.made == m) (Some at) (place_at t m))
      → ((k : NameKey) → name_at u k ≡ cond (same_name (name_of x) k) (Some at) (name_at t k)) → u.next ≡ t.next + 1
      → AreShared u.cookies (l ++ x ∷ []) → DeathsAre u (l ++ x ∷ [])
  deaths_pushed u objects processes slots places names next shared =
      let o = objects (map object_row es) h.are.on_objects in
      let p = processes (map process_row es) h.are.of_processes in
      let e : Entry = record { kept = kept; at = at; object = o.0; process = p.0 } in
      record {
        entries = es ++ e ∷ [];
        are = record {
          on_objects = subst (ObjectsShow u) (sym (map-append object_row es (e ∷ []))) o.1;
          of_processes = subst (ProcessesShow u) (sym (map-append process_row es (e ∷ []))) p.1;
          slots_are = λ k. slots k ∙ ap (λ o. cond (at == k) (Some kept) o) (h.are.slots_are k)
              ∙ shown_more (λ e. at_of e == k) kept_of es e (λ on. subst (λ k. find (λ e. at_of e == k) es ≡ None) (eqb-true at k on) no_slot);
          places_are = λ m. places m ∙ ap (λ o. cond (x.made == m) (Some at) o) (h.are.places_are m)
              ∙ shown_more (λ e. made_of e == m) at_of es e (λ on. subst (λ m. find (λ e. made_of e == m) es ≡ None) (eqb-true x.made m on) no_place);
          names_are = λ k. names k ∙ ap (λ o. cond (same_name (name_of x) k) (Some at) o) (h.are.names_are k)
              ∙ ap (λ b. cond (not b && same_name (name_of x) k) (Some at) (option_map at_of (find (λ e. asks_on k (death_of e)) es))) (sym uncleared)
              ∙ shown_more (λ e. asks_on k (death_of e)) at_of es e (none_named k);
          apart = all_pairs_push Apart es e h.are.apart (apart_from e refl refl);
          fit = subst (λ n. All (Fits n) (es ++ e ∷ [])) (sym next)
              (All-push (Fits (t.next + 1)) es e
              (λ i d lt. let f = h.are.fit i d lt in let s = f.serial in record { serial = omega (arith, s); at = f.at })
              (record { serial = omega arith; at = fits }));
        };
        deaths_are = map-append death_of es (e ∷ []) ∙ ap (λ xs. xs ++ x ∷ []) h.deaths_are;
        shared = shared;
      }

-- ---- what is found

module _ (t : DeathTable) (l : List DeathNotification) (h : DeathsAre t l) (r : DeathNotification → Bool) where
  pub death_found : (at : ℕ) → option_map at_of (find (λ e. r (death_of e)) h.entries) ≡ Some at → option_map (λ k. k.death) (kept_at t at) ≡ find r l
  death_found at is =
      let f = found t h.entries (λ e. r (death_of e)) at h.are is in
      ap (option_map (λ k. k.death)) f.kept ∙ sym (ap (option_map death_of) f.is) ∙ sym (find_map death_of r h.entries) ∙ ap (find r) h.deaths_are

  pub death_none : option_map at_of (find (λ e. r (death_of e)) h.entries) ≡ None → None ≡ find r l
  death_none is =
      sym (ap (option_map death_of) (none_mapped at_of (find (λ e. r (death_of e)) h.entries) is)) ∙ sym (find_map death_of r h.entries) ∙ ap (find r) h.deaths_are

-- what stands in a slot and was made at a place is where that is looked up
pub guessed : (t : DeathTable) (m : ℕ) (l : List DeathNotification) → DeathsAre t l → (at : ℕ) → is_some_and (kept_at t at) (λ k. is_notification m k.death) ≡ true → Some at ≡ place_at t m
guessed t m l h at is = of (find (λ e. at_of e == at) h.entries) refl (ap (λ o. is_some_and o (λ k. is_notification m k.death)) (sym (h.are.slots_are at)) ∙ is)
  where
    of : (o : Option Entry) → find (λ e. at_of e == at) h.entries ≡ o → is_some_and (option_map kept_of o) (λ k. is_notification m k.death) ≡ true → Some at ≡ place_at t m
    of None f k = absurd cc
    of (Some e) f k =
        let slot = eqb-true (at_of e) at (found_passes (λ e. at_of e == at) h.entries e f) in
        ap (λ n. Some n) (sym slot) ∙ sym (ap (option_map at_of) (found_once (has made_of m) (λ e. at_of e == at) h.entries e (once_place h.entries h.are.apart m) f k)) ∙ sym (h.are.places_are m)

-- ---- those of a table by where they were made

pub made_apart : (t : DeathTable) (l : List DeathNotification) → DeathsAre t l → Distinct (λ (x : DeathNotification). x.made) l
made_apart t l h = subst (λ xs. Distinct (λ (x : DeathNotification). x.made) xs) h.deaths_are (distinct_mapped (λ (x : DeathNotification). x.made) death_of h.entries (by_place h.entries h.are.apart))

-- the one of a place is what is kept in its slot
pub made_there : (t : DeathTable) (made at : ℕ) (x : DeathNotification) (l : List DeathNotification) → DeathsAre t l → place_at t made ≡ Some at
    → option_map (λ k. k.death) (kept_at t at) ≡ Some x → find (is_notification made) l ≡ Some x
made_there t made at x l h place there = sym (death_found t l h (is_notification made) at (sym (h.are.places_are made) ∙ place)) ∙ there
