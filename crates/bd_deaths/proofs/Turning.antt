-- The table after what is kept of some has changed.
use Rattle.bd_deaths.proofs.Words.{All-map, AllPairs, Apart, AreShared, Bool, DeathNotification, DeathTable, DeathsAre, Entry, Fits, Kept, List, Mark, NameKey, None, ObjectsShow, Option, Phase, ProcessesShow, Row, Sharers, Slab, Some, Watch, WordMap}
use Rattle.bd_deaths.proofs.Words.{[], and_parts, ap, arith, asks_on, at_of, changed, changed_none, cond, death_of, false, filter, find, found_passes, get, get_or, get_or-map, has, in_phase, is_notification, kept_at, kept_of, length, length-map}
use Rattle.bd_deaths.proofs.Words.{made_of, map, name_at, none_found, not, object_row, option_map, place_at, process_row, refl, subst, sym, true, with_cleared, ℕ, ◌&&◌, ◌<◌, ◌==◌, ◌∙◌, ◌∷◌, ◌≡◌}
use Rattle.bd_deaths.proofs.{Changes.{Found, by_place, find_map, find_same, found, none_there, once_name, once_place, once_slot}, Indexed.{found_once, found_turned, shown_less}, Sharing.{shared_same}}

pub record Keeps (F : Kept → Kept) (k : Kept) : Type 0 where
  pub made : (F k).death.made ≡ k.death.made
  pub process : (F k).death.process ≡ k.death.process
  pub object : (F k).death.object ≡ k.death.object
  pub serial : (F k).serial ≡ k.serial
  pub on : (F k).object ≡ k.object
  pub of : (F k).process ≡ k.process

map_same : {A B : Type 0} (f g : A → B) → ((x : A) → f x ≡ g x) → (xs : List A) → map f xs ≡ map g xs
map_same f g same [] = refl
map_same f g same (x ∷ xs) = (λ i. same x i ∷ map_same f g same xs i)

map_map : {A B C : Type 0} (f : B → C) (g : A → B) (xs : List A) → map f (map g xs) ≡ map (λ x. f (g x)) xs
map_map f g [] = refl
map_map f g (x ∷ xs) = ap (λ ys. f (g x) ∷ ys) (map_map f g xs)

pairs_mapped : {A : Type 0} (R : A → A → Type 0) (g : A → A) → ((a b : A) → R a b → R (g a) (g b)) → (xs : List A) → AllPairs R xs → AllPairs R (map g xs)
pairs_mapped R g more xs pairs i j d lt h =
    let within : j < length xs = subst (λ n. j < n) (length-map xs g) h in
    let before : i < length xs = omega (arith, within, lt) in
    subst (λ a. R a (get_or (map g xs) j d)) (sym (get_or-map g xs i d d before))
    (subst (λ b. R (g (get_or xs i d)) b) (sym (get_or-map g xs j d d within)) (more (get_or xs i d) (get_or xs j d) (pairs i j d lt within)))

module _ (F : Kept → Kept) (keeps : (k : Kept) → Keeps F k) where
  abbrev pub turn : Entry → Entry
  turn e = record e { kept = F e.kept }

  object_same : (e : Entry) → object_row (turn e) ≡ object_row e
  object_same e = let k = keeps e.kept in (λ i. record { key = k.on i; list = e.object; held = record { value = record { object = k.object i; at = e.at }; counted = false } })

  process_same : (e : Entry) → process_row (turn e) ≡ process_row e
  process_same e = let k = keeps e.kept in (λ i. record { key = k.of i; list = e.process; held = record { value = record { process = k.process i; made = k.made i; at = e.at }; counted = false } })

  module _ (P : DeathNotification → Bool) (f : DeathNotification → DeathNotification) (says : (k : Kept) → (F k).death ≡ cond (P k.death) (f k.death) k.death)
      (asks : (n : NameKey) (k : Kept) → asks_on n (F k).death ≡ true → asks_on n k.death ≡ true) where
    changes : (es : List Entry) → map death_of (map turn es) ≡ changed P f (map death_of es)
    changes [] = refl
    changes (e ∷ es) = (λ i. says e.kept i ∷ changes es i)

    apart_turned : (a b : Entry) → Apart a b → Apart (turn a) (turn b)
    apart_turned a b h = record {
      slots = h.slots;
      places = λ e. h.places (sym (keeps a.kept).made ∙ e ∙ (keeps b.kept).made);
      names = λ n x y. h.names n (asks n a.kept x) (asks n b.kept y);
      serials = subst (λ m. m < (F b.kept).serial) (sym (keeps a.kept).serial) (subst (λ m. a.kept.serial < m) (sym (keeps b.kept).serial) h.serials);
    }

    pub deaths_turned : (t u : DeathTable) (l : List DeathNotification) (h : DeathsAre t l)
        → ((rs : List (Row Watch)) → ObjectsShow t rs → ObjectsShow u rs) → ((rs : List (Row Mark)) → ProcessesShow t rs → ProcessesShow u rs)
        → ((k : ℕ) → kept_at u k ≡ option_map F (kept_at t k)) → ((m : ℕ) → place_at u m ≡ place_at t m)
        → ((n : NameKey) → name_at u n ≡ option_map at_of (find (λ e. asks_on n (F e.kept).death) h.entries))
        → u.next ≡ t.next → AreShared u.cookies (changed P f l) → DeathsAre u (changed P f l)
    deaths_turned t u l h objects processes slots places names next shared =
        let es = h.entries in
        record {
          entries = map turn es;
          are = record {
            on_objects = subst (ObjectsShow u) (sym (map_map object_row turn es ∙ map_same _ _ object_same es)) (objects (map object_row es) h.are.on_objects);
            of_processes = subst (ProcessesShow u) (sym (map_map process_row turn es ∙ map_same _ _ process_same es)) (processes (map process_row es) h.are.of_processes);
            slots_are = λ k. slots k ∙ ap (option_map F) (h.are.slots_are k) ∙ mapped (find (λ e. at_of e == k) es) ∙ sym (found_turned (λ e. at_of e == k) turn kept_of (λ e. refl) es);
            places_are = λ m. places m ∙ h.are.places_are m ∙ sym (found_turned (λ e. made_of e == m) turn at_of (λ e. ap (λ n. n == m) (keeps e.kept).made) es);
            names_are = λ n. names n ∙ sym (turned n es);
            apart = pairs_mapped Apart turn apart_turned es h.are.apart;
            fit = All-map (Fits u.next) turn es (λ i d lt. let w = h.are.fit i d lt in record { serial = subst (λ m. m < u.next) (sym (keeps (get_or es i d).kept).serial) (subst (λ n. (get_or es i d).kept.serial < n) (sym next) w.serial); at = w.at });
          };
          deaths_are = changes es ∙ ap (changed P f) h.deaths_are;
          shared = shared;
        }
      where
        mapped : (o : Option Entry) → option_map F (option_map kept_of o) ≡ option_map (λ e. kept_of (turn e)) o
        mapped None = refl
        mapped (Some e) = refl

        turned : (n : NameKey) (es : List Entry) → option_map at_of (find (λ e. asks_on n (death_of e)) (map turn es)) ≡ option_map at_of (find (λ e. asks_on n (F e.kept).death) es)
        turned n es = ap (option_map at_of) (find_map turn (λ e. asks_on n (death_of e)) es) ∙ at (find (λ e. asks_on n (F e.kept).death) es)
          where
            at : (o : Option Entry) → option_map at_of (option_map turn o) ≡ option_map at_of o
            at None = refl
            at (Some e) = refl

-- ---- those change that pass

module _ (P : DeathNotification → Bool) (g : Kept → Kept) where
  abbrev pub partly : Kept → Kept
  partly k = cond (P k.death) (g k) k

  pub either : {X : Type 0} (f : Kept → X) (k : Kept) → f (g k) ≡ f k → f (partly k) ≡ f k
  either f k same = at (P k.death)
    where
      at : (b : Bool) → f (cond b (g k) k) ≡ f k
      at true = same
      at false = refl

  pub keeps_partly : ((k : Kept) → Keeps g k) → (k : Kept) → Keeps partly k
  keeps_partly keeps k =
      let s = keeps k in
      record {
        made = either (λ k. k.death.made) k s.made;
        process = either (λ k. k.death.process) k s.process;
        object = either (λ k. k.death.object) k s.object;
        serial = either (λ k. k.serial) k s.serial;
        on = either (λ k. k.object) k s.on;
        of = either (λ k. k.process) k s.of;
      }

  pub says : (f : DeathNotification → DeathNotification) → ((k : Kept) → (g k).death ≡ f k.death) → (k : Kept) → (partly k).death ≡ cond (P k.death) (f k.death) k.death
  says f same k = at (P k.death)
    where
      at : (b : Bool) → (cond b (g k) k).death ≡ cond b (f k.death) k.death
      at true = same k
      at false = refl

-- some are in another phase
pub phases_turned : (P : DeathNotification → Bool) (phase : Phase) (t : DeathTable) (slots : Slab Kept) (cookies : WordMap Sharers) (l : List DeathNotification) → DeathsAre t l
    → ((k : ℕ) → get slots k ≡ option_map (partly P (in_phase phase)) (kept_at t k)) → AreShared cookies (changed P (λ x. record x { phase = phase }) l)
    → DeathsAre (record t { slots = slots; cookies = cookies }) (changed P (λ x. record x { phase = phase }) l)
phases_turned P phase t slots cookies l h are shared =
    let g = in_phase phase in
    deaths_turned (partly P g) (keeps_partly P g (λ k. record { made = refl; process = refl; object = refl; serial = refl; on = refl; of = refl })) P (λ x. record x { phase = phase }) (says P g (λ x. record x { phase = phase }) (λ k. refl))
    (λ n k on. sym (either P g (λ k. asks_on n k.death) k refl) ∙ on)
    t (record t { slots = slots; cookies = cookies }) l h (λ rs s. s) (λ rs s. s) are (λ m. refl)
    (λ n. h.are.names_are n ∙ ap (option_map at_of) (find_same _ _ (λ e. sym (either P g (λ k. asks_on n k.death) e.kept refl)) h.entries)) refl shared

-- ---- the one made at a place

module _ (t : DeathTable) (m : ℕ) (l : List DeathNotification) (h : DeathsAre t l) where
  pub one_turned : (at : ℕ) (g : Kept → Kept) → place_at t m ≡ Some at
      → (k : ℕ) → cond (at == k) (option_map g (kept_at t k)) (kept_at t k) ≡ option_map (λ k. cond (is_notification m k.death) (g k) k) (kept_at t k)
  one_turned at g place k = subst (λ o. cond (at == k) (option_map g o) o ≡ option_map (λ k. cond (is_notification m k.death) (g k) k) o) (sym (h.are.slots_are k)) (of (find (λ e. at_of e == k) es) refl)
    where
      some_is : {a b : Entry} → Some a ≡ Some b → a ≡ b
      some_is e = cc

      es : List Entry
      es = h.entries

      f : Found t es (has made_of m) at
      f = found t es (has made_of m) at h.are (sym (h.are.places_are m) ∙ place)

      slot_is : at_of f.entry ≡ at
      slot_is = f.slot

      place_is : (made_of f.entry == m) ≡ true
      place_is = found_passes (has made_of m) es f.entry f.is

      -- what stands in a slot was made there exactly if the slot is that one's
      same : (e : Entry) → find (λ e. at_of e == k) es ≡ Some e → (b c : Bool) → (at == k) ≡ b → (made_of e == m) ≡ c → b ≡ c
      same e is true true x y = refl
      same e is false false x y = refl
      same e is true false x y =
          let one = found_once (λ e. at_of e == k) (has made_of m) es f.entry (once_slot es h.are.apart k) f.is (ap (λ n. n == k) slot_is ∙ x) in
          let it : f.entry ≡ e = some_is (sym one ∙ is) in
          sym (sym (ap (λ e. made_of e == m) it ∙ y) ∙ place_is)
      same e is false true x y =
          let one = found_once (has made_of m) (λ e. at_of e == k) es e (once_place es h.are.apart m) is y in
          let it : f.entry ≡ e = some_is (sym f.is ∙ one) in
          sym x ∙ ap (λ n. n == k) (sym slot_is) ∙ ap (λ e. at_of e == k) it ∙ found_passes (λ e. at_of e == k) es e is

      of : (o : Option Entry) → find (λ e. at_of e == k) es ≡ o
          → cond (at == k) (option_map g (option_map kept_of o)) (option_map kept_of o) ≡ option_map (λ k. cond (is_notification m k.death) (g k) k) (option_map kept_of o)
      of None is = none (at == k)
        where
          none : (b : Bool) → cond {A = Option Kept} b None None ≡ None
          none true = refl
          none false = refl
      of (Some e) is = rw (same e is (at == k) (made_of e == m) refl refl) (some (made_of e == m))
        where
          some : (b : Bool) → cond b (Some (g e.kept)) (Some e.kept) ≡ Some (cond b (g e.kept) e.kept)
          some true = refl
          some false = refl

  pub nothing_changes : (f : DeathNotification → DeathNotification) → place_at t m ≡ None → changed (is_notification m) f l ≡ l
  nothing_changes f none = changed_none (λ (x : DeathNotification). x.made) f m l (none_found (is_notification m) l (none_there t m l h none))

-- ---- it is cleared

find_filter : {A : Type 0} (p q : A → Bool) (xs : List A) → find p (filter q xs) ≡ find (λ x. q x && p x) xs
find_filter p q [] = refl
find_filter p q (x ∷ xs) = grind (arith, find_filter p q xs)

pub cleared_turned : (t : DeathTable) (m : ℕ) (l : List DeathNotification) (h : DeathsAre t l) (at : ℕ) (x : DeathNotification) → place_at t m ≡ Some at
    → option_map (λ k. k.death) (kept_at t at) ≡ Some x → (u : DeathTable) → ((rs : List (Row Watch)) → ObjectsShow t rs → ObjectsShow u rs) → ((rs : List (Row Mark)) → ProcessesShow t rs → ProcessesShow u rs)
    → ((k : ℕ) → kept_at u k ≡ cond (at == k) (option_map with_cleared (kept_at t k)) (kept_at t k)) → ((n : ℕ) → place_at u n ≡ place_at t n)
    → ((n : NameKey) → name_at u n ≡ cond (asks_on n x) None (name_at t n)) → u.next ≡ t.next → u.cookies ≡ t.cookies → DeathsAre u (changed (is_notification m) (λ x. record x { cleared = true }) l)
cleared_turned t m l h at x place there u objects processes set places gone next cookies =
    deaths_turned (partly P with_cleared) (keeps_partly P with_cleared (λ k. record { made = refl; process = refl; object = refl; serial = refl; on = refl; of = refl })) P (λ x. record x { cleared = true })
    (says P with_cleared (λ x. record x { cleared = true }) (λ k. refl))
    (λ n k on. (and_parts (not (P k.death)) (asks_on n k.death) (sym (asks_cleared n k (P k.death)) ∙ on)).1)
    t u l h objects processes (λ k. set k ∙ one_turned t m l h at with_cleared place k) places
    (λ n. gone n ∙ ap (λ y. cond (asks_on n y) None (name_at t n)) (sym same) ∙ ap (λ o. cond (asks_on n (death_of f.entry)) None o) (h.are.names_are n)
    ∙ shown_less (λ e. asks_on n (death_of e)) at_of made_of m es f.entry (by_place es h.are.apart) (once_name es h.are.apart n) f.is
    ∙ ap (option_map at_of) (find_filter (λ e. asks_on n (death_of e)) (λ e. not (has made_of m e)) es
    ∙ find_same _ _ (λ e. sym (asks_cleared n e.kept (P (death_of e)))) es)) next
    (subst (λ c. AreShared c (changed (is_notification m) (λ x. record x { cleared = true }) l)) (sym cookies) (shared_same t.cookies l (is_notification m) (λ x. record x { cleared = true }) (λ k x. refl) (λ k x on. refl) h.shared))
  where
    P : DeathNotification → Bool
    P = is_notification m

    es : List Entry
    es = h.entries

    f : Found t es (has made_of m) at
    f = found t es (has made_of m) at h.are (sym (h.are.places_are m) ∙ place)

    some_is : {a b : DeathNotification} → Some a ≡ Some b → a ≡ b
    some_is e = cc

    same : death_of f.entry ≡ x
    same = some_is (sym (ap (option_map (λ k. k.death)) f.kept) ∙ there)

    -- it no longer is on its name
    asks_cleared : (n : NameKey) (k : Kept) (b : Bool) → asks_on n (cond b (with_cleared k) k).death ≡ (not b && asks_on n k.death)
    asks_cleared n k true = refl
    asks_cleared n k false = refl
