-- The windows of all live processes through each change.
use Rattle.bd_buffers.proofs.Words.{All, All-filter, All-map, All-weaker, AllPairs-filter, AreHomes, AreInOrder, AreMade, Bool, Bor, Buffer, CanAdd, CanHold, Cause, Err, IfOk, IfSome, List, MatchOption, None, Ok, Option, OwnedWindow, Process, ProcessWindow, Result, Some, Stands, StandsAt, Window, Windows}
use Rattle.bd_buffers.proofs.Words.{WindowsOf, any_some, ap, arith, buffer_in, buffers_held, buffers_of, changed, changed_at, changed_none, distinct, eq-eqb, eqb-true, false, filter, find, find_at, found_passes, get_or, get_or-map, get_or-set_same, get_or_default, hand_out, handed_buffers, home_key, is_made_at}
use Rattle.bd_buffers.proofs.Words.{is_of, is_owned_by, is_some, length, length-map, length-set, lives_in, look, made_of_buffer, map, map-set, map-set_same, map_push, not, option_copied, option_map, process_in, refl, seen, set, subst, sym, true}
use Rattle.bd_buffers.proofs.Words.{window_of, with_buffers, ℕ, [], ◌++◌, ◌+◌, ◌<◌, ◌==◌, ◌∙◌, ◌∷◌, ◌≡◌, ◌≢◌}
use Rattle.bd_buffers.proofs.{InSpace.{added, added_elsewhere, buffer_made, found_kept, home_finds, not_yet, others_stay, process_gone, process_made}, Made.{kept_some, none_left, same_keys}, Standing.{all_of, filtered_of, found_of}}
use Rattle.std.proofs.Math.ListN as list

-- ---- they stay in order

abbrev owners : List OwnedWindow → List ℕ
owners ws = map (λ w. w.owner) ws

-- where some go
pub order_kept : (keep : OwnedWindow → Bool) (ws new : List OwnedWindow) → new ≡ filter keep ws → AreInOrder ws → AreInOrder new
order_kept keep ws new e order = subst AreInOrder (sym e) (AllPairs-filter (λ (a : OwnedWindow) (b : OwnedWindow). a.owner < b.owner) keep ws order)

pub owners_seen : (ws : List OwnedWindow) → owners ws ≡ map (λ (x : ProcessWindow). x.owner) (map seen ws)
owners_seen [] = refl
owners_seen (w ∷ ws) = ap (λ ns. w.owner ∷ ns) (owners_seen ws)

owners_one : (f : List Buffer → List Buffer) (p : ℕ) (xs : List ProcessWindow) → map (λ (x : ProcessWindow). x.owner) (changed (is_of p) (with_buffers f) xs) ≡ map (λ (x : ProcessWindow). x.owner) xs
owners_one f p [] = refl
owners_one f p (x ∷ xs) = grind (arith, owners_one f p xs)

pub order_one : (f : List Buffer → List Buffer) (p : ℕ) (ws new : List OwnedWindow) → map seen new ≡ changed (is_of p) (with_buffers f) (map seen ws) → AreInOrder ws → AreInOrder new
order_one f p ws new e order =
    same_keys (λ (w : OwnedWindow). w.owner) (λ (w : OwnedWindow). w.owner) ws new (owners_seen new ∙ ap (map (λ (x : ProcessWindow). x.owner)) e ∙ owners_one f p (map seen ws) ∙ sym (owners_seen ws)) order

-- ---- whose they are

-- those of processes that were opened before a step
pub owners_before : (ws : List OwnedWindow) (bs : List Buffer) (ps : List Process) (bound : ℕ) → map seen ws ≡ map (window_of bs) ps → All (λ q. q.made < bound) ps
    → All (λ w. w.owner < bound) ws
owners_before ws bs ps bound e before =
    all_of seen (λ x. x.owner < bound) ws (subst (All (λ (x : ProcessWindow). x.owner < bound)) (sym e) (All-map (λ (x : ProcessWindow). x.owner < bound) (window_of bs) ps before))

-- a window that stands for these buffers now
pub seen_as : (w old : OwnedWindow) (f : List Buffer → List Buffer) → w.owner ≡ old.owner → Stands w.window old.window.size (f old.window.buffers) → seen w ≡ with_buffers f (seen old)
seen_as w old f e is = let size = is.size_is in let buffers = is.buffers_are in cc

-- ---- what the windows are after each change

-- where one process's buffers change, and all others' stay
one_window : (f : List Buffer → List Buffer) (bs new : List Buffer) (p : ℕ) → f (buffers_of bs p) ≡ buffers_of new p → ((r : ℕ) → r ≢ p → buffers_of bs r ≡ buffers_of new r) → (ps : List Process)
    → changed (is_of p) (with_buffers f) (map (window_of bs) ps) ≡ map (window_of new) ps
one_window f bs new p own other [] = refl
one_window f bs new p own other (q ∷ ps) = grind (arith, eqb-true, eq-eqb, one_window f bs new p own other ps)

pub one_changes : (t u : Windows) (bound after p : ℕ) (ps : List Process) (bs new : List Buffer) (f : List Buffer → List Buffer) → map seen u.windows ≡ changed (is_of p) (with_buffers f) (map seen t.windows)
    → f (buffers_of bs p) ≡ buffers_of new p → ((r : ℕ) → r ≢ p → buffers_of bs r ≡ buffers_of new r) → AreMade after ps new → AreHomes u.homes new → WindowsOf t bound ps bs → WindowsOf u after ps new
one_changes t u bound after p ps bs new f e own other made homes stands = grind (arith, one_window)

-- ---- whose windows they are

owned : (t : Windows) (bound p : ℕ) (ps : List Process) (bs : List Buffer) → WindowsOf t bound ps bs
    → option_map seen (find (is_owned_by p) t.windows) ≡ option_map (window_of bs) (process_in ps p)
owned t bound p ps bs stands =
    sym (found_of seen (is_of p) t.windows) ∙ ap (find (is_of p)) stands.windows_are ∙ found_of (window_of bs) (is_of p) ps

is_process : (ps : List Process) (p : ℕ) (q : Process) → process_in ps p ≡ Some q → q.made ≡ p
is_process ps p q e = eqb-true q.made p (found_passes (λ (x : Process). x.made == p) ps q e)

not_living : (ps : List Process) (p : ℕ) → process_in ps p ≡ None → lives_in ps p ≡ false
not_living ps p none = grind (arith, any_some)

-- what is found is the window of a process that lives; where none does, nothing is
pub told_of : (t : Windows) (bound p : ℕ) (ps : List Process) (bs : List Buffer) (r : Option (Bor OwnedWindow)) → WindowsOf t bound ps bs → option_copied r ≡ find (is_owned_by p) t.windows
    → ((q : Process) → process_in ps p ≡ Some q → MatchOption r ⊥ (λ w. Stands w.now.window q.window (buffers_of bs p))) × (process_in ps p ≡ None → IfSome r (λ w. ⊥))
told_of t bound p ps bs None stands found = let own = owned t bound p ps bs stands in (λ q lives. grind arith, λ gone. tt)
told_of t bound p ps bs (Some w) stands found = let own = owned t bound p ps bs stands in (λ q lives. (let made = is_process ps p q lives in grind arith), λ gone. cc)

living_other : (ps : List Process) (r p : ℕ) → lives_in ps r ≡ true → lives_in ps p ≡ false → (r == p) ≡ false
living_other ps r p lives gone = grind (arith, eqb-true)

-- who doesn't live receives nothing
none_received : (ps : List Process) (p : ℕ) (bs : List Buffer) → lives_in ps p ≡ false → All (λ (b : Buffer). lives_in ps b.receiver ≡ true) bs → buffers_of bs p ≡ []
none_received ps p bs gone all = search (arith, none_left, All-weaker, living_other)

held_by : (bs : List Buffer) (p : ℕ) (o : Option OwnedWindow) (r : Option Process) → option_map seen o ≡ option_map (window_of bs) r → (r ≡ None → buffers_of bs p ≡ [])
    → ((q : Process) → r ≡ Some q → q.made ≡ p) → buffers_held o ≡ buffers_of bs p
held_by bs p o r e none some = grind arith

pub held : (t : Windows) (bound p : ℕ) (ps : List Process) (bs : List Buffer) → WindowsOf t bound ps bs → buffers_held (find (is_owned_by p) t.windows) ≡ buffers_of bs p
held t bound p ps bs stands =
    held_by bs p _ (process_in ps p) (owned t bound p ps bs stands) (λ gone. none_received ps p bs (not_living ps p gone) stands.made.received) (is_process ps p)

-- its live buffers were all made before the step
pub older : (t : Windows) (bound p : ℕ) (ps : List Process) (bs : List Buffer) (w : OwnedWindow) → WindowsOf t bound ps bs → find (is_owned_by p) t.windows ≡ Some w
    → All (λ b. b.made < bound) w.window.buffers
older t bound p ps bs w stands found =
    subst (All (λ (b : Buffer). b.made < bound)) (sym (held t bound p ps bs stands) ∙ ap buffers_held found) (All-filter (λ b. b.receiver == p) (λ b. b.made < bound) bs stands.made.buffers_before)

-- ---- a process more

pub opened : (t u : Windows) (bound : ℕ) (ps : List Process) (bs : List Buffer) (q : Process) (w : OwnedWindow) → q.made ≡ bound → w.owner ≡ q.made → Stands w.window q.window []
    → u.windows ≡ t.windows ++ w ∷ [] → u.homes ≡ t.homes → WindowsOf t bound ps bs → WindowsOf u (bound + 1) (ps ++ q ∷ []) bs
opened t u bound ps bs q w e own is pushed homes stands =
    let none = none_received ps q.made bs (rw e (not_yet ps bound stands.made.processes_before)) stands.made.received in
    let size = is.size_is in let buffers = is.buffers_are in
    record { windows_are = simp (pushed, map_push) (cc); made = process_made bound ps bs q e stands.made; homes_are = rw homes stands.homes_are }

-- ---- a process that ends

close_all : (bs : List Buffer) (p : ℕ) (ps : List Process) → filter (λ x. not (is_of p x)) (map (window_of bs) ps)
    ≡ map (window_of (filter (λ b. not (b.receiver == p)) bs)) (filter (λ q. not (q.made == p)) ps)
close_all bs p [] = refl
close_all bs p (q ∷ ps) = let rest = close_all bs p ps in let own = others_stay bs p q.made in grind (arith, others_stay, eq-eqb, eqb-true)

pub closed : (t u : Windows) (bound p : ℕ) (ps : List Process) (bs : List Buffer) → u.windows ≡ filter (λ w. not (is_owned_by p w)) t.windows
    → AreHomes u.homes (filter (λ b. not (b.receiver == p)) bs) → WindowsOf t bound ps bs → WindowsOf u bound (filter (λ q. not (q.made == p)) ps) (filter (λ b. not (b.receiver == p)) bs)
closed t u bound p ps bs e homes stands =
    let left = ap (map seen) e ∙ filtered_of seen (λ x. not (is_of p x)) t.windows ∙ ap (filter (λ x. not (is_of p x))) stands.windows_are ∙ close_all bs p ps in
    record { windows_are = left; made = process_gone bound p ps bs stands.made; homes_are = homes }

-- ---- one window of them

-- the window at the place that is found
pub found_at : (ws : List OwnedWindow) (p i : ℕ) (w : OwnedWindow) → AreInOrder ws → StandsAt ws p (Some i) → w ≡ get_or ws i w → find (is_owned_by p) ws ≡ Some w
found_at ws p i w order here at = find_at (λ (x : OwnedWindow). x.owner) p ws i w (distinct (λ x. x.owner) ws order) here.0 here.1 ∙ ap (λ x. Some x) (sym at)

-- the window that stands there after it is changed
pub left_at : (ws : List OwnedWindow) (p i : ℕ) (w : OwnedWindow) (new : Window) → AreInOrder ws → StandsAt ws p (Some i) → w ≡ get_or ws i w
    → find (is_owned_by p) (set ws i (record w { window = new })) ≡ Some (record w { window = new })
left_at ws p i w new order here at =
    let owner = λ (x : OwnedWindow). x.owner in
    let x : OwnedWindow = record w { window = new } in
    let owners : map owner (set ws i x) ≡ map owner ws = map-set_same owner ws i x w (ap owner at) in
    let there : (d : OwnedWindow) → get_or (set ws i x) i d ≡ x = λ d. get_or-set_same ws i x d here.0 in
    found_at (set ws i x) p i x (same_keys owner owner ws (set ws i x) owners order) (rw length-set here.0, λ d. ap owner (there d) ∙ ap owner at ∙ here.1 w) (sym (there x))

-- the windows are seen as before where one is changed that still stands for the same
pub stay_seen : (ws : List OwnedWindow) (i : ℕ) (w : OwnedWindow) (new : Window) → w ≡ get_or ws i w → ((size : ℕ) (bs : List Buffer) → Stands w.window size bs → Stands new size bs)
    → map seen (set ws i (record { owner = w.owner; window = new })) ≡ map seen ws
stay_seen ws i w new at kept = search (arith, map-set_same)

pub stay : (t u : Windows) (bound : ℕ) (ps : List Process) (bs : List Buffer) → map seen u.windows ≡ map seen t.windows → AreHomes u.homes bs → WindowsOf t bound ps bs → WindowsOf u bound ps bs
stay t u bound ps bs e homes stands = grind arith

pub can_add_of : (t : Windows) (p : ℕ) (w : OwnedWindow) (one_way : Bool) (n : ℕ) (r : Result ℕ Cause) → find (is_owned_by p) t.windows ≡ Some w
    → IfOk r (λ start. CanHold w.window one_way n start) → IfOk r (λ start. CanAdd t p one_way n start)
unfolding CanAdd CanHold
can_add_of t p w one_way n (Ok start) found can = rw (found_of seen (is_of p), found) can
can_add_of t p w one_way n (Err x) found can = tt

-- ---- a buffer more

pub buffer_added : (t u : Windows) (bound : ℕ) (ps : List Process) (bs : List Buffer) (b : Buffer) (w : OwnedWindow) → b.made ≡ bound → find (is_owned_by b.receiver) t.windows ≡ Some w
    → map seen u.windows ≡ changed (is_of b.receiver) (with_buffers (λ xs. xs ++ b ∷ [])) (map seen t.windows) → AreHomes u.homes (bs ++ b ∷ []) → WindowsOf t bound ps bs
    → WindowsOf u (bound + 1) ps (bs ++ b ∷ [])
buffer_added t u bound ps bs b w e found is homes stands =
    let own = owned t bound b.receiver ps bs stands in
    let lives : lives_in ps b.receiver ≡ true = any_some (λ (x : Process). x.made == b.receiver) ps ∙ lives_as (process_in ps b.receiver) (ap (option_map seen) (sym found) ∙ own) in
    one_changes t u bound (bound + 1) b.receiver ps bs (bs ++ b ∷ []) (λ xs. xs ++ b ∷ []) is (sym (added bs b b.receiver refl)) (λ r ne. sym (added_elsewhere bs b r (λ same. ne (sym same))))
    (buffer_made bound ps bs b e lives stands.made) homes stands
  where
    lives_as : (o : Option Process) → Some (seen w) ≡ option_map (window_of bs) o → is_some o ≡ true
    lives_as o e = grind arith

-- each window is that of its owner
pub stands_there : (ws : List OwnedWindow) (i : ℕ) (w : OwnedWindow) → AreInOrder ws → i < length ws → w ≡ get_or ws i w → find (is_owned_by w.owner) ws ≡ Some w
stands_there ws i w order within at = found_at ws w.owner i w order (within, λ d. ap (λ (x : OwnedWindow). x.owner) (get_or_default ws i d w within ∙ sym at)) at

-- a buffer that is found in some window is the one that was made there
pub guessed : (t : Windows) (bound i made : ℕ) (ps : List Process) (bs : List Buffer) (w : OwnedWindow) (b : Buffer) → WindowsOf t bound ps bs → AreInOrder t.windows → i < length t.windows
    → w ≡ get_or t.windows i w → Some b ≡ buffer_in w.window.buffers made → Some b ≡ buffer_in bs made
guessed t bound i made ps bs w b stands order within at found =
    let mine = ap buffers_held (sym (stands_there t.windows i w order within at)) ∙ held t bound w.owner ps bs stands in
    sym (kept_some (λ (x : Buffer). x.receiver == w.owner) (buffer_in bs made) b (sym (found ∙ ap (λ xs. buffer_in xs made) mine ∙ found_kept (λ x. x.receiver == w.owner) bs made stands.made.buffers_in_order))).0

-- what was made there lies in the window of the process whose home it is
pub looked_up : (t : Windows) (bound made p : ℕ) (ps : List Process) (bs : List Buffer) (o : Option OwnedWindow) → WindowsOf t bound ps bs → look t.homes (home_key made) ≡ Some p
    → find (is_owned_by p) t.windows ≡ o → buffer_in (buffers_held o) made ≡ buffer_in bs made
looked_up t bound made p ps bs o stands home found =
    ap (λ x. buffer_in (buffers_held x) made) (sym found) ∙ ap (λ xs. buffer_in xs made) (held t bound p ps bs stands)
    ∙ home_finds t.homes bs made p stands.made.buffers_in_order stands.homes_are home

-- ---- the answers of the table

-- where what is made of the window is that of its buffers
pub one_made : (ws : List OwnedWindow) (p i : ℕ) (w : OwnedWindow) (new : Window) (f : List Buffer → List Buffer) → AreInOrder ws → StandsAt ws p (Some i) → w ≡ get_or ws i w
    → Stands new w.window.size (f w.window.buffers) → map seen (set ws i (record w { window = new })) ≡ changed (is_of p) (with_buffers f) (map seen ws)
one_made ws p i w new f order here at stands =
    let owner = λ (y : ProcessWindow). y.owner in
    let x : OwnedWindow = record w { window = new } in
    let there : (d : ProcessWindow) → (get_or (map seen ws) i d).owner ≡ p = λ d. ap owner (get_or-map seen ws i w d here.0) ∙ here.1 w in
    let rising = same_keys (λ (y : OwnedWindow). y.owner) owner ws (map seen ws) (sym (owners_seen ws)) order in
    map-set seen ws i x ∙ ap (set (map seen ws) i) (seen_as x w f refl stands ∙ ap (with_buffers f) (ap seen at ∙ sym (list.get_or-map seen ws i w)))
    ∙ sym (changed_at owner (with_buffers f) p (map seen ws) i (seen w) (distinct owner (map seen ws) rising) (omega (arith, here.0, length-map ws seen)) there)

pub one_missed : (ws : List OwnedWindow) (p : ℕ) (f : List Buffer → List Buffer) → StandsAt ws p None → map seen ws ≡ changed (is_of p) (with_buffers f) (map seen ws)
one_missed ws p f none = sym (changed_none (λ (y : ProcessWindow). y.owner) (with_buffers f) p (map seen ws) (All-map (λ (x : ProcessWindow). (x.owner == p) ≡ false) seen ws none))

-- what is read hands over the buffer that was made there, if any
pub handed_by : (t : Windows) (bound : ℕ) (ps : List Process) (bs : List Buffer) (o : Option Buffer) (made : ℕ) → Some made ≡ option_map made_of_buffer o
    → WindowsOf t bound ps (changed (is_made_at made) hand_out bs) → WindowsOf t bound ps (handed_buffers bs o)
handed_by t bound ps bs o made e stands = search arith

pub none_handed_by : (t : Windows) (bound : ℕ) (ps : List Process) (bs : List Buffer) (o : Option Buffer) → None ≡ option_map made_of_buffer o → WindowsOf t bound ps bs
    → WindowsOf t bound ps (handed_buffers bs o)
none_handed_by t bound ps bs o e stands = search arith
