-- How the live buffers of one window go with all those of a space, for a table in which the window of each live process p
-- stands for `buffers_of buffers p`.
use Rattle.bd_buffers.proofs.Words.{All, All-filter, All-head, All-push, All-tail, All-weaker, AllPairs-filter, AreHomes, AreMade, Bool, Buffer, Forgets, List, None, Option, Process, Rising, Some, WordKey, WordMap, all_pairs_push, any-filter_same, ap, append-nil, arith, at_pointer, buffer_in, buffers_of, changed}
use Rattle.bd_buffers.proofs.Words.{common_steps, cond, distinct, eq-eqb, eqb-true, false, filter, filter-append, filter_passes, find, find_gone, find_none, find_stays, get_or, hand_out, home_key, is_made_at, is_some, kept, list_any, list_any-append, lives_in, look, map, ne_eqb, none_found, not, pointer, refl}
use Rattle.bd_buffers.proofs.Words.{same_word, sym, tags_changed, tags_more, true, ℕ, [], ◌&&◌, ◌++◌, ◌+◌, ◌<◌, ◌==◌, ◌||◌, ◌∙◌, ◌∷◌, ◌≡◌, ◌≢◌, ◌≤◌}
use Rattle.bd_buffers.proofs.Made.{All_changed, find_kept, pairs_changed}

abbrev is_in : ℕ → Buffer → Bool
is_in p b = b.receiver == p

-- ---- lists

module _ {A : Type 0} where
  find_filter : (q r : A → Bool) (xs : List A) → find r (filter q xs) ≡ find (λ x. q x && r x) xs
  find_filter q r [] = refl
  find_filter q r (x ∷ xs) = grind (arith, find_filter q r xs)

  filter_swap : (q r : A → Bool) (xs : List A) → filter q (filter r xs) ≡ filter r (filter q xs)
  filter_swap q r [] = refl
  filter_swap q r (x ∷ xs) = grind (arith, filter_swap q r xs)

  pub filter_changed : (q p : A → Bool) (f : A → A) → ((x : A) → q (f x) ≡ q x) → (xs : List A) → filter q (changed p f xs) ≡ changed p f (filter q xs)
  filter_changed q p f same [] = refl
  filter_changed q p f same (x ∷ xs) = let own = same x in grind (arith, filter_changed q p f same xs)

  -- what goes, goes where the others don't pass anyway
  pub filter_kept : (q r : A → Bool) → ((x : A) → q x ≡ true → r x ≡ true) → (xs : List A) → filter q (filter r xs) ≡ filter q xs
  filter_kept q r both [] = refl
  filter_kept q r both (x ∷ xs) = let own = both x in grind (arith, filter_kept q r both xs)

-- ---- what is found in a window by a pointer

pub at_pointer_in : (buffers : List Buffer) (p ptr : ℕ) → find (at_pointer ptr) (buffers_of buffers p) ≡ find (λ b. (b.receiver == p) && (pointer b == ptr)) buffers
at_pointer_in buffers p ptr = find_filter (is_in p) (at_pointer ptr) buffers

-- ---- one more buffer

pub added : (buffers : List Buffer) (b : Buffer) (p : ℕ) → b.receiver ≡ p → buffers_of (buffers ++ b ∷ []) p ≡ buffers_of buffers p ++ b ∷ []
added buffers b p own = let e = eq-eqb b.receiver p own in simp (filter-append, e)

pub added_elsewhere : (buffers : List Buffer) (b : Buffer) (p : ℕ) → b.receiver ≢ p → buffers_of (buffers ++ b ∷ []) p ≡ buffers_of buffers p
added_elsewhere buffers b p other = search (arith, filter-append, append-nil)

-- ---- buffers that go, and one that is handed out

pub kept_in : (keep : Buffer → Bool) (buffers : List Buffer) (p : ℕ) → buffers_of (filter keep buffers) p ≡ filter keep (buffers_of buffers p)
kept_in keep buffers p = filter_swap (is_in p) keep buffers

pub handed_in : (buffers : List Buffer) (p made : ℕ) → buffers_of (changed (is_made_at made) hand_out buffers) p ≡ changed (is_made_at made) hand_out (buffers_of buffers p)
handed_in buffers p made = filter_changed (is_in p) (is_made_at made) hand_out (λ b. refl) buffers

-- the window of one process goes, and the others stay
pub others_stay : (buffers : List Buffer) (p q : ℕ) → q ≢ p → buffers_of (filter (λ b. not (b.receiver == p)) buffers) q ≡ buffers_of buffers q
others_stay buffers p q other =
    filter_kept (is_in q) (λ b. not (is_in p b)) (λ b e. ap not (ne_eqb b.receiver p (λ same. other (sym (eqb-true b.receiver q e) ∙ same)))) buffers

-- ---- who lives, and all in the order in which they were made

lives_more : (ps : List Process) (q : Process) (r : ℕ) → lives_in ps r ≡ true → lives_in (ps ++ q ∷ []) r ≡ true
lives_more ps q r e = list_any-append (λ (x : Process). x.made == r) ps (q ∷ []) ∙ ap (λ b. b || lives_in (q ∷ []) r) e

pub not_yet : (ps : List Process) (bound : ℕ) → All (λ q. q.made < bound) ps → lives_in ps bound ≡ false
not_yet [] bound before = refl
not_yet (q ∷ ps) bound before =
    let first = All-head (λ x. x.made < bound) q ps before in let rest = not_yet ps bound (All-tail (λ x. x.made < bound) q ps before) in grind (arith, eqb-true)

lives_after : (ps : List Process) (p r : ℕ) → not (r == p) ≡ true → lives_in ps r ≡ true → lives_in (filter (λ q. not (q.made == p)) ps) r ≡ true
lives_after ps p r other e =
    any-filter_same (λ (x : Process). x.made == r) (λ x. not (x.made == p)) true (λ x same. ap (λ n. not (n == p)) (eqb-true x.made r same) ∙ other) ps ∙ e

All_filtered : {A : Type 0} (p : A → Bool) (P Q : A → Type 0) → ((x : A) → p x ≡ true → P x → Q x) → (xs : List A) → All P xs → All Q (filter p xs)
All_filtered p P Q k xs all i d h = k (get_or (filter p xs) i d) (filter_passes p xs i d h) (All-filter p P xs all i d h)

pub made_wider : (bound more : ℕ) (ps : List Process) (bs : List Buffer) → bound ≤ more → AreMade bound ps bs → AreMade more ps bs
made_wider bound more ps bs le is = search (arith, All-weaker)

pub process_made : (bound : ℕ) (ps : List Process) (bs : List Buffer) (q : Process) → q.made ≡ bound → AreMade bound ps bs → AreMade (bound + 1) (ps ++ q ∷ []) bs
process_made bound ps bs q e is = grind (arith, common_steps, made_wider, All-weaker, all_pairs_push, All-push, lives_more)

pub buffer_made : (bound : ℕ) (ps : List Process) (bs : List Buffer) (b : Buffer) → b.made ≡ bound → lives_in ps b.receiver ≡ true → AreMade bound ps bs
    → AreMade (bound + 1) ps (bs ++ b ∷ [])
buffer_made bound ps bs b e lives is = grind (arith, common_steps, made_wider, All-weaker, all_pairs_push, All-push)

pub made_kept : (bound : ℕ) (ps : List Process) (keep : Buffer → Bool) (bs : List Buffer) → AreMade bound ps bs → AreMade bound ps (filter keep bs)
made_kept bound ps keep bs is = search (arith, AllPairs-filter, All-filter)

pub made_handed : (bound : ℕ) (ps : List Process) (p : Buffer → Bool) (bs : List Buffer) → AreMade bound ps bs → AreMade bound ps (changed p hand_out bs)
made_handed bound ps p bs is = search (arith, All_changed, pairs_changed)

pub process_gone : (bound p : ℕ) (ps : List Process) (bs : List Buffer) → AreMade bound ps bs
    → AreMade bound (filter (λ q. not (q.made == p)) ps) (filter (λ b. not (b.receiver == p)) bs)
process_gone bound p ps bs is =
    let received = All_filtered (λ b. not (b.receiver == p)) (λ b. lives_in ps b.receiver ≡ true) (λ b. lives_in (filter (λ q. not (q.made == p)) ps) b.receiver ≡ true)
    (λ b other lives. lives_after ps p b.receiver other lives) bs is.received in
    search (arith, AllPairs-filter, All-filter)

-- ---- by where they were made

-- the keys of two places are the same where the places are
key_word : (p q : ℕ) → same_word (home_key p) (home_key q) ≡ (p == q)
key_word p q = search (arith, eq-eqb, eqb-true)

-- no buffer was made there
abbrev pub NoneAt : ℕ → List Buffer → Type 0
NoneAt m bs = All (λ b. (b.made == m) ≡ false) bs

abbrev pub made_of : Buffer → ℕ
made_of b = b.made

-- what of the buffer made there is among those kept
pub found_kept : (keep : Buffer → Bool) (bs : List Buffer) (m : ℕ) → Rising made_of bs → buffer_in (filter keep bs) m ≡ kept keep (buffer_in bs m)
found_kept keep bs m rising = find_kept made_of keep m bs (distinct made_of bs rising)

-- ---- where there is no home, or another's

pub none_home : (homes : WordMap ℕ) (bs : List Buffer) (m : ℕ) → AreHomes homes bs → look homes (home_key m) ≡ None → NoneAt m bs
none_home homes bs m are none = let at = are m in let missed = none_found (is_made_at m) bs in grind arith

pub others_home : (homes : WordMap ℕ) (bs : List Buffer) (m p r : ℕ) → Rising made_of bs → AreHomes homes bs → look homes (home_key m) ≡ Some p → r ≢ p → NoneAt m (buffers_of bs r)
others_home homes bs m p r rising are home other =
    none_found (is_made_at m) (buffers_of bs r) (let at = are m in let left = found_kept (λ b. b.receiver == r) bs m rising in grind (arith, eqb-true))

-- ---- where there is its own

pub home_finds : (homes : WordMap ℕ) (bs : List Buffer) (m p : ℕ) → Rising made_of bs → AreHomes homes bs → look homes (home_key m) ≡ Some p → buffer_in (buffers_of bs p) m ≡ buffer_in bs m
home_finds homes bs m p rising are home = grind (arith, found_kept, eq-eqb)

pub homes_noted : (homes left : WordMap ℕ) (bs : List Buffer) (b : Buffer) → AreHomes homes bs → All (λ x. x.made < b.made) bs
    → ((k : WordKey) → look left k ≡ cond (same_word (home_key b.made) k) (Some b.receiver) (look homes k)) → AreHomes left (bs ++ b ∷ [])
homes_noted homes left bs b are before put m =
    let none = find_none made_of b.made bs (λ k d lt. (let low = before k d lt in ne_eqb (get_or bs k d).made b.made (λ e. absurd (omega (arith, e, low))))) in
    let more = tags_more made_of (λ x. x.receiver) bs b m none in
    let key = key_word b.made m in let at = are m in let here = put (home_key m) in cc

pub homes_forgotten : (homes left : WordMap ℕ) (bs : List Buffer) (m : ℕ) → AreHomes homes bs
    → ((k : WordKey) → look left k ≡ cond (same_word (home_key m) k) None (look homes k)) → AreHomes left (filter (λ b. not (is_made_at m b)) bs)
homes_forgotten homes left bs m are gone n =
    let here = gone (home_key n) in let key = key_word m n in let at = are n in
    let went = find_gone made_of m bs in let stays = find_stays made_of m n bs in grind (arith, eqb-true)

any_made : (bs : List Buffer) (m : ℕ) → list_any (λ n. n == m) (map made_of bs) ≡ is_some (buffer_in bs m)
any_made [] m = refl
any_made (b ∷ bs) m = grind (arith, any_made bs m)

-- one process's buffers go
pub homes_closed : (homes left : WordMap ℕ) (bs : List Buffer) (p : ℕ) → Rising made_of bs → AreHomes homes bs → Forgets (map made_of (buffers_of bs p)) homes left
    → AreHomes left (filter (λ b. not (b.receiver == p)) bs)
homes_closed homes left bs p rising are gone = grind (arith, found_kept, any_made)

pub homes_same : (homes left : WordMap ℕ) (bs : List Buffer) → ((k : WordKey) → look left k ≡ look homes k) → AreHomes homes bs → AreHomes left bs
homes_same homes left bs same are = λ m. same (home_key m) ∙ are m

pub homes_handed : (homes : WordMap ℕ) (bs : List Buffer) (q : Buffer → Bool) → AreHomes homes bs → AreHomes homes (changed q hand_out bs)
homes_handed homes bs q are = λ m. are m ∙ sym (tags_changed q hand_out made_of (λ b. refl) (λ b. b.receiver) (λ b. refl) m bs)

either_gone : (a b : Bool) (h : Option ℕ) → cond b None (cond a None h) ≡ cond (a || (b || false)) None h
either_gone a b h = search arith

pub forgets_more : (places : List ℕ) (n : ℕ) (old mid new : WordMap ℕ) → Forgets places old mid
    → ((k : WordKey) → look new k ≡ cond (same_word (home_key n) k) None (look mid k)) → Forgets (places ++ n ∷ []) old new
forgets_more places n old mid new forgets gone = grind (arith, key_word, either_gone, list_any-append {X = ℕ})
