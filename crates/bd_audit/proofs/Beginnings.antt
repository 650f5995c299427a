-- For most laws of the audit and for its searches: the first entries of a history are a history, and what a next entry must
-- meet.
use Rattle.bd_laws.proofs.words.Logic.{◌≡◌, ◌≤◌, ◌<◌, ◌+◌, ℕ, Bool, true, false, ◌||◌, List, [], ◌∷◌, ◌++◌, length, take, drop, get_or, Some, refl, ap, sym, ◌∙◌, subst, arith, length-append, nat_lt, nat_le, list_all, lt-leb, take-append-drop, take_all, take_more}
use Rattle.bd_laws.proofs.words.Types.{Entry, StepAnswer, Step}
use Rattle.bd_laws.proofs.words.Space.{Space, opening, step, History, IsHistory, EntryFollows, Follows, after, next, space_after, is_at_limit}
use Rattle.bd_space.specs.Histories.{IsLawful, is_at_end}
use Rattle.bd_engine.specs.StepError.{StepError}
use Rattle.bd_engine.specs.Refusals.{FullOnly}
use Rattle.bd_audit.specs.declared.judging.AuditFault.{AuditFault}
use Rattle.bd_audit.specs.declared.judge.Judge.{Judge}
use Rattle.bd_audit.specs.Judging.{HasJudged}
use Rattle.bd_audit.specs.Replays.{with_entry, beginning, IsEntryAt, IfUnlawful, fault_of}
use Rattle.bd_laws.proofs.Tests.{both}
use Rattle.std.specs.Prelude.{Option, None, MatchOption}
use Rattle.std.proofs.lemmas.List.{drop_more, length-drop, take-take}
use Rattle.std.proofs.lemmas.List.Folds.{list_all-append}
use Rattle.std.proofs.lemmas.Option.{slice_get_within, get_or_from_slice_get}

pub follows_front : (s : Space) (es fs : List Entry) → Follows s (es ++ fs) → Follows s es
follows_front s [] fs h = tt
follows_front s (e ∷ es) fs h = (h.0, follows_front (next s e) es fs h.1)

pub follows_rest : (s : Space) (es fs : List Entry) → Follows s (es ++ fs) → Follows (after s es) fs
follows_rest s [] fs h = h
follows_rest s (e ∷ es) fs h = follows_rest (next s e) es fs h.1

pub after_append : (s : Space) (es fs : List Entry) → after s (es ++ fs) ≡ after (after s es) fs
after_append s [] fs = refl
after_append s (e ∷ es) fs = after_append (next s e) es fs

all_parts : {A : Type 0} (p : A → Bool) (xs ys : List A) → list_all p (xs ++ ys) ≡ true → (list_all p xs ≡ true) × (list_all p ys ≡ true)
all_parts p xs ys h = both (list_all p xs) (list_all p ys) (sym (list_all-append p xs ys) ∙ h)

pub history_front : (n : ℕ) (es fs : List Entry) → IsHistory (record { seats = n; entries = es ++ fs }) → IsHistory (record { seats = n; entries = es })
history_front n es fs h = record {
  short = let l = length-append es fs in omega (arith, l, h.short);
  seats = (all_parts (λ e. nat_lt e.seat n) es fs h.seats).0;
  follows = follows_front opening es fs h.follows;
}

-- what the last entry has to meet
pub record LastFollows (h : History) (e : Entry) : Type 0 where
  pub room : length h.entries < 4294967295
  pub seat : nat_lt e.seat h.seats ≡ true
  pub follows : EntryFollows (after opening h.entries) e

pub last_follows : (h : History) (e : Entry) → IsHistory (with_entry h e) → LastFollows h e
last_follows h e k = record {
  room = let l = length-append h.entries (e ∷ []) in omega (arith, l, k.short);
  seat = (both (nat_lt e.seat h.seats) true (all_parts (λ (x : Entry). nat_lt x.seat h.seats) h.entries (e ∷ []) k.seats).1).0;
  follows = (follows_rest opening h.entries (e ∷ []) k.follows).0;
}

-- ---- an entry that doesn't follow

pub wrong_answer : (h : History) (e : Entry) (a : StepAnswer) → a ≡ (step (space_after h) e.seat e.step).answer → (a ≡ e.answer → ⊥) → IsHistory (with_entry h e) → ⊥
unfolding space_after
wrong_answer h e a is not k = not (is ∙ (last_follows h e k).follows.answer)

either_case : (a b : Bool) → (a || b) ≡ true → a ≡ false → b ≡ true
either_case a b h k = search arith

pub past_limit : (h : History) (e : Entry) → is_at_limit h e.seat (Some e.step) ≡ true → IsHistory (with_entry h e) → ⊥
unfolding space_after is_at_limit
past_limit h e limit k =
    let l = last_follows h e k in
    let room : nat_le 4294967295 (length h.entries) ≡ false = lt-leb _ _ l.room in
    let past = either_case _ _ limit room in
    let fits = l.follows.numbers in
    absurd (cc)

-- an engine refuses a step for want of memory, or it is past the limit
pub refused : (h : History) (e : Entry) (at : ℕ) (w : StepError) (x : Step) (f : AuditFault) → f ≡ fault_of w at → x ≡ e.step → FullOnly w (is_at_limit h e.seat (Some x) ≡ true)
    → IfUnlawful f (λ at. IsHistory (with_entry h e) → ⊥)
refused h e at w x f is same_step full = search (arith, past_limit)

-- ---- what is lawful

lawful_front : (n : ℕ) (es fs : List Entry) → IsLawful (record { seats = n; entries = es ++ fs }) → IsLawful (record { seats = n; entries = es })
lawful_front n es fs h = record {
  short = let l = length-append es fs in omega (arith, l, h.short);
  seats = (all_parts (λ e. nat_lt e.seat n) es fs h.seats).0;
  follows = follows_front opening es fs h.follows;
}

pub take_lawful : (n : ℕ) (h : History) → IsLawful h → IsLawful (beginning n h)
take_lawful n h k = lawful_front h.seats (take n h.entries) (drop n h.entries) (subst (λ es. IsLawful (record { seats = h.seats; entries = es })) (sym (take-append-drop n h.entries)) k)

-- what the last entry of a lawful history has to meet
pub last_lawful : (h : History) (e : Entry) → IsLawful (with_entry h e) → (length h.entries < 18446744073709551615) × (nat_lt e.seat h.seats ≡ true) × EntryFollows (after opening h.entries) e
last_lawful h e k = (
  (let l = length-append h.entries (e ∷ []) in omega (arith, l, k.short)),
  (both (nat_lt e.seat h.seats) true (all_parts (λ (x : Entry). nat_lt x.seat h.seats) h.entries (e ∷ []) k.seats).1).0,
  (follows_rest opening h.entries (e ∷ []) k.follows).0,
)

pub no_such_answer : (h : History) (e : Entry) (a : StepAnswer) → a ≡ (step (space_after h) e.seat e.step).answer → (a ≡ e.answer → ⊥) → IsLawful (with_entry h e) → ⊥
unfolding space_after
no_such_answer h e a is not k = not (is ∙ (last_lawful h e k).2.answer)

pub past_end : (h : History) (e : Entry) → is_at_end h e.seat (Some e.step) ≡ true → IsLawful (with_entry h e) → ⊥
unfolding space_after is_at_end
past_end h e limit k =
    let l = last_lawful h e k in
    let room : nat_le 18446744073709551615 (length h.entries) ≡ false = lt-leb _ _ l.0 in
    let past = either_case _ _ limit room in
    let fits = l.2.numbers in
    absurd (cc)

-- ---- places

pub take_history : (n : ℕ) (h : History) → IsHistory h → IsHistory (beginning n h)
take_history n h k = history_front h.seats (take n h.entries) (drop n h.entries) (subst (λ es. IsHistory (record { seats = h.seats; entries = es })) (sym (take-append-drop n h.entries)) k)

pub front_begun : (n : ℕ) (h : History) (es : List Entry) → es ≡ h.entries → IsHistory (beginning n h) → IsHistory (record { seats = h.seats; entries = take n es })
front_begun n h es same_es k = subst (λ xs. IsHistory (record { seats = h.seats; entries = take n xs })) (sym same_es) k

-- the entry at this place, one more than those before it
pub one_more : (h : History) (i : ℕ) (e : Entry) → i < length h.entries → e ≡ get_or h.entries i e → with_entry (beginning i h) e ≡ beginning (i + 1) h
one_more h i e lt is = ap (λ es. let k : History = record { seats = h.seats; entries = es } in k) (ap (λ x. take i h.entries ++ x ∷ []) is ∙ sym (take_more h.entries i e lt))

-- The beginning up to i, with the entry that is at i among all entries, is the beginning up to i + 1.
pub one_next : (h g : History) (i : ℕ) (e : Entry) (es : List Entry) → g ≡ beginning i h → es ≡ h.entries → i < length es → e ≡ get_or es i e → with_entry g e ≡ beginning (i + 1) h
one_next h g i e es at_i same_es below found = search (arith, one_more)

pub next_lawful : (h g : History) (i : ℕ) (e : Entry) (es : List Entry) → IsHistory h → g ≡ beginning i h → es ≡ h.entries → i < length es → e ≡ get_or es i e → IsHistory (with_entry g e)
next_lawful h g i e es lawful at_i same_es below found = subst IsHistory (sym (one_next h g i e es at_i same_es below found)) (take_history (i + 1) h lawful)

-- with the entry at a place
pub entry_lawful : (h g : History) (i : ℕ) (e : Entry) → IsHistory h → IsEntryAt h i g e → IsHistory (with_entry g e)
entry_lawful h g i e lawful at = next_lawful h g i e h.entries lawful at.begins refl (slice_get_within h.entries i e at.stands) (sym (get_or_from_slice_get h.entries i e e at.stands))

module _ (h : History) (i : ℕ) (e : Entry) (es : List Entry) (same_es : es ≡ h.entries) (below : i < length es) (found : e ≡ get_or es i e) where
  next_is : with_entry (beginning i h) e ≡ beginning (i + 1) h
  next_is = one_next h (beginning i h) i e es refl same_es below found

  pub judged_next : (j : Judge) → HasJudged j (with_entry (beginning i h) e) → HasJudged j (beginning (i + 1) h)
  judged_next j seen = subst (HasJudged j) next_is seen

pub next_beginning : (h g k : History) (i : ℕ) (e : Entry) (es : List Entry) → g ≡ beginning i h → es ≡ h.entries → i < length es → e ≡ get_or es i e → k ≡ with_entry g e → k ≡ beginning (i + 1) h
next_beginning h g k i e es at_i same_es below found is = is ∙ one_next h g i e es at_i same_es below found

-- The beginning that is as long as the entries is the history.
pub all_played : (h g : History) (i : ℕ) (es : List Entry) → g ≡ beginning i h → es ≡ h.entries → length es ≤ i → g ≡ h
all_played h g i es at_i same_es le =
    let past : length h.entries ≤ i = subst (λ xs. length xs ≤ i) same_es le in
    at_i ∙ ap (λ xs. let k : History = record { seats = h.seats; entries = xs } in k) (take_all i h.entries past)

pub judged_all : (h : History) (i : ℕ) (es : List Entry) (j : Judge) → es ≡ h.entries → length es ≤ i → HasJudged j (beginning i h) → HasJudged j h
judged_all h i es j same_es le seen = subst (HasJudged j) (all_played h (beginning i h) i es refl same_es le) seen

-- ---- what a reader of the entries comes to

pub read_some : (o : Option Entry) (old new : List Entry) (e : Entry) → o ≡ Some e → MatchOption o (old ≡ []) (λ x. old ≡ x ∷ new) → old ≡ e ∷ new
read_some o old new e is next = subst (λ (p : Option Entry). MatchOption p (old ≡ []) (λ x. old ≡ x ∷ new)) is next

pub read_none : (o : Option Entry) (old new : List Entry) → o ≡ None → MatchOption o (old ≡ []) (λ x. old ≡ x ∷ new) → old ≡ []
read_none o old new is next = subst (λ (p : Option Entry). MatchOption p (old ≡ []) (λ x. old ≡ x ∷ new)) is next

-- it isn't at the end before it took them all
pub not_at_end : (es rest : List Entry) (i : ℕ) → i < length es → rest ≡ drop i es → rest ≡ [] → ⊥
not_at_end es rest i below is none = omega (arith, below, ap length (sym is ∙ none), length-drop i es)

-- and takes next the one at the place to which it came
pub taken_next : (es old new : List Entry) (i : ℕ) (e : Entry) → i < length es → old ≡ drop i es → old ≡ e ∷ new → (e ≡ get_or es i e) × (new ≡ drop (i + 1) es)
taken_next es old new i e below is next =
    let both = sym next ∙ is ∙ drop_more es i e below in
    (ap (λ (l : List Entry). get_or l 0 e) both, ap (drop 1) both)

-- what is next of entries of which the first are a history
pub front_lawful : (h g : History) (count i : ℕ) (e : Entry) → IsHistory (beginning count h) → count ≤ length h.entries → i < count → g ≡ beginning i h → e ≡ get_or h.entries i e → IsHistory (with_entry g e)
front_lawful h g count i e lawful inside below at found =
    let next = one_next h g i e h.entries at refl (omega arith) found in
    let front : beginning (i + 1) (beginning count h) ≡ beginning (i + 1) h = ap (λ es. let k : History = record { seats = h.seats; entries = es } in k) (take-take (i + 1) count h.entries (omega arith)) in
    subst IsHistory (front ∙ sym next) (take_history (i + 1) (beginning count h) lawful)
