-- The steps on mailboxes keep the rule.
use Rattle.bd_driver.proofs.{Keeping.{Granted, restate, review}, Looks.{of_one}, Mailboxes.{fits_longer, longer, open_mailbox}, Picked.{is_picked, none_else, one_else, picked_else, picked_gone, picked_set}, Places.{others_stay, own_grow}, Views.{inside, keeps_taker, starts_all, starts_longer, taker_has}, Words.{Act, AllBy, Allows, Answer, Answered, BeginsWith, Bool, Empty, Entry, Fits, Handover, Hands, HasTaker, IsTold, Kept, List, Mailbox, MailboxFits, Nothing, Open, Outcome, PickFits, Picked, PickedAs, Picking, Posted, Request, RunAt, Shut, Slot, State, View, Waiting, [], answer_places, answered, answered_as, answered_at, ap, append-nil, arith, at_map, at_set, bit_of, closed, closed_at, collected_as, collected_at, dite, either, empty, entries_in, eqb, false, get_elem?, get_or, gives, home_of, homes_after, inl, inr, inside_of, keeps, kept_at, length, length-append, length-set, map, map-set, mark, missed_at, ne_eqb, none, opened, opened_at, outcome_in, page_word, pending, picked, picked_as, picked_at, picked_word, places, places_of, posted, posted_as, posted_at, put_back, ready_of, refl, rest, served, served_at, set, set-get_or, set_again, set_else, set_here, shut, since_of, some, some-injective, some-ne-none, step, stepped, subst, suc, sym, takes, tried_at, true, true≢false, view_of, with_places, withdrawn_at, withdrew, zero, ℕ, ℕ_discrete, ⊎_elim, ◌++◌, ◌+◌, ◌-◌, ◌<◌, ◌∙◌, ◌∷◌, ◌≡◌, ◌≢◌, ◌≤◌, ◌⊎◌}}

-- what is picked stays so where another mailbox changes
pick_else : (mailboxes : List Mailbox) (i : ℕ) (b new : Mailbox) (p : Picking) → get_elem? mailboxes i ≡ some b → is_picked b ≡ false → PickFits mailboxes p → PickFits (set mailboxes i new) p
pick_else mailboxes i b new Nothing at off h = tt
pick_else mailboxes i b new (Picked j r since start count) at off h =
    set_else mailboxes i j new (λ (e : j ≡ i). let same : b ≡ picked r since start count = some-injective _ _ (sym at ∙ (ap (get_elem? mailboxes) (sym e) ∙ h)) in true≢false (sym (ap is_picked same) ∙ off)) ∙ h

still_early : (mailboxes : List Mailbox) (m : ℕ) → ((j : ℕ) (b : Mailbox) → get_elem? mailboxes j ≡ some b → since_of b ≤ m) → (i : ℕ) (new : Mailbox) → since_of new ≤ m → (j : ℕ) (b : Mailbox) → get_elem? (set mailboxes i new) j ≡ some b → since_of b ≤ m
still_early mailboxes m h i new late j b e = ⊎_elim (λ (y : (j ≡ i) × (new ≡ b)). subst (λ c. since_of c ≤ m) y.1 late) (λ (y : (j ≢ i) × (get_elem? mailboxes j ≡ some b)). h j b y.1) (at_set mailboxes i j new b e)

bool_cases : (b : Bool) → (b ≡ true) ⊎ (b ≡ false)
bool_cases true = inl refl
bool_cases false = inr refl

module _ (seats : ℕ) (s : State Slot (List View)) (k : Kept seats s) where
  -- a seat whose mailbox does not change
  apart_fits : (i : ℕ) (new : Mailbox) (j : ℕ) (u : View) → u.who ≢ i → PickFits (set k.mailboxes i new) u.pick → Fits seats k.entries k.carrier k.taken_by k.mailboxes j u → Fits seats k.entries k.carrier k.taken_by (set k.mailboxes i new) j u
  apart_fits i new j u apart p f = record {
    seats_are = f.seats_are;
    below = f.below;
    held = f.held;
    begins = f.begins;
    mailbox = f.mailbox;
    has_mailbox = set_else k.mailboxes i u.who new apart ∙ f.has_mailbox;
    fits_mailbox = f.fits_mailbox;
    own = f.own;
    takes = f.takes;
    picks = p;
    idle = f.idle;
  }

  -- a seat whose mailbox the taker changes
  passed_fits : (i : ℕ) (b new : Mailbox) (j : ℕ) (u : View) → get_elem? k.mailboxes i ≡ some b → ((h : Handover) → MailboxFits seats k.entries u.who h b → MailboxFits seats k.entries u.who h new) → pending b ≡ pending new
      → PickFits (set k.mailboxes i new) u.pick → u.who ≡ i → Fits seats k.entries k.carrier k.taken_by k.mailboxes j u → Fits seats k.entries k.carrier k.taken_by (set k.mailboxes i new) j u
  passed_fits i b new j u at boxing same p here f =
      let is : f.mailbox ≡ b = some-injective _ _ (sym f.has_mailbox ∙ (ap (get_elem? k.mailboxes) here ∙ at)) in
      record {
        seats_are = f.seats_are;
        below = f.below;
        held = f.held;
        begins = f.begins;
        mailbox = new;
        has_mailbox = ap (get_elem? (set k.mailboxes i new)) here ∙ set_here k.mailboxes i new (inside k.mailboxes i b at);
        fits_mailbox = boxing u.handover (subst (MailboxFits seats k.entries u.who u.handover) is f.fits_mailbox);
        own = ap (λ l. u.own ++ l) (sym same ∙ sym (ap pending is)) ∙ f.own;
        takes = f.takes;
        picks = p;
        idle = f.idle;
      }

  module _ (id : ℕ) (me : Hands) (at : get_elem? s.views id ≡ some me.0) (one : me.0 ≡ view_of me.0 ∷ []) where
    abbrev v : View
    v = view_of me.0

    mine : Fits seats k.entries k.carrier k.taken_by k.mailboxes id v
    mine = of_one seats s k id me.0 at one

    -- one mailbox changes by a step of the seat
    remailbox : (w : View) (i : ℕ) (new : Mailbox) (n : ℕ) (a : Act Slot) → since_of new ≤ length k.entries → n ≡ mark new → homes_after s.homes me.1 a ≡ set s.homes (suc i) (inside_of new)
        → HasTaker (set s.views id (w ∷ [])) (set k.mailboxes i new) k.taken_by → Fits seats k.entries k.carrier k.taken_by (set k.mailboxes i new) id w
        → ((j : ℕ) (u : View) → j ≢ id → Fits seats k.entries k.carrier k.taken_by k.mailboxes j u → Fits seats k.entries k.carrier k.taken_by (set k.mailboxes i new) j u)
        → Kept seats (stepped s (suc i) n id me.1 (w ∷ []) a)
    remailbox w i new n a late word home has now others =
        restate seats s k id me w (suc i) n a k.entries k.taken_by (set k.mailboxes i new) (ap (λ ws. set ws (suc i) n) k.words ∙ ap (λ l. page_word seats (bit_of k.taken_by) k.entries ∷ l) (ap (set (map mark k.mailboxes) i) word ∙ sym (map-set mark k.mailboxes i new)))
        (home ∙ (ap (λ hs. set hs (suc i) (inside_of new)) k.homes ∙ ap (λ l. home_of seats k.entries k.taken_by ∷ l) (sym (map-set inside_of k.mailboxes i new)))) k.small (length-set k.mailboxes i new ∙ k.all_mailboxes)
        (still_early k.mailboxes (length k.entries) k.early i new late) has now others

    -- a step that leaves its mailbox as it is
    unmoved : (w : View) (i : ℕ) (b : Mailbox) → get_elem? k.mailboxes i ≡ some b → (v.taker ≡ true → w.taker ≡ true) → w.pick ≡ v.pick → Fits seats k.entries k.carrier k.taken_by k.mailboxes id w
        → Kept seats (stepped s (suc i) (get_or s.words (suc i) 0) id me.1 (w ∷ []) keeps)
    unmoved w i b is stays pick_is now =
        restate seats s k id me w (suc i) (get_or s.words (suc i) 0) keeps k.entries k.taken_by k.mailboxes (ap (λ ws. set ws (suc i) (get_or ws (suc i) 0)) k.words ∙ ap (λ l. page_word seats (bit_of k.taken_by) k.entries ∷ l) (set-get_or (map mark k.mailboxes) i 0)) k.homes k.small k.all_mailboxes k.early
        (keeps_taker s.views id v w k.mailboxes k.mailboxes k.taken_by (at ∙ ap some one) stays pick_is (λ p h. h) k.has_taker) now (λ j u _ f. f)

    -- the taker is as it was where a mailbox changes to one that isn't picked
    own_taker : (w : View) (i : ℕ) (new : Mailbox) → (v.taker ≡ true → w.taker ≡ true) → w.pick ≡ v.pick → is_picked new ≡ false → HasTaker (set s.views id (w ∷ [])) (set k.mailboxes i new) k.taken_by
    own_taker w i new stays pick_is off = keeps_taker s.views id v w k.mailboxes (set k.mailboxes i new) k.taken_by (at ∙ ap some one) stays pick_is (λ p. picked_else k.mailboxes i new p off) k.has_taker

    -- The table's word for mailbox i is the one that its state calls for.
    found_mark : (i : ℕ) (b : Mailbox) → get_elem? k.mailboxes i ≡ some b → get_or s.words (suc i) 0 ≡ mark b
    found_mark i b is = ap (λ ws. get_or ws (suc i) 0) k.words ∙ got (map mark k.mailboxes) i (mark b) (at_map mark k.mailboxes i b is)
      where
        got : (l : List ℕ) (i a : ℕ) → get_elem? l i ≡ some a → get_or l i 0 ≡ a
        got [] i a e = absurd (some-ne-none a (sym e))
        got (x ∷ xs) zero a e = some-injective x a e
        got (x ∷ xs) (suc i) a e = got xs i a e

    -- what is at home in a mailbox's slot
    found_inside : (i : ℕ) (b : Mailbox) → get_elem? k.mailboxes i ≡ some b → get_elem? s.homes (suc i) ≡ some (inside_of b)
    found_inside i b is = ap (λ hs. get_elem? hs (suc i)) k.homes ∙ at_map inside_of k.mailboxes i b is

    -- a step on the own mailbox: its seat's view
    own_fits : (w : View) (new : Mailbox) → w.seats ≡ v.seats → w.who ≡ v.who → BeginsWith k.entries w.seen → MailboxFits seats k.entries w.who w.handover new → w.own ++ pending new ≡ places_of w.who k.entries
        → (w.taker ≡ true → (k.taken_by ≡ some id) × (w.seen ≡ k.entries)) → w.pick ≡ v.pick → w.taker ≡ v.taker → is_picked mine.mailbox ≡ false → Fits seats k.entries k.carrier k.taken_by (set k.mailboxes v.who new) id w
    own_fits w new a b c d e f g h off = record {
      seats_are = a ∙ mine.seats_are;
      below = subst (λ z. z < seats) (sym b) mine.below;
      held = ap k.carrier b ∙ mine.held;
      begins = c;
      mailbox = new;
      has_mailbox = ap (get_elem? (set k.mailboxes v.who new)) b ∙ set_here k.mailboxes v.who new (inside k.mailboxes v.who mine.mailbox mine.has_mailbox);
      fits_mailbox = d;
      own = e;
      takes = f;
      picks = subst (PickFits (set k.mailboxes v.who new)) (sym g) (pick_else k.mailboxes v.who mine.mailbox new v.pick mine.has_mailbox off mine.picks);
      idle = λ t. g ∙ mine.idle (sym h ∙ t);
    }

    -- All other views fit as before where the own mailbox changes from a state that isn't picked.
    own_others : (new : Mailbox) → is_picked mine.mailbox ≡ false → (j : ℕ) (u : View) → j ≢ id → Fits seats k.entries k.carrier k.taken_by k.mailboxes j u → Fits seats k.entries k.carrier k.taken_by (set k.mailboxes v.who new) j u
    own_others new off j u apart f =
        apart_fits v.who new j u (λ same. apart (sym f.held ∙ (ap k.carrier same ∙ mine.held))) (pick_else k.mailboxes v.who mine.mailbox new u.pick mine.has_mailbox off f.picks) f

    -- counting a step is nothing to the rule
    same_fits : (w : View) → w.seats ≡ v.seats → w.who ≡ v.who → w.seen ≡ v.seen → w.handover ≡ v.handover → w.own ≡ v.own → w.taker ≡ v.taker → w.pick ≡ v.pick → Fits seats k.entries k.carrier k.taken_by k.mailboxes id w
    same_fits w a b c d e f g =
        review seats k.entries k.carrier k.carrier k.taken_by k.taken_by k.mailboxes id id v w mine (a, b, d, e) mine.held (subst (BeginsWith k.entries) (sym c) mine.begins) (λ t. ((mine.takes (sym f ∙ t)).0, c ∙ (mine.takes (sym f ∙ t)).1)) (subst (PickFits k.mailboxes) (sym g) mine.picks) (λ t. g ∙ mine.idle (sym f ∙ t))

seen_short : (entries seen : List Entry) → BeginsWith entries seen → length seen ≤ length entries
seen_short entries seen h = let a = ap (length {A = Entry}) h.1 in let b = length-append seen h.0 in omega arith

module _ (seats slots id : ℕ) (me : Hands) (one : me.0 ≡ view_of me.0 ∷ []) where
  abbrev x : View
  x = view_of me.0

  pub posts : (r : Request) → x.handover ≡ Open → me.1 ≡ (suc x.who, Posted r) ∷ rest me.1 → Allows (Kept seats) slots id me (suc x.who) (λ _. 1) (posted_as (step slots (suc x.who) 1 0 none) me)
  posts r free held s k len at small =
      let f = mine seats s k id me at one in
      let n : ℕ = get_or s.words (suc x.who) 0 in
      let w = posted_at x n r in
      let new = posted r (length x.seen) in
      let is : f.mailbox ≡ empty = open_mailbox seats k.entries x.who x.handover f.mailbox f.fits_mailbox free in
      let off : is_picked f.mailbox ≡ false = ap is_picked is in
      let own : w.own ++ pending new ≡ places_of x.who k.entries = ap (λ l. x.own ++ l) (sym (ap pending is)) ∙ f.own in (
        w ∷ [],
        gives,
        tt,
        remailbox seats s k id me at one w x.who new 1 gives (seen_short k.entries x.seen f.begins) refl (ap (put_back s.homes) held) (own_taker seats s k id me at one w x.who new (λ t. t) refl refl)
            (own_fits seats s k id me at one w new refl refl f.begins (refl, seen_short k.entries x.seen f.begins) own f.takes refl refl off) (own_others seats s k id me at one new off),
        ((refl, refl, refl), r, held, refl),
      )

  -- a compare and exchange of another word than the one found
  missed : (s : State Slot (List View)) (k : Kept seats s) → get_elem? s.views id ≡ some me.0 → (i old new : ℕ) (b : Mailbox) (w : View) → get_elem? k.mailboxes i ≡ some b → get_or s.words (suc i) 0 ≢ old → w.pick ≡ x.pick → (x.taker ≡ true → w.taker ≡ true)
      → Fits seats k.entries k.carrier k.taken_by k.mailboxes id w → Kept seats (stepped s (suc i) (either (eqb (get_or s.words (suc i) 0) old) new (get_or s.words (suc i) 0)) id me.1 (w ∷ []) keeps)
  missed s k at i old new b w there ne pick stays fits =
      subst (λ hit. Kept seats (stepped s (suc i) (either hit new (get_or s.words (suc i) 0)) id me.1 (w ∷ []) keeps)) (sym (ne_eqb (get_or s.words (suc i) 0) old ne)) (unmoved seats s k id me at one w i b there stays pick fits)

  -- the own mailbox, by what it is: where it stands, the word found there, and the own places while nothing of it waits
  known : (s : State Slot (List View)) (k : Kept seats s) (at : get_elem? s.views id ≡ some me.0) (b : Mailbox) → (mine seats s k id me at one).mailbox ≡ b → pending b ≡ []
      → (get_elem? k.mailboxes x.who ≡ some b) × (get_or s.words (suc x.who) 0 ≡ mark b) × (x.own ++ [] ≡ places_of x.who k.entries)
  known s k at b is idle =
      let f = mine seats s k id me at one in
      let there : get_elem? k.mailboxes x.who ≡ some b = f.has_mailbox ∙ ap some is in
      (there, found_mark seats s k id me at one x.who b there, ap (λ l. x.own ++ l) (sym (ap pending is ∙ idle)) ∙ f.own)

  withdraw_miss : (s : State Slot (List View)) (k : Kept seats s) (at : get_elem? s.views id ≡ some me.0) (b : Mailbox) → (mine seats s k id me at one).mailbox ≡ b → mark b ≢ 1 → Granted seats id me s (suc x.who) (λ n. either (eqb n 1) 0 n) (withdrew (step slots (suc x.who) 1 0 none) me)
  withdraw_miss s k at b is low =
      let there = (mine seats s k id me at one).has_mailbox ∙ ap some is in
      let n : ℕ = get_or s.words (suc x.who) 0 in
      let ne : n ≢ 1 = λ e. low (sym (found_mark seats s k id me at one x.who b there) ∙ e) in
      let w = kept_at x n in
      (w ∷ [], keeps, tt, missed s k at x.who 1 0 b w there ne refl (λ t. t) (same_fits seats s k id me at one w refl refl refl refl refl refl refl), ((refl, refl, refl), (λ e. absurd (ne e)), (λ _. refl)))

  -- a withdrawal, by the state of the mailbox
  withdraw_case : (s : State Slot (List View)) (k : Kept seats s) (at : get_elem? s.views id ≡ some me.0) (r : Request) (since : ℕ) → x.handover ≡ Waiting r since → (b : Mailbox) → (mine seats s k id me at one).mailbox ≡ b
      → MailboxFits seats k.entries x.who x.handover b → Granted seats id me s (suc x.who) (λ n. either (eqb n 1) 0 n) (withdrew (step slots (suc x.who) 1 0 none) me)
  withdraw_case s k at r since waits shut is fits_mailbox = absurd (cc)
  withdraw_case s k at r since waits empty is fits_mailbox = absurd (cc)
  withdraw_case s k at r since waits (posted q n) is fits_mailbox =
      let f = mine seats s k id me at one in
      let y = known s k at (posted q n) is refl in
      let w = withdrawn_at x (get_or s.words (suc x.who) 0) in
      let off : is_picked f.mailbox ≡ false = ap is_picked is in (
        w ∷ [],
        takes (suc x.who) (Posted q),
        found_inside seats s k id me at one x.who (posted q n) y.0,
        subst (λ (m : ℕ). Kept seats (stepped s (suc x.who) m id me.1 (w ∷ []) (takes (suc x.who) (Posted q)))) (sym (ap (λ (z : ℕ). either (eqb z 1) 0 z) y.1))
            (remailbox seats s k id me at one w x.who empty 0 (takes (suc x.who) (Posted q)) (omega arith) refl refl (own_taker seats s k id me at one w x.who empty (λ t. t) refl refl)
            (own_fits seats s k id me at one w empty refl refl f.begins refl y.2 f.takes refl refl off) (own_others seats s k id me at one empty off)),
        ((refl, refl, refl), (λ _. (q, n, fits_mailbox.0, (k.entries, f.begins, sym y.2 ∙ append-nil x.own), refl)), (λ ne. absurd (ne y.1))),
      )
  withdraw_case s k at r since waits (picked q n start count) is fits_mailbox = withdraw_miss s k at (picked q n start count) is (λ e. absurd (omega arith))
  withdraw_case s k at r since waits (answered q n o) is fits_mailbox = withdraw_miss s k at (answered q n o) is (λ e. absurd (omega arith))

  pub withdraws : (r : Request) (since : ℕ) → x.handover ≡ Waiting r since → Allows (Kept seats) slots id me (suc x.who) (λ n. either (eqb n 1) 0 n) (withdrew (step slots (suc x.who) 1 0 none) me)
  withdraws r since waits s k len at small = let f = mine seats s k id me at one in withdraw_case s k at r since waits f.mailbox refl f.fits_mailbox

  -- opening and shutting move the mailbox's slot, and no word
  pub opens_mailbox : x.handover ≡ Shut → Allows (Kept seats) slots id me (suc x.who) (λ n. n) (opened (step slots (suc x.who) 0 0 none) me)
  opens_mailbox handover s k len at small = go (mine seats s k id me at one).mailbox refl (mine seats s k id me at one).fits_mailbox
    where
      go : (b : Mailbox) → (mine seats s k id me at one).mailbox ≡ b → MailboxFits seats k.entries x.who x.handover b → Granted seats id me s (suc x.who) (λ n. n) (opened (step slots (suc x.who) 0 0 none) me)
      go shut is fits_mailbox =
          let f = mine seats s k id me at one in
          let y = known s k at shut is refl in
          let w = opened_at x 0 in
          let off : is_picked f.mailbox ≡ false = ap is_picked is in (
            w ∷ [],
            takes (suc x.who) Empty,
            found_inside seats s k id me at one x.who shut y.0,
            remailbox seats s k id me at one w x.who empty (get_or s.words (suc x.who) 0) (takes (suc x.who) Empty) (omega arith) y.1 refl (own_taker seats s k id me at one w x.who empty (λ t. t) refl refl)
                (own_fits seats s k id me at one w empty refl refl f.begins refl y.2 f.takes refl refl off) (own_others seats s k id me at one empty off),
            ((refl, refl, refl), y.1, refl),
          )
      go empty is fits_mailbox = absurd (cc)
      go (posted q n) is fits_mailbox = let y = fits_mailbox.0 in absurd (cc)
      go (picked q n start count) is fits_mailbox = let y = fits_mailbox.0 in absurd (cc)
      go (answered q n o) is fits_mailbox = let y = fits_mailbox.0 in absurd (cc)

  pub closes_mailbox : x.handover ≡ Open → me.1 ≡ (suc x.who, Empty) ∷ rest me.1 → Allows (Kept seats) slots id me (suc x.who) (λ n. n) (closed (step slots (suc x.who) 0 0 none) me)
  closes_mailbox handover held s k len at small =
      let f = mine seats s k id me at one in
      let is : f.mailbox ≡ empty = open_mailbox seats k.entries x.who x.handover f.mailbox f.fits_mailbox handover in
      let y = known s k at empty is refl in
      let w = closed_at x 0 in
      let off : is_picked f.mailbox ≡ false = ap is_picked is in (
        w ∷ [],
        gives,
        tt,
        remailbox seats s k id me at one w x.who shut (get_or s.words (suc x.who) 0) gives (omega arith) y.1 (ap (put_back s.homes) held) (own_taker seats s k id me at one w x.who shut (λ t. t) refl refl)
            (own_fits seats s k id me at one w shut refl refl f.begins refl y.2 f.takes refl refl off) (own_others seats s k id me at one shut off),
        ((refl, refl, refl), y.1, refl),
      )

  -- a look into the own mailbox for an answer
  pub collects : (r : Request) (since : ℕ) → x.handover ≡ Waiting r since → x.taker ≡ false → Allows (Kept seats) slots id me (suc x.who) (λ n. either (eqb n 3) 0 n) (collected_as (step slots (suc x.who) 3 0 none) me)
  collects r since waits idle s k len at small = go (mine seats s k id me at one).mailbox refl (mine seats s k id me at one).fits_mailbox
    where
      miss : (b : Mailbox) → (mine seats s k id me at one).mailbox ≡ b → mark b ≢ 3 → Granted seats id me s (suc x.who) (λ n. either (eqb n 3) 0 n) (collected_as (step slots (suc x.who) 3 0 none) me)
      miss b is low =
          let f = mine seats s k id me at one in
          let there = f.has_mailbox ∙ ap some is in
          let n : ℕ = get_or s.words (suc x.who) 0 in
          let ne : n ≢ 3 = λ e. low (sym (found_mark seats s k id me at one x.who b there) ∙ e) in
          let w = missed_at x n in
          (w ∷ [], keeps, tt, missed s k at x.who 3 0 b w there ne refl (λ t. t) (same_fits seats s k id me at one w refl refl refl refl refl refl refl), ((refl, refl, refl), (λ e. absurd (ne e)), (λ _. refl)))

      go : (b : Mailbox) → (mine seats s k id me at one).mailbox ≡ b → MailboxFits seats k.entries x.who x.handover b → Granted seats id me s (suc x.who) (λ n. either (eqb n 3) 0 n) (collected_as (step slots (suc x.who) 3 0 none) me)
      go shut is fits_mailbox = miss shut is (λ e. absurd (omega arith))
      go empty is fits_mailbox = miss empty is (λ e. absurd (omega arith))
      go (posted q n) is fits_mailbox = miss (posted q n) is (λ e. absurd (omega arith))
      go (picked q n start count) is fits_mailbox = miss (picked q n start count) is (λ e. absurd (omega arith))
      go (answered q n o) is fits_mailbox =
          let f = mine seats s k id me at one in
          let there : get_elem? k.mailboxes x.who ≡ some (answered q n o) = f.has_mailbox ∙ ap some is in
          let found : get_or s.words (suc x.who) 0 ≡ 3 = found_mark seats s k id me at one x.who (answered q n o) there in
          let w = collected_at x (get_or s.words (suc x.who) 0) k.entries o in
          let off : is_picked f.mailbox ≡ false = ap is_picked is in
          let own : w.own ++ [] ≡ places_of x.who k.entries = append-nil w.own ∙ (ap (λ l. x.own ++ l) (sym (ap pending is)) ∙ f.own) in (
            w ∷ [],
            takes (suc x.who) (Answered o),
            found_inside seats s k id me at one x.who (answered q n o) there,
            subst (λ (m : ℕ). Kept seats (stepped s (suc x.who) m id me.1 (w ∷ []) (takes (suc x.who) (Answered o)))) (sym (ap (λ (z : ℕ). either (eqb z 3) 0 z) found))
                (remailbox seats s k id me at one w x.who empty 0 (takes (suc x.who) (Answered o)) (omega arith) refl refl (own_taker seats s k id me at one w x.who empty (λ t. t) refl refl)
                (own_fits seats s k id me at one w empty refl refl (starts_all k.entries) refl own (λ t. absurd (true≢false (sym t ∙ idle))) refl refl off) (own_others seats s k id me at one empty off)),
            ((refl, refl, refl), (λ _. (k.entries, q, n, o, f.begins, fits_mailbox.0, subst (λ z. IsTold z k.entries x.who q n o) (sym f.seats_are) fits_mailbox.1, refl)), (λ ne. absurd (ne found))),
          )

  -- the steps of a taker on any mailbox
  module _ (on : x.taker ≡ true) where
    -- no other seat is a taker, so no other has picked
    unpicked : (s : State Slot (List View)) (k : Kept seats s) → get_elem? s.views id ≡ some me.0 → (mailboxes : List Mailbox) (j : ℕ) (u : View) → j ≢ id → Fits seats k.entries k.carrier k.taken_by k.mailboxes j u → PickFits mailboxes u.pick
    unpicked s k at mailboxes j u apart f =
        let taken_by = ((mine seats s k id me at one).takes on).0 in
        let off : u.taker ≡ false = ⊎_elim (λ (t : u.taker ≡ true). absurd (apart (some-injective j id (sym (f.takes t).0 ∙ taken_by)))) (λ (t : u.taker ≡ false). t) (bool_cases u.taker) in
        subst (PickFits mailboxes) (sym (f.idle off)) tt

    taker_now : (s : State Slot (List View)) (k : Kept seats s) → get_elem? s.views id ≡ some me.0 → (w : View) (i : ℕ) (new : Mailbox) → w.taker ≡ true → PickedAs (set k.mailboxes i new) w.pick → HasTaker (set s.views id (w ∷ [])) (set k.mailboxes i new) k.taken_by
    taker_now s k at w i new t p =
        subst (HasTaker (set s.views id (w ∷ [])) (set k.mailboxes i new)) (sym ((mine seats s k id me at one).takes on).0) (w, set_here s.views id (w ∷ []) (inside s.views id me.0 at), t, p)

    -- what is picked is in this seat's view
    picked_by_me : (s : State Slot (List View)) (k : Kept seats s) → get_elem? s.views id ≡ some me.0 → PickedAs k.mailboxes x.pick
    picked_by_me s k at = taker_has s.views id x k.mailboxes (at ∙ ap some one) (subst (HasTaker s.views k.mailboxes) ((mine seats s k id me at one).takes on).0 k.has_taker)

    passed : (s : State Slot (List View)) (k : Kept seats s) (i : ℕ) (b new : Mailbox) (j : ℕ) (u : View) → get_elem? k.mailboxes i ≡ some b → ((who : ℕ) (h : Handover) → who ≡ i → MailboxFits seats k.entries who h b → MailboxFits seats k.entries who h new) → pending b ≡ pending new
        → PickFits (set k.mailboxes i new) u.pick → Fits seats k.entries k.carrier k.taken_by k.mailboxes j u → Fits seats k.entries k.carrier k.taken_by (set k.mailboxes i new) j u
    passed s k i b new j u is boxing same p f =
        dite (ℕ_discrete u.who i)
        (λ (e : u.who ≡ i). passed_fits seats s k i b new j u is (λ h. boxing u.who h e) same p e f)
        (λ (e : u.who ≢ i). apart_fits seats s k i new j u e p f)

    -- A view that differs from x only in what it names as picked fits where that fits the mailboxes.
    repick : (s : State Slot (List View)) (k : Kept seats s) (mailboxes : List Mailbox) (w : View) → Fits seats k.entries k.carrier k.taken_by mailboxes id x → w.seats ≡ x.seats → w.who ≡ x.who → w.seen ≡ x.seen → w.handover ≡ x.handover → w.own ≡ x.own → w.taker ≡ x.taker
        → PickFits mailboxes w.pick → Fits seats k.entries k.carrier k.taken_by mailboxes id w
    repick s k mailboxes w m a b c d e f p =
        review seats k.entries k.carrier k.carrier k.taken_by k.taken_by mailboxes id id x w m (a, b, d, e) m.held (subst (BeginsWith k.entries) (sym c) m.begins) (λ t. ((m.takes (sym f ∙ t)).0, c ∙ (m.takes (sym f ∙ t)).1)) p (λ t. absurd (true≢false (sym (f ∙ on) ∙ t)))

    pub picks : (i : ℕ) → i < seats → x.pick ≡ Nothing → Allows (Kept seats) slots id me (suc i) (λ n. either (eqb n 1) 2 n) (picked_as (step slots (suc i) 1 2 none) me)
    picks i below none_yet s k len at small = let b = box_at k.mailboxes i (subst (λ z. i < z) (sym k.all_mailboxes) below) in go b.0 b.1
      where
        box_at : (l : List Mailbox) (i : ℕ) → i < length l → (b : Mailbox) × (get_elem? l i ≡ some b)
        box_at [] i h = absurd (omega arith)
        box_at (y ∷ ys) zero h = (y, refl)
        box_at (y ∷ ys) (suc i) h = box_at ys i (omega arith)

        same_word : suc i ≡ suc (suc i - 1)
        same_word = omega arith

        miss : (b : Mailbox) → get_elem? k.mailboxes i ≡ some b → mark b ≢ 1 → Granted seats id me s (suc i) (λ n. either (eqb n 1) 2 n) (picked_as (step slots (suc i) 1 2 none) me)
        miss b there low =
            let n : ℕ = get_or s.words (suc i) 0 in
            let ne : n ≢ 1 = λ e. low (sym (found_mark seats s k id me at one i b there) ∙ e) in
            let w = tried_at x (suc i - 1) n in
            (w ∷ [], keeps, tt, missed s k at i 1 2 b w there ne refl (λ t. t) (same_fits seats s k id me at one w refl refl refl refl refl refl refl), ((same_word, refl, refl), (λ e. absurd (ne e)), (λ _. refl)))

        go : (b : Mailbox) → get_elem? k.mailboxes i ≡ some b → Granted seats id me s (suc i) (λ n. either (eqb n 1) 2 n) (picked_as (step slots (suc i) 1 2 none) me)
        go shut there = miss shut there (λ e. absurd (omega arith))
        go empty there = miss empty there (λ e. absurd (omega arith))
        go (picked q n start count) there = miss (picked q n start count) there (λ e. absurd (omega arith))
        go (answered q n o) there = miss (answered q n o) there (λ e. absurd (omega arith))
        go (posted q n) there =
            let f = mine seats s k id me at one in
            let found : get_or s.words (suc i) 0 ≡ 1 = found_mark seats s k id me at one i (posted q n) there in
            let new = picked q n 0 0 in
            let i_is : suc i - 1 ≡ i = omega arith in
            let w = picked_at x (suc i - 1) (get_or s.words (suc i) 0) q n in
            let boxing : (who : ℕ) (h : Handover) → who ≡ i → MailboxFits seats k.entries who h (posted q n) → MailboxFits seats k.entries who h new = λ who h e y. (y.0, y.1, inl refl) in
            let base = passed s k i (posted q n) new id x there boxing refl (subst (PickFits (set k.mailboxes i new)) (sym none_yet) tt) f in
            let set_in : PickFits (set k.mailboxes i new) w.pick = ap (get_elem? (set k.mailboxes i new)) i_is ∙ set_here k.mailboxes i new (inside k.mailboxes i (posted q n) there) in
            let now_picked = picked_set k.mailboxes i q n 0 0 w.pick (none_else k.mailboxes i (subst (PickedAs k.mailboxes) none_yet (picked_by_me s k at))) (ap (λ (z : ℕ). Picked z q n 0 0) i_is) in
            let since : n ≤ length x.seen = subst (λ l. n ≤ length l) (sym (f.takes on).1) (k.early i (posted q n) there) in (
              w ∷ [],
              takes (suc i) (Posted q),
              found_inside seats s k id me at one i (posted q n) there,
              subst (λ (m : ℕ). Kept seats (stepped s (suc i) m id me.1 (w ∷ []) (takes (suc i) (Posted q)))) (sym (ap (λ (z : ℕ). either (eqb z 1) 2 z) found))
                  (remailbox seats s k id me at one w i new 2 (takes (suc i) (Posted q)) (omega arith) refl refl (taker_now s k at w i new on now_picked)
                  (repick s k (set k.mailboxes i new) w base refl refl refl refl refl refl set_in)
                  (λ j u apart g. passed s k i (posted q n) new j u there boxing refl (unpicked s k at (set k.mailboxes i new) j u apart g) g)),
              ((same_word, refl, refl), (λ _. (q, n, since, refl)), (λ ne. absurd (ne found))),
            )

    -- the answer to what was picked
    pub answers : (i : ℕ) (r : Request) (since start count : ℕ) (o : Outcome) → x.pick ≡ Picked i r since start count → IsTold x.seats x.seen i r since o → places start count ≡ answer_places o
        → me.1 ≡ (suc i, Answered o) ∷ rest me.1 → Allows (Kept seats) slots id me (suc i) (λ _. 3) (answered_as (step slots (suc i) 3 0 none) me)
    answers i r since start count o pick is_told same held s k len at small =
        let f = mine seats s k id me at one in
        let there : get_elem? k.mailboxes i ≡ some (picked r since start count) = subst (PickFits k.mailboxes) pick f.picks in
        let new = answered r since o in
        let found : get_or s.words (suc i) 0 ≡ 2 = found_mark seats s k id me at one i (picked r since start count) there in
        let w = answered_at x 2 (outcome_in me.1) in
        let now : IsTold seats k.entries i r since o = subst (λ (z : ℕ × List Entry). IsTold z.0 z.1 i r since o) (λ m. (f.seats_are m, (f.takes on).1 m)) is_told in
        let boxing : (who : ℕ) (h : Handover) → who ≡ i → MailboxFits seats k.entries who h (picked r since start count) → MailboxFits seats k.entries who h new = λ who h e y. (y.0, subst (λ z. IsTold seats k.entries z r since o) (sym e) now) in
        let none_picked = picked_gone k.mailboxes i new w.pick refl (one_else k.mailboxes i r since start count (subst (PickedAs k.mailboxes) pick (picked_by_me s k at))) in
        let base = rechosen s k i (picked r since start count) new there boxing same f in (
          w ∷ [],
          gives,
          tt,
          remailbox seats s k id me at one w i new 3 gives (omega arith) refl (ap (put_back s.homes) held) (taker_now s k at w i new on none_picked) base
              (λ j u apart g. passed s k i (picked r since start count) new j u there boxing same (unpicked s k at (set k.mailboxes i new) j u apart g) g),
          ((sym (ap picked_word pick), refl, refl), found, refl),
        )
      where
        rechosen : (s : State Slot (List View)) (k : Kept seats s) (i : ℕ) (b new : Mailbox) → get_elem? k.mailboxes i ≡ some b → ((who : ℕ) (h : Handover) → who ≡ i → MailboxFits seats k.entries who h b → MailboxFits seats k.entries who h new) → pending b ≡ pending new
            → Fits seats k.entries k.carrier k.taken_by k.mailboxes id x → Fits seats k.entries k.carrier k.taken_by (set k.mailboxes i new) id (answered_at x 2 (outcome_in me.1))
        rechosen s k i b new is boxing same f =
            passed s k i b new id (answered_at x 2 (outcome_in me.1)) is boxing same tt (repick s k k.mailboxes (answered_at x 2 (outcome_in me.1)) f refl refl refl refl refl refl tt)

    -- what is published for a picked request is its seat's
    pub serves : (i : ℕ) (r : Request) (since : ℕ) (run : List Entry) (new : ℕ) → x.pick ≡ Picked i r since 0 0 → entries_in me.1 ≡ x.seen ++ run → AllBy i run
        → (length run ≡ 0) ⊎ ((answer : Answer) × RunAt x.seats (entries_in me.1) i r since answer (length x.seen) (length x.seen + length run)) → new ≡ page_word x.seats 1 (entries_in me.1) → (length (entries_in me.1) < 4294967296) × (ready_of x.seats (entries_in me.1) < 2147483648)
        → Allows (Kept seats) slots id me 0 (λ _. new) (served (step slots 0 new 0 none) me)
    serves i r since run new pick grown by at_run page small_enough s k len at small =
        let f = mine seats s k id me at one in
        let n : ℕ = get_or s.words 0 0 in
        let entries = entries_in me.1 in
        let taken_by : k.taken_by ≡ some id = (f.takes on).0 in
        let seen : x.seen ≡ k.entries = (f.takes on).1 in
        let more : entries ≡ k.entries ++ run = grown ∙ ap (λ l. l ++ run) seen in
        let count : length entries - length x.seen ≡ length run = let a = ap (length {A = Entry}) grown in let b = length-append x.seen run in omega arith in
        let old = picked r since 0 0 in
        let mailbox = picked r since (length x.seen) (length run) in
        let w = served_at x n entries in
        let there : get_elem? k.mailboxes i ≡ some old = subst (PickFits k.mailboxes) pick f.picks in
        let w_pick : w.pick ≡ Picked i r since (length x.seen) (length run) = ap (λ p. with_places p (length x.seen) (length entries - length x.seen)) pick ∙ ap (Picked i r since (length x.seen)) count in
        let grow : (who : ℕ) (own : List ℕ) → who ≡ i → own ++ [] ≡ places_of who k.entries → own ++ places (length x.seen) (length run) ≡ places_of who entries = λ who own e o.
        ap (λ l. l ++ places (length x.seen) (length run)) (sym (append-nil own) ∙ o)
        ∙ (ap (λ (z : List Entry). places_of who k.entries ++ places (length z) (length run)) seen ∙ (sym (own_grow who k.entries run (subst (λ z. AllBy z run) (sym e) by)) ∙ ap (places_of who) (sym more))) in
        let fits : (j : ℕ) (u y : View) → y.seats ≡ u.seats → y.who ≡ u.who → y.own ≡ u.own → y.handover ≡ u.handover → BeginsWith entries y.seen → (y.taker ≡ true → (some id ≡ some j) × (y.seen ≡ entries)) → PickFits (set k.mailboxes i mailbox) y.pick → (y.taker ≡ false → y.pick ≡ Nothing)
        → Fits seats k.entries k.carrier k.taken_by k.mailboxes j u → Fits seats entries k.carrier (some id) (set k.mailboxes i mailbox) j y = λ j u y a b c d e t p q g.
        dite (ℕ_discrete u.who i)
        (λ (here : u.who ≡ i).
        let is : g.mailbox ≡ old = some-injective _ _ (sym g.has_mailbox ∙ (ap (get_elem? k.mailboxes) here ∙ there)) in
        let was : MailboxFits seats k.entries u.who u.handover old = subst (MailboxFits seats k.entries u.who u.handover) is g.fits_mailbox in
        let run_there = subst (λ (z : ℕ × ℕ). (length run ≡ 0) ⊎ ((answer : Answer) × RunAt z.0 entries z.1 r since answer (length x.seen) (length x.seen + length run))) (λ m. (f.seats_are m, sym (b ∙ here) m)) at_run in
        record {
          seats_are = a ∙ g.seats_are;
          below = subst (λ z. z < seats) (sym b) g.below;
          held = ap k.carrier b ∙ g.held;
          begins = e;
          mailbox = mailbox;
          has_mailbox = ap (get_elem? (set k.mailboxes i mailbox)) (b ∙ here) ∙ set_here k.mailboxes i mailbox (inside k.mailboxes i old there);
          fits_mailbox = (d ∙ was.0, subst (λ l. since ≤ length l) (sym more) (longer k.entries run since was.1), run_there);
          own = ap (λ l. l ++ places (length x.seen) (length run)) c ∙ (grow u.who u.own here (ap (λ z. u.own ++ pending z) (sym is) ∙ g.own) ∙ ap (λ z. places_of z entries) (sym b));
          takes = t;
          picks = p;
          idle = q;
        })
        (λ (else : u.who ≢ i). record {
          seats_are = a ∙ g.seats_are;
          below = subst (λ z. z < seats) (sym b) g.below;
          held = ap k.carrier b ∙ g.held;
          begins = e;
          mailbox = g.mailbox;
          has_mailbox = ap (get_elem? (set k.mailboxes i mailbox)) b ∙ (set_else k.mailboxes i u.who mailbox else ∙ g.has_mailbox);
          fits_mailbox = subst (λ (z : (List Entry × ℕ) × Handover). MailboxFits seats z.0.0 z.0.1 z.1 g.mailbox) (λ m. ((sym more m, sym b m), sym d m)) (fits_longer seats k.entries run u.who u.handover g.mailbox g.fits_mailbox);
          own = ap (λ l. l ++ pending g.mailbox) c ∙ (g.own ∙ (sym (others_stay u.who i k.entries run by else) ∙ (ap (places_of u.who) (sym more) ∙ ap (λ z. places_of z entries) (sym b))));
          takes = t;
          picks = p;
          idle = q;
        }) in (
          w ∷ [],
          keeps,
          tt,
          restate seats s k id me w 0 new keeps entries (some id) (set k.mailboxes i mailbox)
              (ap (λ ws. set ws 0 new) k.words ∙ (λ m. (page ∙ ap (λ z. page_word z 1 entries) f.seats_are) m ∷ (sym (map-set mark k.mailboxes i mailbox ∙ set_again (map mark k.mailboxes) i 2 (at_map mark k.mailboxes i old there))) m))
              (k.homes ∙ (λ m. home_of seats k.entries (taken_by m) ∷ (sym (map-set inside_of k.mailboxes i mailbox ∙ set_again (map inside_of k.mailboxes) i none (at_map inside_of k.mailboxes i old there))) m))
              (small_enough.0, subst (λ z. ready_of z entries < 2147483648) f.seats_are small_enough.1) (length-set k.mailboxes i mailbox ∙ k.all_mailboxes)
              (λ j b e. subst (λ l. since_of b ≤ length l) (sym more) (longer k.entries run (since_of b) (still_early k.mailboxes (length k.entries) k.early i mailbox (omega arith) j b e)))
              (w, set_here s.views id (w ∷ []) (inside s.views id me.0 at), on, picked_set k.mailboxes i r since (length x.seen) (length run) w.pick (one_else k.mailboxes i r since 0 0 (subst (PickedAs k.mailboxes) pick (picked_by_me s k at))) w_pick)
              (fits id x w refl refl refl refl (starts_all entries) (λ _. (refl, refl)) (subst (PickFits (set k.mailboxes i mailbox)) (sym w_pick) (set_here k.mailboxes i mailbox (inside k.mailboxes i old there))) (λ t. absurd (true≢false (sym on ∙ t))) f)
              (λ j u apart g. fits j u u refl refl refl refl (subst (λ l. BeginsWith l u.seen) (sym more) (starts_longer k.entries run u.seen g.begins)) (λ t. absurd (apart (some-injective j id (sym (g.takes t).0 ∙ taken_by)))) (unpicked s k at (set k.mailboxes i mailbox) j u apart g) g.idle g),
          ((refl, page, refl), refl),
        )
