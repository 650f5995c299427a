-- A take, a publish and a put keep the rule.
use Rattle.bd_driver.proofs.{Keeping.{Granted, repage, reseat, restate, review}, Looks.{found_page, found_word, of_one}, Mailboxes.{fits_longer, longer, open_mailbox, relog}, PageWord.{clear_odd, or_one_even, or_one_odd}, Places.{own_grow}, Views.{inside, keeps_taker, starts_all, taker_has}, Words.{AllBy, Allows, Bool, Entry, Hands, HasTaker, Home, IsPage, Kept, List, MailboxFits, Nothing, Open, Option, PickedAs, Slot, State, View, [], ap, append-nil, arith, bit_and, bit_of, bit_or, entries_in, eq-eqb, false, get_elem?, get_or, gives, history_of, home_of, inl, inr, inside_of, keeps, length, length-append, map, mark, ne_eqb, none, page_word, pending, places, places_of, published, published_at, put, put_at, put_back, ready_of, refl, rest, set, set_here, since_of, some, some-injective, some-ne-none, step, subst, sym, takes, took, took_at, true, true≢false, view_of, ℕ, ⊎_elim, ◌%◌, ◌++◌, ◌+◌, ◌-◌, ◌<◌, ◌∙◌, ◌∷◌, ◌≡◌, ◌≤◌, ◌⊎◌}}

turn_cases : (o : Option ℕ) → (o ≡ none) ⊎ ((t : ℕ) × (o ≡ some t))
turn_cases none = inl refl
turn_cases (some t) = inr (t, refl)

even : (seats : ℕ) (entries : List Entry) → page_word seats 0 entries % 2 ≡ 0
even seats entries = omega arith

odd : (seats : ℕ) (entries : List Entry) → page_word seats 1 entries % 2 ≡ 1
odd seats entries = omega arith

true_off : (b : Bool) → b ≡ false → b ≡ true → ⊥
true_off b f t = true≢false (sym t ∙ f)

module _ (seats slots id : ℕ) (me : Hands) (one : me.0 ≡ view_of me.0 ∷ []) where
  abbrev v : View
  v = view_of me.0

  takes_free : (s : State Slot (List View)) (k : Kept seats s) → get_elem? s.views id ≡ some me.0 → v.taker ≡ false → k.taken_by ≡ none → Granted seats id me s 0 (λ n. bit_or n 1) (took (step slots 0 1 0 none) me)
  takes_free s k at idle free =
      let n : ℕ = get_or s.words 0 0 in
      let is : n ≡ page_word seats 0 k.entries = found_word seats s k ∙ ap (λ o. page_word seats (bit_of o) k.entries) free in
      let low : n % 2 ≡ 0 = ap (λ (m : ℕ). m % 2) is ∙ even seats k.entries in
      let w = took_at v n k.entries in
      let mine = of_one seats s k id me.0 at one in
      let engine = Home (history_of seats k.entries) in
      let home : s.homes ≡ some engine ∷ map inside_of k.mailboxes = k.homes ∙ ap (λ o. home_of seats k.entries o ∷ map inside_of k.mailboxes) free in
      let on : w.taker ≡ true = eq-eqb (n % 2) 0 low in (
        w ∷ [],
        takes 0 engine,
        ap (λ hs. get_elem? hs 0) home,
        repage seats s k id me w (bit_or n 1) (takes 0 engine) (some id) (or_one_even n low ∙ (ap (λ (m : ℕ). m + 1) is ∙ omega arith)) (ap (λ hs. set hs 0 none) home)
            (w, set_here s.views id (w ∷ []) (inside s.views id me.0 at), on, subst (PickedAs k.mailboxes) (sym (mine.idle idle)) (subst (HasTaker s.views k.mailboxes) free k.has_taker))
            (review seats k.entries k.carrier k.carrier k.taken_by (some id) k.mailboxes id id v w mine (refl, refl, refl, refl) mine.held (starts_all k.entries) (λ t. (refl, refl)) mine.picks (λ off. absurd (true_off w.taker off on)))
            (λ j u _ f. reseat seats k.entries k.carrier k.carrier k.taken_by (some id) k.mailboxes j j u f f.held (λ t. absurd (some-ne-none j (sym ((f.takes t).0) ∙ free)))),
        ((refl, refl, refl), k.entries, mine.begins, subst (λ z. IsPage z n k.entries) (sym mine.seats_are) (found_page seats s k), refl, (λ _. ap (λ z. (0, Home (history_of z k.entries)) ∷ me.1) (sym mine.seats_are)), (λ h. absurd (omega arith)), subst (λ z. v.who < z) (sym mine.seats_are) mine.below),
      )

  takes_taken : (s : State Slot (List View)) (k : Kept seats s) → get_elem? s.views id ≡ some me.0 → v.taker ≡ false → (t : ℕ) → k.taken_by ≡ some t → Granted seats id me s 0 (λ n. bit_or n 1) (took (step slots 0 1 0 none) me)
  takes_taken s k at idle t busy =
      let n : ℕ = get_or s.words 0 0 in
      let is : n ≡ page_word seats 1 k.entries = found_word seats s k ∙ ap (λ o. page_word seats (bit_of o) k.entries) busy in
      let high : n % 2 ≡ 1 = ap (λ (m : ℕ). m % 2) is ∙ odd seats k.entries in
      let w = took_at v n k.entries in
      let mine = of_one seats s k id me.0 at one in
      let off : w.taker ≡ false = ne_eqb (n % 2) 0 (λ e. absurd (omega arith)) in (
        w ∷ [],
        keeps,
        tt,
        repage seats s k id me w (bit_or n 1) keeps k.taken_by (or_one_odd n high ∙ found_word seats s k) k.homes
            (keeps_taker s.views id v w k.mailboxes k.mailboxes k.taken_by (at ∙ ap some one) (λ on. absurd (true_off v.taker idle on)) refl (λ p h. h) k.has_taker)
            (review seats k.entries k.carrier k.carrier k.taken_by k.taken_by k.mailboxes id id v w mine (refl, refl, refl, refl) mine.held (starts_all k.entries) (λ on. absurd (true_off w.taker off on)) mine.picks (λ _. mine.idle idle))
            (λ j u _ f. f),
        ((refl, refl, refl), k.entries, mine.begins, subst (λ z. IsPage z n k.entries) (sym mine.seats_are) (found_page seats s k), refl, (λ h. absurd (omega arith)), (λ _. refl), subst (λ z. v.who < z) (sym mine.seats_are) mine.below),
      )

  pub takes_once : v.taker ≡ false → Allows (Kept seats) slots id me 0 (λ n. bit_or n 1) (took (step slots 0 1 0 none) me)
  takes_once idle s k len at small = ⊎_elim (takes_free s k at idle) (λ (b : (t : ℕ) × (k.taken_by ≡ some t)). takes_taken s k at idle b.0 b.1) (turn_cases k.taken_by)

  -- a taker publishes a run of its own after what it has seen
  pub publishes : (run : List Entry) (new : ℕ) → v.taker ≡ true → v.handover ≡ Open → entries_in me.1 ≡ v.seen ++ run → AllBy v.who run
      → new ≡ page_word v.seats 1 (entries_in me.1) → (length (entries_in me.1) < 4294967296) × (ready_of v.seats (entries_in me.1) < 2147483648)
      → Allows (Kept seats) slots id me 0 (λ _. new) (published (step slots 0 new 0 none) me)
  publishes run new on free grown by page fits s k len at small =
      let n : ℕ = get_or s.words 0 0 in
      let entries = entries_in me.1 in
      let w = published_at v n entries in
      let mine = of_one seats s k id me.0 at one in
      let taken_by : k.taken_by ≡ some id = (mine.takes on).0 in
      let seen : v.seen ≡ k.entries = (mine.takes on).1 in
      let more : entries ≡ k.entries ++ run = grown ∙ ap (λ l. l ++ run) seen in
      let count : length entries - length v.seen ≡ length run = let a = ap (length {A = Entry}) grown in let b = length-append v.seen run in omega arith in
      let none_pending : pending mine.mailbox ≡ [] = ap pending (open_mailbox seats k.entries v.who v.handover mine.mailbox mine.fits_mailbox free) in
      let before : v.own ≡ places_of v.who k.entries = sym (append-nil v.own) ∙ (ap (λ l. v.own ++ l) (sym none_pending) ∙ mine.own) in
      let own : w.own ++ pending mine.mailbox ≡ places_of v.who entries =
      ap (λ l. w.own ++ l) none_pending ∙ (append-nil w.own ∙ (ap (λ c. v.own ++ places (length v.seen) c) count ∙ (ap (λ l. l ++ places (length v.seen) (length run)) before
      ∙ (ap (λ l. places_of v.who k.entries ++ places (length l) (length run)) seen ∙ (sym (own_grow v.who k.entries run by) ∙ ap (places_of v.who) (sym more)))))) in (
        w ∷ [],
        keeps,
        tt,
        restate seats s k id me w 0 new keeps entries (some id) k.mailboxes (ap (λ ws. set ws 0 new) k.words ∙ ap (λ (m : ℕ). m ∷ map mark k.mailboxes) (page ∙ ap (λ z. page_word z 1 entries) mine.seats_are))
            (k.homes ∙ ap (λ o. home_of seats k.entries o ∷ map inside_of k.mailboxes) taken_by) (fits.0, subst (λ z. ready_of z entries < 2147483648) mine.seats_are fits.1) k.all_mailboxes
            (λ i b e. subst (λ l. since_of b ≤ length l) (sym more) (longer k.entries run (since_of b) (k.early i b e)))
            (keeps_taker s.views id v w k.mailboxes k.mailboxes (some id) (at ∙ ap some one) (λ t. t) refl (λ p h. h) (subst (HasTaker s.views k.mailboxes) taken_by k.has_taker))
            (record {
              seats_are = mine.seats_are;
              below = mine.below;
              held = mine.held;
              begins = starts_all entries;
              mailbox = mine.mailbox;
              has_mailbox = mine.has_mailbox;
              fits_mailbox = subst (λ l. MailboxFits seats l v.who v.handover mine.mailbox) (sym more) (fits_longer seats k.entries run v.who v.handover mine.mailbox mine.fits_mailbox);
              own = own;
              takes = λ t. (refl, refl);
              picks = mine.picks;
              idle = mine.idle;
            })
            (λ j u apart f. relog seats k.entries k.carrier k.taken_by (some id) k.mailboxes j u v.who run entries more by (λ same. apart (sym f.held ∙ (ap k.carrier same ∙ mine.held))) f
            (λ t. absurd (apart (some-injective j id (sym (f.takes t).0 ∙ taken_by))))),
        ((refl, page, refl), refl),
      )

  pub puts : v.taker ≡ true → v.pick ≡ Nothing → me.1 ≡ (0, Home (history_of v.seats v.seen)) ∷ rest me.1 → Allows (Kept seats) slots id me 0 (λ n. bit_and n 18446744073709551614) (put (step slots 0 18446744073709551614 0 none) me)
  puts on unpicked holds s k len at small =
      let n : ℕ = get_or s.words 0 0 in
      let w = put_at v n in
      let mine = of_one seats s k id me.0 at one in
      let taken_by : k.taken_by ≡ some id = (mine.takes on).0 in
      let seen : v.seen ≡ k.entries = (mine.takes on).1 in
      let is : n ≡ page_word seats 1 k.entries = found_word seats s k ∙ ap (λ o. page_word seats (bit_of o) k.entries) taken_by in
      let cleared : bit_and n 18446744073709551614 ≡ page_word seats 0 k.entries = clear_odd n (page_word seats 0 k.entries) small (is ∙ omega arith) (even seats k.entries) in
      let away : s.homes ≡ none ∷ map inside_of k.mailboxes = k.homes ∙ ap (λ o. home_of seats k.entries o ∷ map inside_of k.mailboxes) taken_by in (
        w ∷ [],
        gives,
        tt,
        repage seats s k id me w (bit_and n 18446744073709551614) gives none cleared ((λ i. put_back (away i) (holds i)) ∙ (λ i. some (Home (history_of (mine.seats_are i) (seen i))) ∷ map inside_of k.mailboxes))
            (subst (PickedAs k.mailboxes) unpicked (taker_has s.views id v k.mailboxes (at ∙ ap some one) (subst (HasTaker s.views k.mailboxes) taken_by k.has_taker)))
            (review seats k.entries k.carrier k.carrier k.taken_by none k.mailboxes id id v w mine (refl, refl, refl, refl) mine.held mine.begins (λ t. absurd (true≢false (sym t))) mine.picks (λ _. unpicked))
            (λ j u apart f. reseat seats k.entries k.carrier k.carrier k.taken_by none k.mailboxes j j u f f.held (λ t. absurd (apart (some-injective j id (sym (f.takes t).0 ∙ taken_by))))),
        ((refl, refl, refl), refl),
      )
