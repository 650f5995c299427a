-- What a change of one view, or of who carries the views, leaves of the rule.
use Rattle.bd_driver.proofs.{Views.{each_map, each_set}, Words.{Act, BeginsWith, Each, Entry, Fits, Handover, Hands, HasTaker, Kept, List, Mailbox, MailboxFits, Nothing, Option, PickFits, Slot, State, Valid, View, [], ap, bit_of, carried_after, false, get_elem?, home_of, homes_after, inside_of, length, map, mark, page_word, pending, places_of, ready_of, refl, set, since_of, slice_index, some, stepped, subst, sym, true, ℕ, ◌++◌, ◌<◌, ◌∙◌, ◌∷◌, ◌≡◌, ◌≢◌, ◌≤◌}}

-- what `Allows` asks of a step in one state: a next view and an act that keep the rule
abbrev pub Granted : ℕ → ℕ → Hands → State Slot (List View) → ℕ → (ℕ → ℕ) → (ℕ → Hands → Type 0) → Type 0
Granted seats id me s word f then =
    (w : List View) × (a : Act Slot) × Valid s.homes me.1 a × Kept seats (stepped s word (f (slice_index s.words word)) id me.1 w a) × then (slice_index s.words word) (w, carried_after me.1 a)

-- a view of the same seat, which has handed over the same and has the same places
abbrev pub IsSameSeat : View → View → Type 0
IsSameSeat v w = (w.seats ≡ v.seats) × (w.who ≡ v.who) × (w.handover ≡ v.handover) × (w.own ≡ v.own)

-- the next view of a seat; another of the table's seats may come to carry it
pub review : (seats : ℕ) (entries : List Entry) (carrier now : ℕ → ℕ) (taken_by taken : Option ℕ) (mailboxes : List Mailbox) (id j : ℕ) (v w : View) → Fits seats entries carrier taken_by mailboxes id v → IsSameSeat v w → now v.who ≡ j → BeginsWith entries w.seen
    → (w.taker ≡ true → (taken ≡ some j) × (w.seen ≡ entries)) → PickFits mailboxes w.pick → (w.taker ≡ false → w.pick ≡ Nothing) → Fits seats entries now taken mailboxes j w
review seats entries carrier now taken_by taken mailboxes id j v w f same held begins takes picks idle = record {
  seats_are = same.0 ∙ f.seats_are;
  below = subst (λ z. z < seats) (sym same.1) f.below;
  held = ap now same.1 ∙ held;
  begins = begins;
  mailbox = f.mailbox;
  has_mailbox = ap (get_elem? mailboxes) same.1 ∙ f.has_mailbox;
  fits_mailbox = subst (λ (z : ℕ × Handover). MailboxFits seats entries z.0 z.1 f.mailbox) (λ i. (sym same.1 i, sym same.2 i)) f.fits_mailbox;
  own = ap (λ l. l ++ pending f.mailbox) same.3 ∙ (f.own ∙ ap (λ z. places_of z entries) (sym same.1));
  takes = takes;
  picks = picks;
  idle = idle;
}

-- A view fits on, also where another of the table's seats comes to carry it.
pub reseat : (seats : ℕ) (entries : List Entry) (carrier now : ℕ → ℕ) (taken_by taken : Option ℕ) (mailboxes : List Mailbox) (id j : ℕ) (v : View) → Fits seats entries carrier taken_by mailboxes id v → now v.who ≡ j → (v.taker ≡ true → (taken ≡ some j) × (v.seen ≡ entries)) → Fits seats entries now taken mailboxes j v
reseat seats entries carrier now taken_by taken mailboxes id j v f held takes = review seats entries carrier now taken_by taken mailboxes id j v v f (refl, refl, refl, refl) held f.begins takes f.picks f.idle

module _ (seats : ℕ) (s : State Slot (List View)) (k : Kept seats s) where
  -- a step of a seat that has one view: the rule stays where its parts do, and what it says of the other views
  pub restate : (id : ℕ) (me : Hands) (w : View) (word n : ℕ) (a : Act Slot) (entries : List Entry) (now : Option ℕ) (mailboxes : List Mailbox)
      → set s.words word n ≡ page_word seats (bit_of now) entries ∷ map mark mailboxes → homes_after s.homes me.1 a ≡ home_of seats entries now ∷ map inside_of mailboxes → (length entries < 4294967296) × (ready_of seats entries < 2147483648) → length mailboxes ≡ seats
      → ((i : ℕ) (b : Mailbox) → get_elem? mailboxes i ≡ some b → since_of b ≤ length entries) → HasTaker (set s.views id (w ∷ [])) mailboxes now → Fits seats entries k.carrier now mailboxes id w
      → ((j : ℕ) (u : View) → j ≢ id → Fits seats k.entries k.carrier k.taken_by k.mailboxes j u → Fits seats entries k.carrier now mailboxes j u) → Kept seats (stepped s word n id me.1 (w ∷ []) a)
  restate id me w word n a entries now mailboxes words homes small all early has mine others = record {
    entries = entries;
    taken_by = now;
    mailboxes = mailboxes;
    words = words;
    homes = homes;
    carrier = k.carrier;
    small = small;
    all_mailboxes = all;
    early = early;
    has_taker = has;
    each = each_set (Fits seats entries k.carrier now mailboxes) s.views id (w ∷ []) (λ j vs apart e. each_map (Fits seats k.entries k.carrier k.taken_by k.mailboxes j) (Fits seats entries k.carrier now mailboxes j) (λ u f. others j u apart f) vs (k.each j vs e)) (mine, tt);
  }

  -- a step on the page that publishes nothing
  pub repage : (id : ℕ) (me : Hands) (w : View) (n : ℕ) (a : Act Slot) (now : Option ℕ) → n ≡ page_word seats (bit_of now) k.entries → homes_after s.homes me.1 a ≡ home_of seats k.entries now ∷ map inside_of k.mailboxes
      → HasTaker (set s.views id (w ∷ [])) k.mailboxes now → Fits seats k.entries k.carrier now k.mailboxes id w → ((j : ℕ) (u : View) → j ≢ id → Fits seats k.entries k.carrier k.taken_by k.mailboxes j u → Fits seats k.entries k.carrier now k.mailboxes j u)
      → Kept seats (stepped s 0 n id me.1 (w ∷ []) a)
  repage id me w n a now page homes has mine others =
      restate id me w 0 n a k.entries now k.mailboxes (ap (λ ws. set ws 0 n) k.words ∙ ap (λ (m : ℕ). m ∷ map mark k.mailboxes) page) homes k.small k.all_mailboxes k.early has mine others

  -- the views go to other seats of the table
  pub recarry : (carrier : ℕ → ℕ) (views : List (List View)) → HasTaker views k.mailboxes k.taken_by → ((j : ℕ) (vs : List View) → get_elem? views j ≡ some vs → Each (Fits seats k.entries carrier k.taken_by k.mailboxes j) vs)
      → Kept seats (record { words = s.words; homes = s.homes; views = views })
  recarry carrier views has each = record {
    entries = k.entries;
    taken_by = k.taken_by;
    carrier = carrier;
    mailboxes = k.mailboxes;
    words = k.words;
    has_taker = has;
    homes = k.homes;
    small = k.small;
    each = each;
    all_mailboxes = k.all_mailboxes;
    early = k.early;
  }
