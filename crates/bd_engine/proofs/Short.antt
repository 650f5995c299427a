-- What an engine with a history tells of is of a step of that history (PlacesAreEarlier), whose places have 32 bits.
use Rattle.bd_engine.proofs.Words.{Bool, Buffer, Frame, History, Identity, IfSome, In, IsOfEarlierSteps, List, Name, None, Object, OfThread, Option, Process, Reference, Reply, Some, Thread, Work, WorkKind, [], always_steps, buffer_in, find, find_in, first_of, first_reply_in, hands_out, in_filter, in_map, inl, innermost, inr, is_carried_by, is_made_at, is_on, length, map, named, option_and_then, option_map, places_earlier, process_with_pid, refl, reply_of, space_after, subst, sym, ℕ, ◌<◌, ◌∷◌, ◌≡◌}
use Rattle.bd_engine.specs.Looks as looks

-- ---- what is found is of a list

module _ {A B : Type 0} (P : B → Type 0) (p : A → Bool) (f : A → B) (xs : List A) (h : (x : A) → In x xs → P (f x)) where
  found : (o : Option A) → find p xs ≡ o → IfSome (option_map f o) P
  found None e = tt
  found (Some x) e = h x (find_in p x xs e).0

  pub found_of : IfSome (option_map f (find p xs)) P
  found_of = found (find p xs) refl

-- the first reply is of one of these items
reply_first : (P : ℕ → Type 0) (ws : List Work) → ((w : Work) (b : ℕ) → In w ws → hands_out w.kind ≡ Some b → P b) → IfSome (first_reply_in ws) P
reply_first P [] h = tt
reply_first P (w ∷ ws) h = of_kind w.kind (λ b e. h w b (inl refl) e) (reply_first P ws (λ v b l. h v b (inr l)))
  where
    of_kind : (k : WorkKind) → ((b : ℕ) → hands_out k ≡ Some b → P b) → IfSome (first_reply_in ws) P → IfSome (first_of (reply_of k ∷ map (λ (v : Work). reply_of v.kind) ws)) P
    of_kind (Reply b) here rest = here b refl
    of_kind _ here rest = rest

-- ---- the looks

module _ (h : History) where
  abbrev pub IsPlace : ℕ → Type 0
  IsPlace n = n < length h.entries

  steps : (space_after h).steps ≡ length h.entries
  unfolding space_after
  steps = always_steps h.entries

  earlier : IsOfEarlierSteps (space_after h)
  earlier = places_earlier h

  place : (n : ℕ) → n < (space_after h).steps → IsPlace n
  place n lt = subst (λ m. n < m) steps lt

  pub process_short : (seat : ℕ) → IfSome (looks.process_of (space_after h) seat) IsPlace
  process_short seat = found_of IsPlace _ (λ (t : Thread). t.process) _ (λ t l. place t.process (earlier.threads_processes t l))

  pub manager_short : IfSome (space_after h).manager (λ o. IsPlace o.place)
  manager_short = managed (space_after h).manager refl
    where
      managed : (m : Option Identity) → (space_after h).manager ≡ m → IfSome m (λ o. IsPlace o.place)
      managed None e = tt
      managed (Some o) e = place o.place (earlier.manager o e)

  pub owner_short : (o : Identity) → IfSome (looks.owner_of (space_after h) o) IsPlace
  owner_short o = found_of IsPlace _ (λ (x : Object). x.owner) _ (λ x l. place x.owner (earlier.owners x l))

  pub named_short : (pid n : ℕ) → IfSome (looks.named_by (space_after h) pid n) (λ o. IsPlace o.place)
  unfolding named
  named_short pid n = by_process (process_with_pid (space_after h).processes pid)
    where
      by_process : (q : Option Process) → IfSome (option_and_then (λ (q : Process). named (space_after h) q.made n) q) (λ o. IsPlace o.place)
      by_process None = tt
      by_process (Some q) = found_of (λ (o : Identity). IsPlace o.place) _ (λ (m : Name). m.object) _ (λ m l. place m.object.place (earlier.names m l))

  pub innermost_short : (seat made : ℕ) (serves : Bool) → Some (made, serves) ≡ looks.innermost_of (space_after h) seat → IsPlace made
  unfolding innermost
  innermost_short seat made serves e =
      subst (λ o. IfSome o (λ (x : ℕ × Bool). IsPlace x.0)) (sym e) (found_of (λ (x : ℕ × Bool). IsPlace x.0) _ _ _ (λ (f : Frame) l. place f.made (earlier.frames f l)))

  pub first_reply_short : (seat : ℕ) → IfSome (looks.first_reply (space_after h) seat) IsPlace
  first_reply_short seat =
      reply_first IsPlace _ (λ w b l e. place b (earlier.handed_over w b (in_filter (is_on (OfThread seat)) w (space_after h).todo l).0 e))

  -- ---- a buffer

  module _ (b : Buffer) (made : ℕ) (e : Some b ≡ buffer_in (space_after h).buffers made) where
    here : In b (space_after h).buffers
    here = (find_in (is_made_at made) b (space_after h).buffers (sym e)).0

    pub receiver_short : IsPlace b.receiver
    receiver_short = place b.receiver (earlier.receivers b here)

    pub target_short : IfSome b.target (λ o. IsPlace o.place)
    target_short = targeted b.target refl
      where
        targeted : (t : Option Identity) → b.target ≡ t → IfSome t (λ o. IsPlace o.place)
        targeted None f = tt
        targeted (Some o) f = place o.place (earlier.targets b o here f)

  pub carried_short : (made : ℕ) (o : Identity) → In o (looks.carried (space_after h) made) → IsPlace o.place
  carried_short made o l =
      let r = in_map (λ (r : Reference). r.object) o _ l in
      let k = in_filter (λ (r : Reference). is_carried_by made r.holder) r.0 (space_after h).references r.1 in
      subst (λ (i : Identity). IsPlace i.place) r.2 (place r.0.object.place (earlier.references r.0 k.0))
