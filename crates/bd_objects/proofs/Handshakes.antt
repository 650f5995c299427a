-- What is left to be acknowledged, one work item after the other.
use Rattle.bd_objects.proofs.Words.{List, Records, RecordsAre, Space, Work, [], ap, append-nil, append_assoc, arith, get_or, handshakes, handshakes_of, length, length-append, subst, sym, take, take_more, ℕ, ◌++◌, ◌+◌, ◌<◌, ◌∙◌, ◌∷◌, ◌≡◌}

module _ (s : Space) where
  one_more : (ws : List Work) (w : Work) (k : ℕ) → handshakes s k (ws ++ w ∷ []) ≡ handshakes s k ws ++ handshakes_of s (k + length (handshakes s k ws)) w.kind
  one_more [] w k = let same : k ≡ k + 0 = omega arith in append-nil (handshakes_of s k w.kind) ∙ ap (λ n. handshakes_of s n w.kind) same
  one_more (v ∷ vs) w k =
      let hs = handshakes_of s k v.kind in
      let more = handshakes s (k + length hs) vs in
      let long : k + length hs + length more ≡ k + length (hs ++ more) = omega (arith, length-append hs more) in
      ap (λ rs. hs ++ rs) (one_more vs w (k + length hs) ∙ ap (λ n. more ++ handshakes_of s n w.kind) long) ∙ sym (append_assoc hs more _)

  pub handshakes_more : (ws : List Work) (i : ℕ) (d : Work) → i < length ws
      → handshakes s 0 (take (i + 1) ws) ≡ handshakes s 0 (take i ws) ++ handshakes_of s (length (handshakes s 0 (take i ws))) (get_or ws i d).kind
  handshakes_more ws i d h =
      let before = handshakes s 0 (take i ws) in
      let start : 0 + length before ≡ length before = omega arith in
      ap (λ xs. handshakes s 0 xs) (take_more ws i d h) ∙ one_more (take i ws) (get_or ws i d) 0 ∙ ap (λ n. before ++ handshakes_of s n (get_or ws i d).kind) start

  -- those of one item more, in records
  pub handshakes_next : (ws : List Work) (i : ℕ) (d : Work) (index result : ℕ) (t : Records) → i < length ws → index ≡ length (handshakes s 0 (take i ws))
      → RecordsAre t s.objects ((s.references ++ handshakes s 0 (take i ws)) ++ handshakes_of s index (get_or ws i d).kind) × (result ≡ index + length (handshakes_of s index (get_or ws i d).kind))
      → RecordsAre t s.objects (s.references ++ handshakes s 0 (take (i + 1) ws)) × (result ≡ length (handshakes s 0 (take (i + 1) ws)))
  handshakes_next ws i d index result t h e g =
      let before = handshakes s 0 (take i ws) in
      let more = handshakes_of s index (get_or ws i d).kind in
      let all : handshakes s 0 (take (i + 1) ws) ≡ before ++ more = handshakes_more ws i d h ∙ ap (λ n. before ++ handshakes_of s n (get_or ws i d).kind) (sym e) in
      let long : index + length more ≡ length (before ++ more) = ap (λ n. n + length more) e ∙ sym (length-append before more) in
      (subst (λ rs. RecordsAre t s.objects rs) (append_assoc s.references before more ∙ ap (λ rs. s.references ++ rs) (sym all)) g.0, g.1 ∙ long ∙ ap length (sym all))
