-- The bytes of returns, piece by piece.
use Rattle.bd_step.proofs.Words.{List, Option, Return, [], ap, append-nil, append_assoc, concat, concat-append, flat_map, flat_map-append, get_or, length, map, map-append, option_to_list, return_bytes, sym, take, take_more, ℕ, ◌++◌, ◌+◌, ◌<◌, ◌∙◌, ◌∷◌, ◌≡◌}

bytes : List (Option Return) → List ℕ
bytes rs = concat (map return_bytes (flat_map option_to_list rs))

bytes_append : (rs qs : List (Option Return)) → bytes (rs ++ qs) ≡ bytes rs ++ bytes qs
unfolding bytes
bytes_append rs qs =
    ap (λ xs. concat (map return_bytes xs)) (flat_map-append option_to_list rs qs) ∙ ap concat (map-append return_bytes (flat_map option_to_list rs) (flat_map option_to_list qs))
    ∙ concat-append (map return_bytes (flat_map option_to_list rs)) (map return_bytes (flat_map option_to_list qs))

-- one more
pub bytes_more : (rs : List (Option Return)) (i : ℕ) (d : Option Return) (old new out : List ℕ) → i < length rs
    → old ≡ out ++ concat (map return_bytes (flat_map option_to_list (take i rs))) → new ≡ old ++ concat (map return_bytes (option_to_list (get_or rs i d)))
    → new ≡ out ++ concat (map return_bytes (flat_map option_to_list (take (i + 1) rs)))
unfolding bytes
bytes_more rs i d old new out lt before after =
    let r = get_or rs i d in
    let more : take (i + 1) rs ≡ take i rs ++ r ∷ [] = take_more rs i d lt in
    let single : bytes (r ∷ []) ≡ concat (map return_bytes (option_to_list r)) = ap (λ xs. concat (map return_bytes xs)) (append-nil (option_to_list r)) in
    after ∙ ap (λ bs. bs ++ concat (map return_bytes (option_to_list r))) before ∙ append_assoc out (bytes (take i rs)) _
    ∙ ap (λ bs. out ++ bs) (ap (λ bs. bytes (take i rs) ++ bs) (sym single) ∙ sym (bytes_append (take i rs) (r ∷ [])) ∙ ap bytes (sym more))
