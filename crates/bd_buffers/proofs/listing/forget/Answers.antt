use Rattle.bd_buffers.proofs.Words.{Forgets, List, None, Record, WordKey, WordMap, append-nil, cond, false, filter_more, get_or, home_key, length, live_places, lives, look, made_of_record, map_push, same_word, sym, take, true, ℕ, ◌+◌, ◌<◌, ◌∙◌, ◌≡◌}
use Rattle.bd_buffers.proofs.InSpace.{forgets_more}
use Rattle.bd_buffers.proofs.listing.forget.Goals as goal
use Rattle.bd_buffers.proofs.listing.forget.Goals.{then-is_live, else-is_live}

-- one row more
forgotten : (rows : List Record) (i : ℕ) (d : Record) (old mid new : WordMap ℕ) → i < length rows → lives (get_or rows i d) ≡ true → Forgets (live_places (take i rows)) old mid
    → ((k : WordKey) → look new k ≡ cond (same_word (home_key (get_or rows i d).made) k) None (look mid k)) → Forgets (live_places (take (i + 1) rows)) old new
forgotten rows i d old mid new lt t forgets gone =
    simp (filter_more lives rows i d lt, t, map_push made_of_record) (forgets_more (live_places (take i rows)) (get_or rows i d).made old mid new forgets gone)

kept : (rows : List Record) (i : ℕ) (d : Record) (old new : WordMap ℕ) → i < length rows → lives (get_or rows i d) ≡ false → Forgets (live_places (take i rows)) old new → Forgets (live_places (take (i + 1) rows)) old new
kept rows i d old new lt t forgets = simp (filter_more lives rows i d lt, t, append-nil) forgets

pub loop-gone-preserved : goal.loop-gone-preserved
loop-gone-preserved c =
    let rows = c.args.rows.now in let old = c.args.homes.now in let i = c.loop-gone.gone-index in
    elim c.if-is_live.branch [
      | then-is_live w ↦ rw w.homes-is (forgotten rows i _ old c.loop-gone.homes w.remove-home.new.self c.loop-gone-test.true (sym c.is_live.ensures ∙ w.if-is_live.true) c.loop-gone.invariant
          (λ k. rw w.home_key.ensures at (w.remove-home.ensures.gone k)))
      | else-is_live w ↦ rw w.homes-is (kept rows i _ old c.loop-gone.homes c.loop-gone-test.true (sym c.is_live.ensures ∙ w.if-is_live.false) c.loop-gone.invariant)
    ]
