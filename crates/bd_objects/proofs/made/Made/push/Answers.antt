use Rattle.bd_objects.proofs.Words.{[], ap, arith, few, length, length-append, nat_lt, sym, vec_len, ◌||◌, ◌∙◌, ◌∷◌, ◌≡◌, ◌≤◌}
use Rattle.bd_objects.proofs.{Later.{all_first, all_rise, finds_all, finds_more, low_push, still_rise}, made.{Made.{push.{Goals.{else-first, then-first}}}}}
use Rattle.bd_objects.proofs.made.Made.push.Goals as goal

pub invariant_of-self : goal.invariant_of-self
invariant_of-self c =
    let old = c.args.self.now in
    let xs = old.objects.items in
    let x = c.args.x in
    let n = vec_len old.objects in
    let len : n ≡ length xs = omega (arith, old.objects.ok.0) in
    let more = length-append xs (x ∷ []) in
    record {
      found = elim c.if-first.branch [
        | then-first w ↦ rw (c.push_reserved.ensures.items, w.self-is)
            (finds_all old.first _ xs x old.later
            (all_first old.rising (nat_lt old.highest x.ptr) old.first n (λ le. old.few (omega (arith, le, len)) ∙ sym len)
            (ap (λ b. b || nat_lt n few) (sym c.rises_to-rises.ensures) ∙ sym c.is_next_first-first.ensures ∙ w.if-first.true) ∙ len)
            (omega (arith, w.len.ensures, len)) old.found)
        | else-first w ↦ rw (c.push_reserved.ensures.items, w.self-is)
            (finds_more old.first xs x old.later w.note.new.later old.found old.within w.note.ensures.found)
      ];
      within = elim c.if-first.branch [
        | then-first w ↦ rw (c.push_reserved.ensures.items, w.self-is) (omega (arith, w.len.ensures, len, more))
        | else-first w ↦ rw (c.push_reserved.ensures.items, w.self-is) (omega (arith, old.within, more))
      ];
      few = elim c.if-first.branch [
        | then-first w ↦ rw (c.push_reserved.ensures.items, w.self-is) (λ le. omega (arith, w.len.ensures, len, more))
        | else-first w ↦ rw (c.push_reserved.ensures.items, w.self-is)
            (λ le. absurd (let many : few ≤ n = grind (arith, c.is_next_first-first.ensures, w.if-first.false) in omega (arith, many, le, len, more)))
      ];
      rises = elim c.if-first.branch [
        | then-first w ↦ rw (c.push_reserved.ensures.items, w.self-is)
            (λ h. all_rise old.rising old.first n _ old.highest xs x len (omega (arith, w.len.ensures)) old.not_higher old.rises (sym c.rises_to-rises.ensures ∙ h))
        | else-first w ↦ rw (c.push_reserved.ensures.items, w.self-is) (still_rise old.rising old.first xs x old.within old.rises)
      ];
      not_higher = elim c.if-first.branch [
        | then-first w ↦ rw (c.push_reserved.ensures.items, w.self-is) (low_push old.highest c.max-self.result xs x (omega (arith, c.max-self.ensures)) (omega (arith, c.max-self.ensures)) old.not_higher)
        | else-first w ↦ rw (c.push_reserved.ensures.items, w.self-is) (low_push old.highest c.max-self.result xs x (omega (arith, c.max-self.ensures)) (omega (arith, c.max-self.ensures)) old.not_higher)
      ];
    }
