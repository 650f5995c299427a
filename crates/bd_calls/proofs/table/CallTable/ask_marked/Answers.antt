use Rattle.std.proofs.Common.{ℕ, ◌<◌, Bool, cond, sym, ap, subst, ◌∙◌, arith, inl, inr}
use Rattle.std.proofs.lemmas.Bool.{cases_eq}
use Rattle.std.proofs.lemmas.Nat.Bits.{bit_at-zero}
use Rattle.std.specs.Int.{bit_at}
use Rattle.bd_space.specs.Histories.{is_ready}
use Rattle.bd_calls.proofs.Marked.{at_bit, beside_bit, is_ready_word, has_31_bits, unmarked}
use Rattle.bd_calls.proofs.table.CallTable.ask_marked.Goals as goal

pub marked-init : goal.marked-init
marked-init c = record {
  fits = omega arith;
  below = λ i low. c.low-rest.ensures.no_more i;
  looked = λ s stands i l none.
      let quiet = unmarked s c.args.self.now.ready.seats.items c.args.self.now.ready.marked i (omega arith) c.args.self.now.ready.are_marked (stands.ready_are i)
      (sym (c.low-rest.ensures.kept i l) ∙ none) in
      bit_at-zero i ∙ ap (λ b. cond b 1 0) (sym quiet);
  beyond = λ i low out. bit_at-zero i;
}

pub marked-preserved : goal.marked-preserved
marked-preserved c =
    let seat = c.lowest-seat.result in
    let within = c.marked.invariant.below seat c.lowest-seat.ensures.bound c.lowest-seat.ensures.set in
    let bit = c.with_bit-ready.ensures in
    let one : Bool → ℕ = λ b. cond b 1 0 in
    let mine : ℕ = one c.is_ready.result in
    record {
      fits = c.with_bit-ready.type_inv;
      below = λ i low set. elim (cases_eq i seat) [
        | inl same ↦ subst (λ n. n < c.args.seats) (sym same) within
        | inr apart ↦ c.marked.invariant.below i low (sym (c.without-rest.ensures.others i low apart) ∙ set)
      ];
      looked = λ s stands i l none. elim (cases_eq i seat) [
        | inl same ↦ bit i (omega arith) ∙ at_bit i seat mine (bit_at c.marked.ready i) same ∙ ap one (c.is_ready.ensures s stands ∙ ap (is_ready s) (sym same))
        | inr apart ↦ bit i (omega arith) ∙ beside_bit i seat mine (bit_at c.marked.ready i) apart
            ∙ c.marked.invariant.looked s stands i l (sym (c.without-rest.ensures.others i (omega arith) apart) ∙ none)
      ];
      beyond = λ i low out. bit i low ∙ beside_bit i seat mine (bit_at c.marked.ready i) (λ same. absurd (omega (arith, same, within, out))) ∙ c.marked.invariant.beyond i low out;
    }

pub returns : goal.returns
returns c =
    let gone = λ (i : ℕ). ap (λ n. bit_at n i) c.marked-test.false ∙ bit_at-zero i in
    record {
      ready = λ s stands. is_ready_word s c.args.seats c.marked.ready c.requires c.marked.invariant.fits (λ i l. c.marked.invariant.looked s stands i l (gone i)) c.marked.invariant.beyond;
      bits = has_31_bits c.marked.ready c.marked.invariant.fits (c.marked.invariant.beyond 31 (omega arith) (omega (arith, c.requires)));
    }
