use Rattle.bd_deaths.proofs.Words.{[], ap, arith, by_object, by_process, count_of, false, refl, told_of}
use Rattle.bd_deaths.proofs.table.DeathTable.new.Goals as goal

pub returns : goal.returns
returns c = record {
  entries = [];
  are = record {
    on_objects = c.new-3.ensures c.new-2.ensures by_object (λ _. false);
    of_processes = c.new-5.ensures c.new-4.ensures by_process (λ _. false);
    slots_are = λ k. grind arith;
    places_are = λ m. grind arith;
    names_are = λ k. grind arith;
    apart = λ i j d lt h. absurd (omega arith);
    fit = λ k d h. absurd (omega arith);
  };
  deaths_are = refl;
  shared = record {
    counted = λ k. ap count_of (c.new-8.ensures k);
    tolds = λ k. ap told_of (c.new-8.ensures k);
    kept = λ k none. c.new-8.ensures k;
  };
}
