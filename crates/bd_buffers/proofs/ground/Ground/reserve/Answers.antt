use Rattle.bd_buffers.proofs.Words.{arith, refl}
use Rattle.bd_buffers.proofs.{Noted.{keeps_memory}, Standing.{all_stay}}
use Rattle.bd_buffers.proofs.ground.Ground.reserve.Goals as goal

pub returns-clause-kept : goal.returns-clause-kept
returns-clause-kept c = λ rs is. search (arith, keeps_memory)

pub returns-clause-standing : goal.returns-clause-standing
returns-clause-standing c = λ rs is. all_stay c.args.self.now.memory _ c.reserve-2.ensures.kept rs is.there

pub returns-in_err-reserve-clause-kept : goal.returns-in_err-reserve-clause-kept
returns-in_err-reserve-clause-kept c = λ rs is. keeps_memory rs c.args.self.now _ is refl refl refl (λ j. refl) (λ i j le. refl) (omega arith) c.reserve.ensures.same.1 c.reserve.ensures.tiles

pub returns-in_err-lengthen-clause-kept : goal.returns-in_err-lengthen-clause-kept
returns-in_err-lengthen-clause-kept c = λ rs is. keeps_memory rs c.args.self.now _ is refl refl refl c.lengthen.ensures.same (λ i j le. refl) (omega arith) c.reserve.ensures.same.1 c.reserve.ensures.tiles
