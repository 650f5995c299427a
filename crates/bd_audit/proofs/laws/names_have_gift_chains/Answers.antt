use Rattle.bd_audit.proofs.NamesHaveGiftChains.Chains.{name_chain}
use Rattle.bd_audit.proofs.laws.names_have_gift_chains.Goals as goal

pub returns : goal.returns
returns c = λ h lawful p number o e. name_chain h p number o e
