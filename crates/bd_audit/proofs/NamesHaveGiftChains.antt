-- The law NamesHaveGiftChains, and the search for a chain: each name rests on gifts, from its object's owner on.
pub mod NewNames
pub mod Naming
pub mod Chains
pub mod NameBegins
pub mod GiftSteps
