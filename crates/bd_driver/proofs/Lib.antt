mod Words
pub mod PageWord
pub mod Places
pub mod Views
pub mod Picked
pub mod Mailboxes
pub mod Keeping
pub mod Looks
pub mod Takes
pub mod MailboxSteps
pub mod OwnMailbox
pub mod Moves
pub mod Serves
pub mod WholeCalls
pub mod Deals
pub mod Emptied
pub mod Ends
pub mod Seats
