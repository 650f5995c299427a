-- The law NoticesAreDue: a Notice stands exactly while an object's owner was told other than what is so.
pub mod Due
