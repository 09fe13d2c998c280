-- The command, in `clap`'s terms.
pub mod Line
-- What the words mean.
pub mod Options
-- When they ask for a conversation.
pub mod Live
