-- By which command a text is judged.
pub mod Judged
-- What a line's transaction sees.
pub mod Seen
-- What is known of all lines.
pub mod Known
-- What fails first of the lines.
pub mod Found
-- What an audit answers.
pub mod Verdict
