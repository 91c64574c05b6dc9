-- Key sets as words.
pub mod Word
pub mod Inside
