pub mod OccurrenceLaws
pub mod MissingLaws
pub mod CountLaws
pub mod CountingLaws
pub mod NamedLaws
pub mod KeptLaws
