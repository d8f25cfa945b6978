pub mod Past
pub mod HeaderLaws
pub mod CountLaws
pub mod WordLaws
pub mod NeedLaws
