pub mod Lengths
pub mod Parts
pub mod NumberLaws
pub mod LineLaws
pub mod TextLaws
pub mod NumbersAgain
pub mod LinesAgain
pub mod TextsAgain
