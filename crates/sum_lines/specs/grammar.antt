-- The line grammar: the shapes of a manifest's lines, their form and their entries, how lines parse, and laws.
pub mod Shapes
pub mod Form
pub mod Entries
pub mod LineParts
pub mod ParsedLines
pub mod LineLaws
