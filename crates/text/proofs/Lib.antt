pub mod DecimalLaws
pub mod TextLaws
