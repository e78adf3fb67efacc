pub mod BackLaws
pub mod HolesLaws
pub mod LineLaws
pub mod ListingLaws
pub mod SizeLaws
