pub mod LeLaws
pub mod WidthLaws
pub mod RangeLaws
pub mod LayoutLaws
