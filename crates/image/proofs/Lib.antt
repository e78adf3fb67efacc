pub mod PlaceLaws
pub mod CountLaws
pub mod ImageLaws
pub mod NothingLaws
