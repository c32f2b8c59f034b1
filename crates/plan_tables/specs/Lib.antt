pub mod Layout
pub mod Given
pub mod FlatLaws
pub mod RisingLaws
pub mod RowPlaces
