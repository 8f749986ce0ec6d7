pub mod TokenRows
pub mod CanonRows
pub mod ReadingRows
pub mod LineRows
