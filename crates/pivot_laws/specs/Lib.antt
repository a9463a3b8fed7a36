pub mod Choose
pub mod ImprovingTrails
pub mod BoundLaws
