-- The numbers of points, and where these stand.
pub use Rattle.point_arrivals.proofs.Numbers.{number_is}
pub use Rattle.point_arrivals.proofs.LowPlaces.{low_point}
