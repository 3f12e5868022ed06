-- Points from which control goes straight on.
pub use Rattle.point_arrivals.specs.Straight.{is_straight_op, IsStraight}
