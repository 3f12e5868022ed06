-- Addresses.
pub use Rattle.ot_base.specs.Address.{up, down, shifted}
