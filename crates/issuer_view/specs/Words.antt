-- The words of decisions and their sets of rows, from one place.
pub use Rattle.issuer_view.specs.Recording.{AgreesWithBook}
pub use Rattle.issuer_view.specs.RowSets.{IsOnceEach, latest, logged, put, value_in}
