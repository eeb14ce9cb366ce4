-- The words of versions, entries and chains, from one place.
pub use Rattle.stm_memory.specs.Chains.{AreInOrder, AreSound, Chain, Chains, FitsAt, IsChangedAt}
pub use Rattle.stm_memory.specs.Chains.{StandsAt, found, held_of, links_in, room_in, room_of}
pub use Rattle.stm_memory.specs.Chains.{row_at, rows_of, seen_by, seen_of, stands}
pub use Rattle.stm_memory.specs.Entries.{AreEstimated, AreReplaced, Entries, Held, IsNewLocation}
pub use Rattle.stm_memory.specs.Entries.{Shelf, estimate_of, held, place_cmp, place_of, value_at}
pub use Rattle.stm_memory.specs.Entries.{written}
pub use Rattle.stm_memory.specs.Memory.{AreListed, Memory, WrittenRows, list_at, placed}
pub use Rattle.stm_memory.specs.Resolves.{IsLaidOver, IsSeenOfKind, Resolves, row_count, row_under}
