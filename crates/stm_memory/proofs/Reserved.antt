-- Room is made beside the entries, and no entry changes.
use Rattle.std.proofs.Common.{◌≡◌, ℕ, ◌<◌, ◌≤◌, List, length, IsSome, Result, Ok, Err, OnOk, sym, ◌∙◌}
use Rattle.std.specs.FinMap as finite
use Rattle.issuer_words.specs.Words.{RowKey, Writes}
use Rattle.issuer_view.specs.Words.{IsOnceEach, value_in}
use Rattle.stm_memory.specs.Words.{Chains, Entries, room_of, stands}
use Rattle.stm_memory.proofs.Kept.{told_list, told_room}
use Rattle.stm_memory.proofs.Placed.{held_placed, place_cmp_total, place_cmp_antisymmetric}
use Rattle.stm_memory.specs.Memory.{WrittenRows, HasRoom, list_at, memory_of, placed}

-- where the same stands, the entries are the same
pub same_entries : (old new : Chains) (was : Entries) → IsOnceEach old → IsOnceEach new → ((r : RowKey) (i : ℕ) → stands new r i ≡ stands old r i) → finite.from_entries (placed old) ≡ was → finite.from_entries (placed new) ≡ was
same_entries old new was once after same is =
    finite.same_map place_cmp_total place_cmp_antisymmetric _ _ (λ q. held_placed new q.row q.index after ∙ same q.row q.index ∙ sym (held_placed old q.row q.index once)) ∙ is

-- there is room, where each written row's chain and the message's list have it
pub has_room : (chains : Chains) (lists : List WrittenRows) (index : ℕ) (writes : Writes) → ((row : RowKey) → IsSome (value_in writes row) → 0 < room_of chains row) → index < length lists → length writes ≤ (list_at lists index).room → HasRoom (memory_of chains lists).room index writes
has_room chains lists index writes rows there free =
    (λ row some. told_room chains row (rows row some), ((list_at lists index).room, told_list lists index there, free))

-- what follows from an answer's clause, where it is no refusal
pub on_ok : {E : Type 0} {P Q : Type 0} (r : Result (Unit {0}) E) → (P → Q) → OnOk r P → OnOk r Q
on_ok (Ok x) f p = f p
on_ok (Err e) f p = tt
