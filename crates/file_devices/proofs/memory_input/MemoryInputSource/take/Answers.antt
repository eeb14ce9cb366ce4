use Rattle.std.proofs.Common.{◌≡◌, ◌≤◌, ◌+◌, ◌++◌, sym, ℕ, List, arith, length, take, drop}
use Rattle.std.proofs.lemmas.List.{drop-drop, length-take-le, take-append-drop, take-append-le}
use Rattle.std.proofs.Math.Seq.{take-length}
use Rattle.file_devices.proofs.memory_input.MemoryInputSource.take.Goals as goal

-- what is copied to the front of a buffer, and what stays
copied_and_rest : (xs rest : List ℕ) (at n : ℕ) → n ≤ length (drop at xs) → drop at xs ≡ take n (take n (drop at xs) ++ rest) ++ drop (at + n) xs
copied_and_rest xs rest at n fits =
    let size = length-take-le n (drop at xs) fits in
    let copied : take n (take n (drop at xs) ++ rest) ≡ take n (drop at xs) =
    grind (arith, size, take-append-le n (take n (drop at xs)) rest, take-length (take n (drop at xs))) in
    rw (copied, ← drop-drop) (sym (take-append-drop n (drop at xs)))

pub returns-clause-bytes : goal.returns-clause-bytes
returns-clause-bytes c known =
    let rest = rw c.deref.ensures.value at c.split_at.ensures.back in
    let fits : c.min-count.result ≤ length (drop c.args.self.now.at c.args.self.now.bytes.items) = rw (← rest) (omega arith) in
    rw (c.copy_from_slice.ensures.after, c.split_at-2.ensures.front, rest) (copied_and_rest c.args.self.now.bytes.items (drop c.min-count.result c.args.buffer.now) c.args.self.now.at c.min-count.result fits)
