-- Blocks that are full, and those behind them.
use Rattle.std.proofs.Common.{◌≡◌, ◌+◌, ◌*◌, ◌<◌, ◌≤◌, List, [], ◌∷◌, ◌++◌, length, ap, arith}
use Rattle.std.specs.List.{AllByRecursion}
use Rattle.std.proofs.lemmas.List.{append-nil, length-append}
use Rattle.issuer_rows.specs.declared.frame.Frame.{Frame}
use Rattle.file_laws.specs.Blocks.{all_messages}
use Rattle.log_replay.specs.Blocks.{AreCut}

-- full blocks
abbrev pub AreFull : List (List Frame) → Type 0
AreFull blocks = AllByRecursion (λ block. length block ≡ 65536) blocks

pub full_cut : (blocks : List (List Frame)) → AreFull blocks → AreCut blocks
full_cut [] full = tt
full_cut (block ∷ []) full = (omega (arith, full.0), omega (arith, full.0))
full_cut (block ∷ next ∷ blocks) full = (full.0, full_cut (next ∷ blocks) full.1)

pub last_cut : (blocks : List (List Frame)) (last : List Frame) → AreFull blocks → 1 ≤ length last → length last ≤ 65536 → AreCut (blocks ++ last ∷ [])
last_cut [] last full some few = (some, few)
last_cut (block ∷ []) last full some few = (full.0, (some, few))
last_cut (block ∷ next ∷ blocks) last full some few = (full.0, last_cut (next ∷ blocks) last full.1 some few)

pub one_more_full : (blocks : List (List Frame)) (block : List Frame) → AreFull blocks → length block ≡ 65536 → AreFull (blocks ++ block ∷ [])
one_more_full [] block full this = (this, tt)
one_more_full (b ∷ blocks) block full this = (full.0, one_more_full blocks block full.1 this)

-- so many blocks have so many messages
pub length-cut : (blocks : List (List Frame)) → AreCut blocks
    → (length (all_messages blocks) ≤ length blocks * 65536) × (length blocks * 65536 < length (all_messages blocks) + 65536)
length-cut [] cut = (omega arith, omega arith)
length-cut (block ∷ []) cut =
    let all : length (all_messages (block ∷ [])) ≡ length block = ap length (append-nil block) in
    (omega (arith, all, cut.1), omega (arith, all, cut.0))
length-cut (block ∷ next ∷ blocks) cut =
    let all : length (all_messages (block ∷ next ∷ blocks)) ≡ length block + length (all_messages (next ∷ blocks)) = length-append block (all_messages (next ∷ blocks)) in
    let rest = length-cut (next ∷ blocks) cut.1 in
    (omega (arith, all, cut.0, rest.0), omega (arith, all, cut.0, rest.1))
