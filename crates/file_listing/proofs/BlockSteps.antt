-- Going over the blocks of a file one by one.
use Rattle.std.proofs.Common.{◌≡◌, ℕ, suc, ◌+◌, ◌<◌, List, [], ◌∷◌, ◌++◌, length, map, Err, refl, sym, subst, ◌∙◌, inl, inr, arith}
use Rattle.std.proofs.lemmas.List.{length-append, map-append}
use Rattle.file_laws.specs.Blocks.{InTurn, block_at}
use Rattle.file_laws.specs.Reading.{ended}
use Rattle.file_laws.specs.declared.batch_fault.BatchFault.{BatchFault}
use Rattle.file_listing.specs.BlockLines.{FailsAmongBlocks, HasBlock, HasTextOf, HaveTextsOf}
use Rattle.file_listing.specs.BodyLines.{body_lines}

abbrev Block : Type 0
Block = List (List ℕ)

-- these are the texts of the blocks so far; so many more are to be read of the bytes that are left
abbrev pub HaveBegun : ℕ → List ℕ → ℕ → List ℕ → List (List ℕ) → Type 0
HaveBegun count bytes more left texts =
    (blocks : List Block) × (length blocks + more ≡ count) × InTurn HasBlock bytes blocks left × (texts ≡ map body_lines blocks)

one_more : (bytes mid left : List ℕ) (blocks : List Block) (block : Block) → InTurn HasBlock bytes blocks mid → HasBlock mid block left
    → InTurn HasBlock bytes (blocks ++ block ∷ []) left
one_more bytes mid left [] block are is = (left, subst (λ (b : List ℕ). HasBlock b block left) (sym are) is, refl)
one_more bytes mid left (b ∷ blocks) block are is = (are.0, are.1, one_more are.0 mid left blocks block are.2 is)

pub goes_on : (count : ℕ) (bytes : List ℕ) (left more : ℕ) (rest behind text : List ℕ) (texts after : List (List ℕ)) → left ≡ suc more
    → HasTextOf rest text behind → after ≡ texts ++ text ∷ [] → HaveBegun count bytes left rest texts → HaveBegun count bytes more behind after
goes_on count bytes left more rest behind text texts after one next added so =
    let lines : map body_lines (so.0 ++ next.0 ∷ []) ≡ map body_lines so.0 ++ body_lines next.0 ∷ [] = map-append body_lines so.0 (next.0 ∷ []) in (
      so.0 ++ next.0 ∷ [],
      omega (arith, length-append so.0 (next.0 ∷ []), so.1, one),
      one_more bytes rest behind so.0 next.0 so.2 next.1,
      added ∙ rw (so.3, next.2) (sym lines),
    )

pub fails : (count : ℕ) (bytes : List ℕ) (left : ℕ) (rest : List ℕ) (texts : List (List ℕ)) (e : BatchFault) → 0 < left → block_at rest ≡ Err e
    → HaveBegun count bytes left rest texts → FailsAmongBlocks count bytes e
fails count bytes left rest texts e some read so = (so.0, rest, so.2, inl (omega (arith, so.1, some), read))

pub ends : (count : ℕ) (bytes : List ℕ) (left : ℕ) (rest : List ℕ) (texts : List (List ℕ)) → left ≡ 0 → HaveBegun count bytes left rest texts
    → HaveTextsOf count bytes texts rest
ends count bytes left rest texts none so = (so.0, omega (arith, so.1, none), so.2, so.3)

-- bytes stand behind the last block
pub is_behind : (count : ℕ) (bytes : List ℕ) (texts : List (List ℕ)) (rest : List ℕ) (e : BatchFault) → HaveTextsOf count bytes texts rest → ended rest ≡ Err e
    → FailsAmongBlocks count bytes e
is_behind count bytes texts rest e are read = (are.0, rest, are.2, inr (are.1, read))
