-- What a file holds after texts were packed into it: a batch of all their bodies, or a block of each text's.
use Rattle.std.specs.Prelude.{◌≡◌, ◌⊎◌, ◌<◌, ⊤, ℕ, ◌+◌, List, [], ◌∷◌, ◌++◌, Ok, Err, length}
use Rattle.file_batch.specs.Words.{Failing, IsThere, batch_text}
use Rattle.file_laws.specs.declared.batch_fault.BatchFault.TheVariants.{Blocks, Count}
use Rattle.file_listing.specs.Bodies.{HasTooMany, bodies_of}
use Rattle.app_jobs.specs.Decided.{Holding}
use Rattle.app_jobs.specs.Faults.{IsWritingFaultOf}
use Rattle.app_jobs.specs.declared.job_fault.JobFault.{JobFault}
use Rattle.app_jobs.specs.declared.job_fault.JobFault.TheVariants.{Unreadable, Batch, Text, OutOfMemory}
use Rattle.file_listing.specs.BlockText.{all_bodies, block_file_text}

abbrev Name : Type 0
Name = List ℕ

abbrev Body : Type 0
Body = List ℕ

-- ---- what texts have

-- the text of this name, where its bytes are known, has these bodies
abbrev pub HasBodies : Holding → Name → List Body → Type 0
HasBodies old text bodies = (bytes : List ℕ) → old text bytes → bodies_of bytes ≡ Ok bodies

-- these texts have these blocks, each text the bodies of one
abbrev pub HaveBlocks : Holding → List Name → List (List Body) → Type 0
HaveBlocks old [] blocks = blocks ≡ []
HaveBlocks old (text ∷ texts) blocks =
    (own : List Body) × (more : List (List Body)) × HasBodies old text own × HaveBlocks old texts more × (blocks ≡ own ∷ more)

-- these texts have these bodies, one text's behind another's
abbrev pub HaveBodies : Holding → List Name → List Body → Type 0
HaveBodies old [] bodies = bodies ≡ []
HaveBodies old (text ∷ texts) bodies =
    (own : List Body) × (more : List Body) × HasBodies old text own × HaveBodies old texts more × (bodies ≡ own ++ more)

-- each of these texts is there
abbrev pub AreThere : Holding → List Name → Type 0
AreThere old [] = ⊤
AreThere old (text ∷ texts) = IsThere old text × AreThere old texts

-- ---- what is made of them

-- Where it is known what files hold, the texts are there, and the file of the batch holds the bodies that they have, so many.
pub record ArePacked (known : Type 0) (old new : Holding) (texts : List Name) (batch : Name) (count : ℕ) : Type 0 where
  pub bodies : List Body
  pub there : known → AreThere old texts
  pub lines : HaveBodies old texts bodies
  pub counted : count ≡ length bodies
  pub packed : known → new batch (batch_text bodies)

-- The same of blocks: their file holds a block of each text's bodies, so many in all.
pub record ArePackedInBlocks (known : Type 0) (old new : Holding) (texts : List Name) (file : Name) (count : ℕ) : Type 0 where
  pub blocks : List (List Body)
  pub there : known → AreThere old texts
  pub lines : HaveBlocks old texts blocks
  pub counted : count ≡ length (all_bodies blocks)
  pub packed : known → new file (block_file_text blocks)

-- ---- why they are not packed

-- Why the text of this name gives no bodies: its first wrong line; it has more than a batch may have; a call on it failed; or memory
-- ran out.
abbrev pub IsTextFault : Holding → Failing → Name → JobFault → Type 0
IsTextFault old failing name (Text line) = (bytes : List ℕ) → old name bytes → bodies_of bytes ≡ Err line
IsTextFault old failing name (Batch fault) =
    (fault ≡ Count) × ((bytes : List ℕ) → old name bytes → HasTooMany bytes)
IsTextFault old failing name Unreadable = (bytes : List ℕ) → old name bytes → failing.reading name
IsTextFault old failing name OutOfMemory = Unit {0}
IsTextFault _ _ _ _ = ⊥

-- Why texts give no bodies for one batch, behind so many: the first of them has a fault, or with its bodies there are more than a batch
-- may have; or it has bodies, and the texts behind it give none.
abbrev pub IsBodiesFault : Holding → Failing → ℕ → List Name → JobFault → Type 0
IsBodiesFault old failing before [] fault = ⊥
IsBodiesFault old failing before (text ∷ texts) fault =
    IsTextFault old failing text fault
    ⊎ ((own : List Body) × HasBodies old text own
    × (((fault ≡ Batch Count) × (65536 < before + length own)) ⊎ IsBodiesFault old failing (before + length own) texts fault))

-- Why texts give no blocks: the first of them has a fault; or it has bodies, and the texts behind it give none.
abbrev pub IsOneTextFault : Holding → Failing → List Name → JobFault → Type 0
IsOneTextFault old failing [] fault = ⊥
IsOneTextFault old failing (text ∷ texts) fault =
    IsTextFault old failing text fault ⊎ ((own : List Body) × HasBodies old text own × IsOneTextFault old failing texts fault)

-- The same, where a file has at most 1,000 blocks.
abbrev pub IsBlocksFault : Holding → Failing → List Name → JobFault → Type 0
IsBlocksFault old failing texts fault =
    ((fault ≡ Batch Blocks) × (1000 < length texts)) ⊎ IsOneTextFault old failing texts fault

-- Why texts are not packed: what they lack; or, where they have bodies, that these are not written to the file of the batch.
abbrev pub IsPackingFault : Holding → Failing → List Name → Name → JobFault → Type 0
IsPackingFault old failing texts batch fault =
    IsBodiesFault old failing 0 texts fault
    ⊎ ((bodies : List Body) × HaveBodies old texts bodies × IsWritingFaultOf failing batch fault)

-- the same of blocks
abbrev pub IsBlockPackingFault : Holding → Failing → List Name → Name → JobFault → Type 0
IsBlockPackingFault old failing texts file fault =
    IsBlocksFault old failing texts fault
    ⊎ ((blocks : List (List Body)) × HaveBlocks old texts blocks × IsWritingFaultOf failing file fault)
