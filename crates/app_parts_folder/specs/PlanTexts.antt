-- The files beside the books and batches of a batch in parts: the plan, and what says that a part is decided.
use Rattle.std.specs.Prelude.{◌≡◌, ◌<◌, ◌≤◌, ℕ, List, ◌++◌, length, codes}
use Rattle.std.specs.List.{flat_map, All}
use Rattle.byteorder.specs.Endian.{big_bytes}
use Rattle.app_parts_folder.specs.declared.part_digests.PartDigests.{PartDigests}
use Rattle.app_parts_folder.specs.declared.plan_file.PlanFile.{PlanFile}

-- a plan: the digest of the rest's book, of each part those of its book and its batch, and the part of each message in the order of arrival
pub record Plan : Type 0 where
  pub rest : List ℕ
  pub digests : List PartDigests
  pub parts : List ℕ

abbrev pub plan_of : PlanFile → Plan
plan_of file = record { rest = file.rest; digests = file.digests.items; parts = file.parts.items }

-- both digests have 32 bytes
abbrev pub AreDigests : PartDigests → Type 0
AreDigests digests = (length digests.book ≡ 32) × (length digests.batch ≡ 32)

-- so many parts, 1 to 64, with their digests, and so many messages, at most 65,536, each of one of the parts
pub record AreListed (count messages : ℕ) (digests : List PartDigests) (parts : List ℕ) : Type 0 where
  pub each : length digests ≡ count
  pub all : length parts ≡ messages
  pub some : 0 < count
  pub few : count ≤ 64
  pub fit : messages ≤ 65536
  pub below : All (λ part. part < count) parts
  pub digest : All AreDigests digests

-- the plans that a file can have
pub record IsPlan (plan : Plan) : Type 0 where
  pub rest : length plan.rest ≡ 32
  pub listed : AreListed (length plan.digests) (length plan.parts) plan.digests plan.parts

-- ---- the plan's file

-- both, one behind the other
abbrev pub digests_text : PartDigests → List ℕ
digests_text digests = digests.book ++ digests.batch

-- the letters, and version 1
abbrev pub plan_letters : List ℕ
plan_letters = codes "I83P" ++ big_bytes 2 1

-- the digests of the parts, and a byte for each message, its part
abbrev pub listed_text : List PartDigests → List ℕ → List ℕ
listed_text digests parts = flat_map digests_text digests ++ parts

-- behind the letters how many parts and how many messages there are, the digest of the rest, and what is listed
abbrev pub plan_text : Plan → List ℕ
plan_text plan =
    plan_letters ++ (big_bytes 4 (length plan.digests) ++ (big_bytes 4 (length plan.parts) ++ (plan.rest ++ listed_text plan.digests plan.parts)))

-- ---- the file of a part that is decided

-- the letters and version 1, the part's number, and the digest of the plan's bytes
abbrev pub decided_head : ℕ → List ℕ → List ℕ
decided_head part plan = codes "I83D" ++ big_bytes 2 1 ++ big_bytes 4 part ++ plan

-- behind them the digests of its replies' and its new book's bytes
abbrev pub decided_text : ℕ → List ℕ → List ℕ → List ℕ → List ℕ
decided_text part plan replies new_book = decided_head part plan ++ (replies ++ new_book)
