-- What a core holds.
use Rattle.std.specs.Prelude.{◌≡◌, ℕ, ◌<◌, max, List, [], length, map, replicate, slice_index_or, slice_set, Option, None, refl}
use Rattle.std.specs.Coded.{Coded, code_by, coded×, coded_list, coded_option}
use Rattle.std.specs.FinMap as finite
use Rattle.issuer_words.specs.Words.{Frame, ReplyBody, RowKey, Rows}
use Rattle.stm_scheduler.specs.declared.message_progress.MessageProgress.{MessageProgress}
use Rattle.stm_scheduler.specs.declared.status.Status.{Status}
use Rattle.stm_memory.specs.Entries.{Entries, Shelf, held}
use Rattle.stm_scheduler.specs.Board.{Board, mark, open_board}
use Rattle.stm_core_laws.specs.declared.validation.Validation.{Validation}
use Rattle.stm_core_laws.specs.declared.limits.Limits.{Limits}
use Rattle.stm_core_laws.specs.declared.logged.Logged.{Logged}

-- the rows that an incarnation was answered, in the order of asking
abbrev pub Log : Type 0
Log = List (RowKey × Logged)

-- what is kept of a message beside its entries and where it stands: the reply of the execution that finished, and what this incarnation
-- read
pub record ExecutionSlot : Type 0 where
  pub reply : Option ReplyBody
  pub log : Log

-- what a core holds
pub record State : Type 0 where
  pub opening : Rows
  pub frames : List Frame
  pub entries : Entries
  pub board : Board
  pub slots : List ExecutionSlot
  pub limits : Limits
  pub validations : List (Option Validation)

-- nothing is kept
abbrev pub empty_slot : ExecutionSlot
empty_slot = record { reply = None; log = [] }

-- what is kept of the message at i
abbrev pub slot : State → ℕ → ExecutionSlot
slot s i = slice_index_or s.slots i empty_slot

-- all that there is of one message beside its entries
pub record MessageState : Type 0 where
  pub status : Status
  pub incarnation : ℕ
  pub stamp : Option ℕ
  pub reply : Option ReplyBody
  pub log : Log

-- from where it stands and what is kept of it
abbrev pub message_of : MessageProgress → ExecutionSlot → MessageState
message_of m kept = record { status = m.status; incarnation = m.incarnation; stamp = m.stamp; reply = kept.reply; log = kept.log }

-- all that there is of the message at i
abbrev pub message : State → ℕ → MessageState
message s i = message_of (mark s.board i) (slot s i)

-- what stands for each row at each index
abbrev pub shelf : State → Shelf
shelf s = held s.entries

-- the seat's validation
abbrev pub validation_of : State → ℕ → Option Validation
validation_of s seat = slice_index_or s.validations seat None

-- the state with this kept of the message at i
abbrev pub with_slot : State → ℕ → ExecutionSlot → State
with_slot s i kept = record s { slots = slice_set s.slots i kept }

-- the state with this validation of the seat
abbrev pub with_validation : State → ℕ → Option Validation → State
with_validation s seat validation = record s { validations = slice_set s.validations seat validation }

-- how many seats there are
abbrev pub seats : ℕ
seats = 64

-- an epoch of 0 counts as 1
abbrev pub bounded : Limits → Limits
bounded limits = record { incarnation = limits.incarnation; epoch = max 1 limits.epoch }

-- the opening state: all messages ready, nothing written, nothing committed, no validation
abbrev pub start : Rows → List Frame → Limits → State
start opening frames limits = record {
  opening = opening;
  frames = frames;
  entries = finite.empty;
  board = open_board (length frames);
  slots = map (λ _. empty_slot) frames;
  limits = bounded limits;
  validations = replicate seats None;
}

-- x stands at i
abbrev pub IsAt : {X : Type 0} → List X → ℕ → X → Type 0
IsAt xs i x = (i < length xs) × (x ≡ slice_index_or xs i x)

-- how a state is stored
abbrev pub state_code : Coded Rows → Coded Frame → Coded Entries → Coded Board → Coded ExecutionSlot → Coded Limits → Coded Validation → Coded State
state_code rows frame entries board kept limits validation =
    code_by (Rows × (List Frame × (Entries × (Board × (List ExecutionSlot × (Limits × List (Option Validation)))))))
    (coded× rows (coded× (coded_list frame) (coded× entries (coded× board (coded× (coded_list kept) (coded× limits (coded_list (coded_option validation))))))))
    (λ s. (s.opening, (s.frames, (s.entries, (s.board, (s.slots, (s.limits, s.validations)))))))
    (λ p. record { opening = p.0; frames = p.1.0; entries = p.1.1.0; board = p.1.1.1.0; slots = p.1.1.1.1.0; limits = p.1.1.1.1.1.0; validations = p.1.1.1.1.1.1 })
    (λ _. refl)
