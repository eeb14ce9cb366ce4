-- How a day went, by what the files of its batch and of its replies hold.
use Rattle.std.specs.Prelude.{◌≡◌, ◌≢◌, ◌⊎◌, ⊤, ℕ, List, Option, length}
use Rattle.std.specs.Io.KnownBytes.{Appends}
use Rattle.file_batch.specs.Words.{Failing, Holding, IsBatchOf, IsReplyFileOf, IsThere}
use Rattle.issuer_words.specs.Words.{Frame, ReplyBody}
use Rattle.app_jobs.specs.Faults.{IsBatchFault, IsReplyFileFault, IsSomeBatch}
use Rattle.day_totals.specs.Totals.{AreDayTotals, IsDayOf}
use Rattle.day_totals.specs.declared.day_totals.DayTotals.{DayTotals}
use Rattle.day_totals.specs.declared.exchange.Exchange.{Exchange}
use Rattle.day_totals.specs.Lines.{lines_of}
use Rattle.day_totals.specs.Page.{page_of}
use Rattle.app_reports.specs.declared.report_asking.ReportAsked.{ReportAsked}
use Rattle.app_reports.specs.declared.report_asking.ReportAsked.TheVariants.{Day, Page, Help, Wrong}
use Rattle.app_reports.specs.declared.report_fault.ReportFault.{ReportFault}
use Rattle.app_reports.specs.declared.report_fault.ReportFault.TheVariants.{Job, Replies, OneFile}

-- The totals are those of the bodies of the batch of this name, each with its reply in the file of that name. Where it is known what files
-- hold, both were there.
pub record IsReport (known : Type 0) (holds : Holding) (batch replies : List ℕ) (totals : DayTotals) : Type 0 where
  pub frames : List Frame
  pub answers : List ReplyBody
  pub day : List Exchange
  pub batch_there : known → IsThere holds batch
  pub replies_there : known → IsThere holds replies
  pub messages : (bytes : List ℕ) → holds batch bytes → IsBatchOf bytes frames
  pub answered : (bytes : List ℕ) → holds replies bytes → IsReplyFileOf bytes answers
  pub paired : IsDayOf frames answers day
  pub come_to : AreDayTotals day totals

-- there are so many replies, and another number of bodies
pub record HasOtherCount (holds : Holding) (batch replies : List ℕ) (count : ℕ) : Type 0 where
  pub frames : List Frame
  pub answers : List ReplyBody
  pub messages : (bytes : List ℕ) → holds batch bytes → IsBatchOf bytes frames
  pub answered : (bytes : List ℕ) → holds replies bytes → IsReplyFileOf bytes answers
  pub counted : count ≡ length answers
  pub other : count ≢ length frames

-- Why there is no report: the first fault of the batch; or, behind a batch, of the replies; or, behind both, that their numbers differ; or a
-- call on one of the files failed, or memory ran out.
abbrev pub IsReportFault : Holding → Failing → List ℕ → List ℕ → ReportFault → Type 0
IsReportFault holds failing batch replies (Job fault) =
    IsBatchFault holds failing batch fault ⊎ (IsSomeBatch holds batch × IsReplyFileFault holds failing replies fault)
IsReportFault holds failing batch replies (Replies count) = HasOtherCount holds batch replies count
IsReportFault holds failing batch replies (OneFile role) = ⊥

-- the exit status of a fault
abbrev pub status_of_fault : ReportFault → ℕ
status_of_fault (OneFile role) = 2
status_of_fault _ = 1

-- What is asked for is said, behind what was said before: of a day its lines. Where a page is asked for, its file holds the page then, where
-- it is known what files hold.
abbrev pub IsSaid : Type 0 → Holding → Holding → ReportAsked → Option (List ℕ) → Option (List ℕ) → Type 0
IsSaid known old new (Day batch replies) before after =
    (totals : DayTotals) × IsReport known old batch.now replies.now totals × Appends before after (lines_of totals)
IsSaid known old new (Page batch replies page) before after =
    (totals : DayTotals) × IsReport known old batch.now replies.now totals × Appends before after (lines_of totals)
    × (known → new page.now (page_of totals))
IsSaid known old new Help before after = ⊤
IsSaid known old new Wrong before after = ⊥

-- the file of this name may be written: it is the page's
abbrev pub IsPage : ReportAsked → List ℕ → Type 0
IsPage (Page batch replies page) name = name ≡ page.now
IsPage _ name = ⊥
