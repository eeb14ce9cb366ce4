-- A stage of a decision, from where it stands to the end: what it returns, and what it does to the recorder.
use Rattle.std.specs.Prelude.{◌≡◌, ◌⊎◌, Option, Result, IfOk, IfErr, IfSome}
use Rattle.issuer_words.specs.Words.{Advice, Frame, ReplyBody, Request, Reversal, RowKey, RowVal, Rows, Verdict, reply_to_request}
use Rattle.iso8583.specs.declared.message.Message.TheVariants as message
use Rattle.issuer_rows.specs.declared.frame.Frame.TheVariants.{Good}
use Rattle.issuer_rules.specs.Following.{Concludes}
use Rattle.issuer_rules.specs.Needs.{ReadsNeeds}
use Rattle.issuer_view.specs.Recording.{Recording, IsStopOf}
use Rattle.issuer_view.specs.declared.stop.Stop.{Stop}
use Rattle.issuer_view.specs.declared.stop.Stop.TheVariants.{OutOfMemory}

-- over a source of rows: what it answers, and the book behind it where that is known
module _ {S : Type 0} (answers : S → RowKey → Result (Option RowVal) Stop → S → Type 0) (book_of : S → Option Rows) where
  -- the body is decided by its table, or the decision stops
  pub record DecidesByTable {T : Type 0} (frame : Frame) (reply : T → ReplyBody) (old new : Recording S) (result : Result T Stop) : Type 0 where
    -- what is returned is the table's reply, and the rows that are written are the table's
    pub done : IfOk result (λ value. Concludes frame new.reads new.writes (reply value))
    -- the rows that were read are the first of those that the table needs
    pub so_far : ReadsNeeds frame new.reads
    -- it stops where the source does or memory runs out
    pub stop : IfErr result (λ stop. (stop ≡ OutOfMemory) ⊎ IsStopOf answers new.source stop)
    -- on a known book, it stops only where memory runs out
    pub stops : IfSome (book_of old.source) (λ _. IfErr result (λ stop. stop ≡ OutOfMemory))
    -- the book stays
    pub book : book_of new.source ≡ book_of old.source

  -- the same of each kind of message; of a request a stage returns the verdict, and of the others the reply
  abbrev pub DecidesRequest : Request → Recording S → Recording S → Result Verdict Stop → Type 0
  DecidesRequest request = DecidesByTable (Good (message.Request request)) (reply_to_request request)

  abbrev pub DecidesAdvice : Advice → Recording S → Recording S → Result ReplyBody Stop → Type 0
  DecidesAdvice advice = DecidesByTable (Good (message.Advice advice)) (λ reply. reply)

  abbrev pub DecidesReversal : Reversal → Recording S → Recording S → Result ReplyBody Stop → Type 0
  DecidesReversal reversal = DecidesByTable (Good (message.Reversal reversal)) (λ reply. reply)
