-- Each reply repeats its message.
use Rattle.std.proofs.Common.{Bool, true, false, if◌then◌else◌, ◌&&◌, List, [], ◌∷◌, Option, Some, None, inl, inr, refl}
use Rattle.std.specs.FinMap as map
use Rattle.issuer_words.specs.Words.{Advice, Frame, Lookup, Message, OriginalKind, OriginalRow, Plan, Request, Reversal, Rows, Verdict, advice_on_original, carried_out, decision, is_marked, is_of_same, on_original, replies_to, reversal_plan, rows_after_one}
use Rattle.issuer_laws.proofs.AdviceWays as advice
use Rattle.issuer_laws.proofs.RequestWays as request
use Rattle.issuer_laws.proofs.ReversalWays.{reversal_ways}
use Rattle.issuer_laws.specs.Echoed.{Echoes, EchoEach}

either : (frame : Frame) (look : Lookup) (b : Bool) (p q : Plan) → Echoes frame (carried_out p look).reply → Echoes frame (carried_out q look).reply → Echoes frame (carried_out (if b then p else q) look).reply
either frame look true p q x y = x
either frame look false p q x y = y

request_echoed : (look : Lookup) (r : Request) (row : Option OriginalRow) → Echoes (Frame.Good (Message.Request r)) (carried_out (on_original r row) look).reply
request_echoed look r None =
    elim (request.fresh_ways r look) [
      | inl d ↦ (Verdict.Declined d.action, d.reply)
      | inr a ↦ (_, a.reply)
    ]
request_echoed look r (Some (OriginalRow.Ahead mark)) =
    either (Frame.Good (Message.Request r)) look (is_marked mark r.transaction OriginalKind.Request) _ _ (Verdict.Declined 914, refl) (Verdict.Declined 913, refl)
request_echoed look r (Some (OriginalRow.Kept k)) =
    either (Frame.Good (Message.Request r)) look (r.repeat && is_of_same k r.transaction OriginalKind.Request) _ _ (_, refl) (Verdict.Declined 913, refl)

advice_echoed : (look : Lookup) (a : Advice) (row : Option OriginalRow) → Echoes (Frame.Good (Message.Advice a)) (carried_out (advice_on_original a row) look).reply
advice_echoed look a None =
    elim (advice.fresh_ways a look) [
      | inl d ↦ (900, d.reply)
      | inr w ↦ (901, w.reply)
    ]
advice_echoed look a (Some (OriginalRow.Ahead mark)) =
    either (Frame.Good (Message.Advice a)) look (is_marked mark a.transaction OriginalKind.Advice) _ _ (900, refl) (913, refl)
advice_echoed look a (Some (OriginalRow.Kept k)) =
    either (Frame.Good (Message.Advice a)) look (a.repeat && is_of_same k a.transaction OriginalKind.Advice) _ _ (_, refl) (913, refl)

reversal_echoed : (look : Lookup) (v : Reversal) → Echoes (Frame.Good (Message.Reversal v)) (carried_out (reversal_plan v) look).reply
reversal_echoed look v =
    elim (reversal_ways v look) [
      | inl w ↦ (w.action, w.reply)
      | inr w1 ↦ elim w1 [
        | inl w ↦ (914, w.reply)
        | inr w2 ↦ elim w2 [
          | inl w ↦ (400, w.reply)
          | inr w3 ↦ elim w3 [
            | inl w ↦ (400, w.reply)
            | inr w ↦ (400, w.reply)
          ]
        ]
      ]
    ]

echoed : (look : Lookup) (frame : Frame) → Echoes frame (decision look frame).reply
unfolding decision
echoed look (Frame.Good (Message.Request r)) = request_echoed look r _
echoed look (Frame.Good (Message.Advice a)) = advice_echoed look a _
echoed look (Frame.Good (Message.Reversal v)) = reversal_echoed look v
echoed look (Frame.Bad fault) = refl

-- each reply of a batch is that of the message at its place
pub each_echoed : (rows : Rows) (frames : List Frame) → EchoEach frames (replies_to rows frames)
each_echoed rows [] = tt
each_echoed rows (frame ∷ frames) = (echoed (map.get rows) frame, each_echoed (rows_after_one rows frame) frames)
