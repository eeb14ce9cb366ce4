-- The reply at a place of a batch, and what explains it.
use Rattle.std.proofs.Common.{◌≡◌, ℕ, List, [], take, Some, sym, ap, ◌∙◌, subst}
use Rattle.std.specs.List.{slice_get}
use Rattle.issuer_words.specs.Words.{Frame, Rows, rows_after}
use Rattle.issuer_reasons.specs.Explained.{Explains, ExplainsAt}
use Rattle.issuer_reasons.specs.declared.explanation.Explanation.{Explanation}
use Rattle.issuer_laws.proofs.RepliesAt.{reply_at}

-- what explains the body at a place on the rows after those before it
pub explained_at : (rows before : Rows) (frames : List Frame) (place : ℕ) (frame : Frame) (e : Explanation) → slice_get frames place ≡ Some frame
    → before ≡ rows_after rows (take place frames) → Explains before frame e → ExplainsAt rows frames place e
explained_at rows before frames place frame e at same h =
    let there : Explains (rows_after rows (take place frames)) frame e = subst (λ (r : Rows). Explains r frame e) same h in
    record {
      body = at ∙ ap (λ (f : Frame). Some f) (sym h.body);
      explains = subst (λ (f : Frame). Explains (rows_after rows (take place frames)) f e) (sym h.body) there;
      reply = reply_at rows frames place frame at ∙ ap (λ r. Some r) (sym there.reply);
    }
