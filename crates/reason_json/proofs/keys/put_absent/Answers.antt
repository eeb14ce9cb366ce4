use Rattle.std.proofs.Common.{◌≡◌, List, [], ◌∷◌, ◌++◌, true, sym, ap, ◌∙◌, append_assoc}
use Rattle.std.specs.Prelude.{codes}
use Rattle.std.proofs.lemmas.Result.{on_ok_weaker}
use Rattle.iso_shown.specs.declared.card_numbers.CardNumbers.{CardNumbers}
use Rattle.issuer_rows.specs.declared.row_key.RowKey.{RowKey}
use Rattle.json.specs.Token.{Token, begin_object, end_object, key, string, boolean}
use Rattle.serde_json.specs.Data.{boolean as data_boolean}
use Rattle.book_laws.specs.Text.{tokens_of}
use Rattle.book_laws.proofs.WrittenTokens.{then}
use Rattle.message_text.specs.Lines.{all_tokens}
use Rattle.message_text.proofs.ElementMembers.{all_append, members_are}
use Rattle.reason_json.specs.Rows.{absent_data, key_members, kind_name}
use Rattle.reason_json.proofs.RowTokens.{written_as}
use Rattle.reason_json.proofs.keys.put_absent.Goals as goal

-- the row's members, those of its key and then its absence
absent_tokens : (cards : CardNumbers) (k : RowKey)
    → (begin_object ∷ key (codes "row") ∷ string (kind_name k) ∷ []) ++ (all_tokens (key_members cards k) ++ ((key (codes "absent") ∷ boolean true ∷ []) ++ end_object ∷ []))
    ≡ tokens_of (absent_data cards k)
absent_tokens cards k =
    let absent = (codes "absent", data_boolean true) ∷ [] in
    ap (λ (ts : List Token). begin_object ∷ key (codes "row") ∷ string (kind_name k) ∷ ts)
    (sym (append_assoc (all_tokens (key_members cards k)) (all_tokens absent) (end_object ∷ []))
    ∙ ap (λ (ts : List Token). ts ++ end_object ∷ []) (sym (all_append (key_members cards k) absent))
    ∙ sym (members_are (key_members cards k ++ absent)))

pub returns : goal.returns
returns c =
    on_ok_weaker _
    (λ ended. written_as (absent_tokens c.args.cards c.args.key.now)
    (then (rw c.kind_name.ensures at c.in_ok-begin_row.ensures) (then c.in_ok-put_key.ensures (then c.in_ok-put_absence.ensures ended))))
    c.end_object.ensures
