-- Tokens written one after another.
use Rattle.json.specs.Print.{ends, print, print_from}
use Rattle.serde_json.specs.Data.{Data}
use Rattle.serde_json.specs.Written.{compact_text}
use Rattle.serde_json.proofs.Texts.{print-outline}
use Rattle.std.proofs.Common.{◌≡◌, ℕ, [], List, ◌++◌, Bool, false, ap, sym, ◌∙◌, append_assoc}
use Rattle.json.proofs.Printed.Tokens.{print_from-append}
use Rattle.json.specs.Token.{Token}
use Rattle.std.proofs.lemmas.List.Sums.{fold-append}
use Rattle.json.specs.Tree.{items_tokens}
use Rattle.issuer_words.specs.Words.{RowKey, RowVal}
use Rattle.serde_json.specs.Written.{items_outline}
use Rattle.book_laws.specs.Text.{Adds, JsonText, ends_after, tokens_of, items_data, rows_of}
use Rattle.book_laws.specs.declared.row_list.RowList.{RowList}

pub then : {a b c : JsonText} {xs ys : List Token} → Adds a b xs → Adds b c ys → Adds a c (xs ++ ys)
then {a = a} {xs = xs} {ys = ys} p q = record {
  written =
      q.written ∙ (λ i. p.written i ++ print_from (p.after i) ys)
      ∙ append_assoc a.text (print_from a.after_value xs) (print_from (ends_after a.after_value xs) ys)
      ∙ ap (λ (text : List ℕ). a.text ++ text) (sym (print_from-append a.after_value xs ys));
  after = q.after ∙ ap (λ (later : Bool). ends_after later ys) p.after ∙ sym (fold-append (λ _ token. ends token) a.after_value xs ys);
}

-- the tokens of rows of a list, with the closing bracket
abbrev pub rest_tokens : RowList → List (RowKey × RowVal) → List Token
rest_tokens list rows = items_tokens (items_outline (items_data (rows_of list rows)))

-- the text of tokens that were written into nothing
pub text_of_written : {before after : JsonText} {ts : List Token} (text : List ℕ) → text ≡ after.text → Adds before after ts → before ≡ record { text = []; after_value = false }
    → text ≡ print ts
text_of_written {ts = ts} text is adds empty = is ∙ adds.written ∙ ap (λ (b : JsonText). b.text ++ print_from b.after_value ts) empty

-- the text of a value whose tokens were written into nothing
pub printed : {before after : JsonText} (text : List ℕ) (d : Data) → text ≡ after.text → Adds before after (tokens_of d) → before ≡ record { text = []; after_value = false }
    → text ≡ compact_text d
printed text d is adds empty = text_of_written text is adds empty ∙ print-outline d
