-- For private clauses: rows, token by token.
use Rattle.std.specs.Prelude.{List, Option}
use Rattle.iso_shown.specs.declared.card_numbers.CardNumbers.{CardNumbers}
use Rattle.issuer_words.specs.Words.{RowKey, RowVal}
use Rattle.json.specs.Token.{Token}
use Rattle.book_laws.specs.Text.{tokens_of}
use Rattle.reason_json.specs.Lines.{read_data, written_data}

abbrev pub read_tokens : CardNumbers → RowKey × Option RowVal → List Token
read_tokens cards read = tokens_of (read_data cards read)

abbrev pub written_tokens : CardNumbers → RowKey × RowVal → List Token
written_tokens cards write = tokens_of (written_data cards write)
