-- Words that stand for what a row holds.
use Rattle.std.specs.Prelude.{ℕ, List, Option, Some, None, if◌then◌else◌, codes}
use Rattle.std.specs.Str.{bytes_eq}
use Rattle.issuer_words.specs.Words.{BudgetMode, CardStatus, OriginalKind}
use Rattle.iso8583.specs.declared.original_kind.OriginalKind.TheVariants.{Request, Advice}
use Rattle.issuer_rows.specs.declared.budget_mode.BudgetMode.TheVariants.{Direct, StandIn}
use Rattle.issuer_rows.specs.declared.card_status.CardStatus.TheVariants.{Active, Blocked, Lost, Stolen}
use Rattle.book_laws.specs.declared.book_version.BookVersion.{BookVersion}
use Rattle.book_laws.specs.declared.book_version.BookVersion.TheVariants.{One, Two, Three}
use Rattle.book_laws.specs.declared.paid.Paid.{Paid}
use Rattle.book_laws.specs.declared.paid.Paid.TheVariants.{Nothing, Card, Account, Budget}

-- the word of a card's status
abbrev pub status_word : CardStatus → List ℕ
status_word Active = codes "active"
status_word Blocked = codes "blocked"
status_word Lost = codes "lost"
status_word Stolen = codes "stolen"

-- the word of a budget's mode
abbrev pub mode_word : BudgetMode → List ℕ
mode_word Direct = codes "direct"
mode_word StandIn = codes "stand-in"

-- the word of an original's kind
abbrev pub kind_word : OriginalKind → List ℕ
kind_word Request = codes "request"
kind_word Advice = codes "advice"

-- the word of what paid
abbrev pub paid_word : Paid → List ℕ
paid_word Nothing = codes "nothing"
paid_word Card = codes "card"
paid_word Account = codes "account"
paid_word Budget = codes "budget"

-- what a word stands for, where it is that value's; else what the other readings give
abbrev pub word_or : {A : Type 0} → List ℕ → List ℕ → A → Option A → Option A
word_or word own value others = if bytes_eq word own then Some value else others

-- the status that a word stands for
abbrev pub status_of : List ℕ → Option CardStatus
status_of word =
    word_or word (codes "active") Active
    (word_or word (codes "blocked") Blocked (word_or word (codes "lost") Lost (word_or word (codes "stolen") Stolen None)))

-- the mode that a word stands for
abbrev pub mode_of : List ℕ → Option BudgetMode
mode_of word = word_or word (codes "direct") Direct (word_or word (codes "stand-in") StandIn None)

-- the kind that a word stands for
abbrev pub kind_of : List ℕ → Option OriginalKind
kind_of word = word_or word (codes "request") Request (word_or word (codes "advice") Advice None)

-- what paid, where a word stands for it in versions 1 and 2
abbrev pub card_paid_of : List ℕ → Option Paid
card_paid_of word =
    word_or word (codes "nothing") Nothing (word_or word (codes "card") Card (word_or word (codes "budget") Budget None))

-- what paid, where a word stands for it in version 3
abbrev pub account_paid_of : List ℕ → Option Paid
account_paid_of word =
    word_or word (codes "nothing") Nothing (word_or word (codes "account") Account (word_or word (codes "budget") Budget None))

-- what paid, where a word stands for it
abbrev pub paid_of : BookVersion → List ℕ → Option Paid
paid_of One word = card_paid_of word
paid_of Two word = card_paid_of word
paid_of Three word = account_paid_of word
