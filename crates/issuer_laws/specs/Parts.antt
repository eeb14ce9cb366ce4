-- Messages that share no row, and parts of a batch that are decided apart.
use Rattle.std.specs.Prelude.{◌≡◌, ◌≢◌, ◌⊎◌, ℕ, ◌==◌, List, [], ◌∷◌, ◌++◌, map, zip, Option, Some, None, if◌then◌else◌}
use Rattle.std.specs.FinMap as map
use Rattle.std.specs.List.{AllByRecursion}
use Rattle.issuer_words.specs.Words.{AccountId, CardRow, Frame, Identity, Message, OriginalRow, Pan, PanPrefix, Payer, Payment, RowKey, RowVal, Rows, Transaction, card_in, day_of, decision, identity_of, original_in, payment_of_outcome, prefix_of, replies_to, rows_after, writes_of}

-- it stands in the list
abbrev pub IsIn : {A : Type 0} → A → List A → Type 0
IsIn x [] = ⊥
IsIn x (y ∷ ys) = (x ≡ y) ⊎ IsIn x ys

-- ---- the rows that a message may need

-- the keys of a second account, if there is one
abbrev pub second_key : Option AccountId → List RowKey
second_key None = []
second_key (Some second) = RowKey.Account second ∷ []

-- the keys of a card's accounts
abbrev pub account_keys : Option CardRow → List RowKey
account_keys None = []
account_keys (Some card) = RowKey.Account card.accounts.first ∷ second_key card.accounts.second

-- those of the card of this number
abbrev pub accounts_at : Rows → Pan → List RowKey
accounts_at rows pan = account_keys (card_in (map.get rows (RowKey.Card pan)))

-- a key whose row is there
abbrev pub if_there : RowKey → Option RowVal → List RowKey
if_there k None = []
if_there k (Some v) = k ∷ []

-- the budget of a card's prefix, where it has one
abbrev pub budget_at : Rows → Pan → List RowKey
budget_at rows pan = if_there (RowKey.Budget (prefix_of pan)) (map.get rows (RowKey.Budget (prefix_of pan)))

-- the account that paid, if an account did
abbrev pub payer_keys : Payer → List RowKey
payer_keys (Payer.Account id) = RowKey.Account id ∷ []
payer_keys Payer.Budget = []

abbrev pub payment_keys : Option Payment → List RowKey
payment_keys None = []
payment_keys (Some payment) = payer_keys payment.payer

-- the account that paid for an original
abbrev pub paying_keys : Option OriginalRow → List RowKey
paying_keys None = []
paying_keys (Some (OriginalRow.Ahead mark)) = []
paying_keys (Some (OriginalRow.Kept k)) = payment_keys (payment_of_outcome k.outcome)

-- the account that paid for the original of this identity
abbrev pub payer_at : Rows → Identity → List RowKey
payer_at rows identity = paying_keys (original_in (map.get rows (RowKey.Original identity)))

-- what a card's message may be paid from: its accounts, and the budget of its prefix
abbrev pub funds_at : Rows → Pan → List RowKey
funds_at rows pan = accounts_at rows pan ++ budget_at rows pan

-- a new message of a card: its identity, its card, and what it may be paid from
abbrev pub may_need_first : Rows → Transaction → List RowKey
may_need_first rows t = RowKey.Original (identity_of t) ∷ RowKey.Card t.pan ∷ funds_at rows t.pan

-- the rows that a message may need, from the opening book alone, whatever is decided before it in the batch. A request needs its day too;
-- a reversal its original, what paid for it, or may have, and its day
abbrev pub may_need : Rows → Frame → List RowKey
may_need rows (Frame.Good (Message.Request r)) =
    RowKey.Velocity r.transaction.pan (day_of r.transaction.stamp) ∷ may_need_first rows r.transaction
may_need rows (Frame.Good (Message.Advice a)) = may_need_first rows a.transaction
may_need rows (Frame.Good (Message.Reversal v)) =
    RowKey.Original v.original.identity ∷ RowKey.Velocity v.transaction.pan (day_of v.original.identity.stamp)
    ∷ payer_at rows v.original.identity ++ funds_at rows v.transaction.pan
may_need rows (Frame.Bad fault) = []

-- ---- one message

-- the budget of a prefix that has none in the opening book, and never gets one
abbrev pub IsNoBudget : Rows → RowKey → Type 0
IsNoBudget opening k = (prefix : PanPrefix) × (k ≡ RowKey.Budget prefix) × (map.get opening k ≡ None)

-- a row that the message may need, or no budget
abbrev pub MayLook : Rows → Frame → RowKey → Type 0
MayLook opening frame k = IsIn k (may_need opening frame) ⊎ IsNoBudget opening k

-- behind these bodies a message looks at no row but those that it may need by the opening book, and writes none but these
pub record NeedsNoOther (opening : Rows) (before : List Frame) (frame : Frame) : Type 0 where
  pub looks : AllByRecursion (MayLook opening frame) (decision (map.get (rows_after opening before)) frame).needs
  pub writes : AllByRecursion (λ w. IsIn w.0 (may_need opening frame)) (writes_of (rows_after opening before) frame)

-- ---- parts

-- bodies, each with the number of its part
abbrev pub Parted : Type 0
Parted = List (ℕ × Frame)

-- the bodies, in the order of their arrival
abbrev pub bodies : Parted → List Frame
bodies ms = map (λ m. m.1) ms

-- what belongs to a part, in its order
abbrev pub of_part : {A : Type 0} → ℕ → List (ℕ × A) → List A
of_part p [] = []
of_part p (m ∷ ms) = if m.0 == p then m.1 ∷ of_part p ms else of_part p ms

-- each with the number of its part
abbrev pub with_parts : {A : Type 0} → Parted → List A → List (ℕ × A)
with_parts ms xs = zip (map (λ m. m.0) ms) xs

-- a row that a message of the part may need
abbrev pub IsOfPart : Rows → Parted → ℕ → RowKey → Type 0
IsOfPart rows ms p k = (m : ℕ × Frame) × IsIn m ms × (m.0 ≡ p) × IsIn k (may_need rows m.1)

-- no row is one of two parts
abbrev pub AreApart : Rows → Parted → Type 0
AreApart rows ms = (p q : ℕ) (k : RowKey) → p ≢ q → IsOfPart rows ms p k → IsOfPart rows ms q k → ⊥

-- a part's book: the rows of the book that the part may need, and of the others as many as one likes
pub record HasPart (rows : Rows) (ms : Parted) (p : ℕ) (book : Rows) : Type 0 where
  pub needed : (k : RowKey) → IsOfPart rows ms p k → map.get book k ≡ map.get rows k
  pub others : (k : RowKey) → (map.get book k ≡ map.get rows k) ⊎ (map.get book k ≡ None)

-- a part that is decided alone: its replies are those of the whole batch at its places, and its rows are those behind the whole batch
pub record IsDecidedAlone (rows : Rows) (ms : Parted) (p : ℕ) (book : Rows) : Type 0 where
  pub replies : replies_to book (of_part p ms) ≡ of_part p (with_parts ms (replies_to rows (bodies ms)))
  pub needed : (k : RowKey) → IsOfPart rows ms p k → map.get (rows_after book (of_part p ms)) k ≡ map.get (rows_after rows (bodies ms)) k

-- a row of no part stays as it was
abbrev pub LeavesOthers : Rows → Parted → Type 0
LeavesOthers rows ms =
    (k : RowKey) → ((p : ℕ) → IsOfPart rows ms p k → ⊥) → map.get (rows_after rows (bodies ms)) k ≡ map.get rows k
