-- Money that is neither made nor lost.
use Rattle.std.specs.Prelude.{◌≡◌}
use Rattle.issuer_words.specs.Words.{AccountId, PanPrefix, Rows, backing_of_account, backing_of_prefix}

-- every account's backing is as before
abbrev pub KeepsAccounts : Rows → Rows → Type 0
KeepsAccounts before after = (id : AccountId) → backing_of_account after id ≡ backing_of_account before id

-- every prefix's backing is as before
abbrev pub KeepsPrefixes : Rows → Rows → Type 0
KeepsPrefixes before after = (prefix : PanPrefix) → backing_of_prefix after prefix ≡ backing_of_prefix before prefix
