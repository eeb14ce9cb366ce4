-- What becomes of an advice whose identity wasn't seen: it is acknowledged without liability, or accepted and paid.
use Rattle.std.proofs.Common.{◌≡◌, Bool, true, false, if◌then◌else◌, ◌==◌, [], ◌∷◌, Option, Some, None, ◌⊎◌, inl, inr, refl, sym, subst}
use Rattle.issuer_words.specs.Words.{AccountId, AccountRow, Advice, CardRow, Decided, Funds, Lookup, Plan, ReplyBody, Writes, accepted_writes, account_in, account_of, acknowledged, advice_funds, advice_on_account, advice_on_card, advice_on_funds, advice_on_named, budget_in, card_in, carried_out, fresh_advice, identity_of, is_same_currency, kept_of_advice, reply_to_advice}
use Rattle.issuer_rows.specs.declared.original_outcome.OriginalOutcome.TheVariants as outcome
use Rattle.issuer_rows.specs.declared.row_key.RowKey.TheVariants as key
use Rattle.issuer_laws.proofs.Funding.{CanPay, IsCover, advice_cover, account_own}
use Rattle.issuer_laws.specs.Parts.{IsIn, account_keys}

-- 900, which is kept
pub record Acknowledges (a : Advice) (reply_is : ReplyBody) (writes_are : Writes) : Type 0 where
  pub reply : reply_is ≡ reply_to_advice a 900
  pub writes : writes_are ≡ (key.Original (identity_of a.transaction), kept_of_advice a (outcome.Acknowledged 900 None)) ∷ []

-- 901: the original is kept, and what pays has as much less
pub record Accepts (a : Advice) (look : Lookup) (reply_is : ReplyBody) (writes_are : Writes) : Type 0 where
  pub paying : Funds
  pub pays : CanPay look a.transaction paying
  pub reply : reply_is ≡ reply_to_advice a 901
  pub writes : writes_are ≡ accepted_writes a paying

-- the one or the other
abbrev pub IsTakenFresh : Advice → Lookup → Decided → Type 0
IsTakenFresh a look d = Acknowledges a d.reply d.writes ⊎ Accepts a look d.reply d.writes

acknowledging : (a : Advice) (look : Lookup) → IsTakenFresh a look (carried_out (acknowledged a) look)
acknowledging a look = inl (record { reply = refl; writes = refl })

either_way : (a : Advice) (look : Lookup) (b : Bool) (p q : Plan) → IsTakenFresh a look (carried_out p look) → IsTakenFresh a look (carried_out q look) → IsTakenFresh a look (carried_out (if b then p else q) look)
either_way a look true p q h k = h
either_way a look false p q h k = k

ways_on_funds : (a : Advice) (look : Lookup) (found : Option Funds) → IsCover look a.transaction found → IsTakenFresh a look (carried_out (advice_on_funds a found) look)
ways_on_funds a look None h = acknowledging a look
ways_on_funds a look (Some paying) pays = inr (record { paying = paying; pays = pays; reply = refl; writes = refl })

ways_on_account : (a : Advice) (look : Lookup) (id : AccountId) (account : Option AccountRow) → IsIn (key.Account id) (account_keys (card_in (look (key.Card a.transaction.pan)))) → account_in (look (key.Account id)) ≡ account → IsTakenFresh a look (carried_out (advice_on_account a id account) look)
ways_on_account a look id None own e = acknowledging a look
ways_on_account a look id (Some account) own e =
    either_way a look (is_same_currency a.transaction.currency account.currency) _ (acknowledged a)
    (ways_on_funds a look (advice_funds a.transaction id account (budget_in (look _))) (advice_cover look a.transaction id account _ own e refl))
    (acknowledging a look)

ways_on_named : (a : Advice) (look : Lookup) (card : CardRow) (named : Option AccountId) → card_in (look (key.Card a.transaction.pan)) ≡ Some card → account_of card.accounts a.account ≡ named → IsTakenFresh a look (carried_out (advice_on_named a named) look)
ways_on_named a look card None stands e = acknowledging a look
ways_on_named a look card (Some id) stands e =
    ways_on_account a look id (account_in (look (key.Account id))) (subst (λ (c : Option CardRow). IsIn (key.Account id) (account_keys c)) (sym stands) (account_own card a.account id e)) refl

ways_on_card : (a : Advice) (look : Lookup) (card : Option CardRow) → card_in (look (key.Card a.transaction.pan)) ≡ card → IsTakenFresh a look (carried_out (advice_on_card a card) look)
ways_on_card a look None e = acknowledging a look
ways_on_card a look (Some card) e = ways_on_named a look card (account_of card.accounts a.account) e refl

-- what becomes of such an advice
pub fresh_ways : (a : Advice) (look : Lookup) → IsTakenFresh a look (carried_out (fresh_advice a) look)
fresh_ways a look = either_way a look (a.action == 0) _ (acknowledged a) (ways_on_card a look (card_in (look _)) refl) (acknowledging a look)
