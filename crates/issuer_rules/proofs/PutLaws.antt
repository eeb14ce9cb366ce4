-- Rows that are written one after another.
use Rattle.std.proofs.Common.{◌≡◌, ℕ, List, [], ◌∷◌, None, refl, ap, ◌∙◌}
use Rattle.issuer_words.specs.Words.{Funds, Identity, Pan, RowKey, RowVal, Writes, key_of_funds}
use Rattle.issuer_rows.specs.declared.funds.Funds.TheVariants as funds
use Rattle.issuer_rows.specs.declared.row_key.RowKey.TheVariants as key
use Rattle.issuer_view.specs.Recording.{Recording}
use Rattle.issuer_view.specs.RowSets.{value_in, put}

-- a recorder without the rows that are written
abbrev pub without_puts : {S : Type 0} → Recording S → Recording S
without_puts rows = record rows { writes = [] }

-- one more row is written
pub next_put : (writes now : Writes) (k : RowKey) (value : RowVal) (before after : Writes) → now ≡ put writes k value → writes ≡ before → put before k value ≡ after → now ≡ after
next_put writes now k value before after is was computed = is ∙ ap (λ (ws : Writes). put ws k value) was ∙ computed

-- what pays is written behind an original, a card and a day
pub funds_put_last : (f : Funds) (identity : Identity) (pan other : Pan) (day : List ℕ) (a b c d : RowVal)
    → put ((key.Original identity, a) ∷ (key.Card pan, b) ∷ (key.Velocity other day, c) ∷ []) (key_of_funds f) d
    ≡ (key.Original identity, a) ∷ (key.Card pan, b) ∷ (key.Velocity other day, c) ∷ (key_of_funds f, d) ∷ []
funds_put_last (funds.Account id row) identity pan other day a b c d = refl
funds_put_last (funds.Budget prefix row) identity pan other day a b c d = refl

-- behind an original and a day
pub funds_put_third : (f : Funds) (identity : Identity) (pan : Pan) (day : List ℕ) (a b d : RowVal)
    → put ((key.Original identity, a) ∷ (key.Velocity pan day, b) ∷ []) (key_of_funds f) d
    ≡ (key.Original identity, a) ∷ (key.Velocity pan day, b) ∷ (key_of_funds f, d) ∷ []
funds_put_third (funds.Account id row) identity pan day a b d = refl
funds_put_third (funds.Budget prefix row) identity pan day a b d = refl

-- behind an original
pub funds_put_second : (f : Funds) (identity : Identity) (a d : RowVal)
    → put ((key.Original identity, a) ∷ []) (key_of_funds f) d ≡ (key.Original identity, a) ∷ (key_of_funds f, d) ∷ []
funds_put_second (funds.Account id row) identity a d = refl
funds_put_second (funds.Budget prefix row) identity a d = refl

-- where a request's own row alone is written, no card is; where its card is too, no day; and behind these nothing that pays
module _ {S : Type 0} (old one two : Recording S) (own : RowKey) (identity : Identity) (a b : RowVal) where
  pub card_unput : (pan : Pan) → old.writes ≡ [] → own ≡ key.Original identity → one ≡ record old { writes = put old.writes own a } → value_in one.writes (key.Card pan) ≡ None
  card_unput pan none named p = ap (λ (ws : Writes). value_in ws (key.Card pan)) (ap (λ (x : Recording S). x.writes) p ∙ (λ i. put (none i) (named i) a))

  pub day_unput : (pan other : Pan) (day : List ℕ) → old.writes ≡ [] → own ≡ key.Original identity → one ≡ record old { writes = put old.writes own a }
      → two ≡ record one { writes = put one.writes (key.Card pan) b } → value_in two.writes (key.Velocity other day) ≡ None
  day_unput pan other day none named p q =
      ap (λ (ws : Writes). value_in ws (key.Velocity other day))
      (ap (λ (x : Recording S). x.writes) q ∙ ap (λ (ws : Writes). put ws (key.Card pan) b) (ap (λ (x : Recording S). x.writes) p ∙ (λ i. put (none i) (named i) a)))

  pub paying_unput : (three : Recording S) (pan other : Pan) (day : List ℕ) (c : RowVal) (f : Funds) → old.writes ≡ [] → own ≡ key.Original identity → one ≡ record old { writes = put old.writes own a }
      → two ≡ record one { writes = put one.writes (key.Card pan) b } → three ≡ record two { writes = put two.writes (key.Velocity other day) c } → value_in three.writes (key_of_funds f) ≡ None
  paying_unput three pan other day c f none named p q r =
      ap (λ (ws : Writes). value_in ws (key_of_funds f))
      (ap (λ (x : Recording S). x.writes) r ∙ ap (λ (ws : Writes). put ws (key.Velocity other day) c)
      (ap (λ (x : Recording S). x.writes) q ∙ ap (λ (ws : Writes). put ws (key.Card pan) b) (ap (λ (x : Recording S). x.writes) p ∙ (λ i. put (none i) (named i) a))))
      ∙ apart f
    where
      apart : (f : Funds) → value_in ((key.Original identity, a) ∷ (key.Card pan, b) ∷ (key.Velocity other day, c) ∷ []) (key_of_funds f) ≡ None
      apart (funds.Account id row) = refl
      apart (funds.Budget prefix row) = refl

-- where an original alone is written, or it and a day, nothing is that pays
module _ {S : Type 0} (old one two : Recording S) (identity : Identity) (a b : RowVal) (f : Funds) where
  pub payer_unput : old.writes ≡ [] → one ≡ record old { writes = put old.writes (key.Original identity) a } → value_in one.writes (key_of_funds f) ≡ None
  payer_unput none p =
      ap (λ (ws : Writes). value_in ws (key_of_funds f)) (ap (λ (x : Recording S). x.writes) p ∙ ap (λ (ws : Writes). put ws (key.Original identity) a) none) ∙ apart f
    where
      apart : (f : Funds) → value_in ((key.Original identity, a) ∷ []) (key_of_funds f) ≡ None
      apart (funds.Account id row) = refl
      apart (funds.Budget prefix row) = refl

  pub repaid_unput : (pan : Pan) (day : List ℕ) → old.writes ≡ [] → one ≡ record old { writes = put old.writes (key.Original identity) a }
      → two ≡ record one { writes = put one.writes (key.Velocity pan day) b } → value_in two.writes (key_of_funds f) ≡ None
  repaid_unput pan day none p q =
      ap (λ (ws : Writes). value_in ws (key_of_funds f))
      (ap (λ (x : Recording S). x.writes) q ∙ ap (λ (ws : Writes). put ws (key.Velocity pan day) b)
      (ap (λ (x : Recording S). x.writes) p ∙ ap (λ (ws : Writes). put ws (key.Original identity) a) none))
      ∙ apart f
    where
      apart : (f : Funds) → value_in ((key.Original identity, a) ∷ (key.Velocity pan day, b) ∷ []) (key_of_funds f) ≡ None
      apart (funds.Account id row) = refl
      apart (funds.Budget prefix row) = refl

-- four rows of an approval, written one after another over none
module _ {S : Type 0} (old one two three four : Recording S) (identity : Identity) (pan other : Pan) (day : List ℕ) (a b c : RowVal) (f : Funds) (last : RowKey) (d : RowVal) where
  pub four_puts : old.writes ≡ [] → one ≡ record old { writes = put old.writes (key.Original identity) a } → two ≡ record one { writes = put one.writes (key.Card pan) b }
      → three ≡ record two { writes = put two.writes (key.Velocity other day) c } → four ≡ record three { writes = put three.writes last d } → last ≡ key_of_funds f
      → (without_puts four ≡ without_puts old) × (four.writes ≡ (key.Original identity, a) ∷ (key.Card pan, b) ∷ (key.Velocity other day, c) ∷ (key_of_funds f, d) ∷ [])
  four_puts none p q r s k =
      let w1 = next_put old.writes one.writes (key.Original identity) a [] ((key.Original identity, a) ∷ []) (ap (λ (x : Recording S). x.writes) p) none refl in
      let w2 = next_put one.writes two.writes (key.Card pan) b _ ((key.Original identity, a) ∷ (key.Card pan, b) ∷ []) (ap (λ (x : Recording S). x.writes) q) w1 refl in
      let w3 = next_put two.writes three.writes (key.Velocity other day) c _ ((key.Original identity, a) ∷ (key.Card pan, b) ∷ (key.Velocity other day, c) ∷ []) (ap (λ (x : Recording S). x.writes) r) w2 refl in
      let w4 = ap (λ (x : Recording S). x.writes) s ∙ (λ i. put (w3 i) (k i) d) ∙ funds_put_last f identity pan other day a b c d in
      (ap without_puts s ∙ ap without_puts r ∙ ap without_puts q ∙ ap without_puts p, w4)

-- two rows of an advice that is accepted, written one after another over none
module _ {S : Type 0} (old one two : Recording S) (identity : Identity) (a : RowVal) (f : Funds) (last : RowKey) (d : RowVal) where
  pub two_puts : old.writes ≡ [] → one ≡ record old { writes = put old.writes (key.Original identity) a } → two ≡ record one { writes = put one.writes last d } → last ≡ key_of_funds f
      → (without_puts two ≡ without_puts old) × (two.writes ≡ (key.Original identity, a) ∷ (key_of_funds f, d) ∷ [])
  two_puts none p q k =
      let w1 = next_put old.writes one.writes (key.Original identity) a [] ((key.Original identity, a) ∷ []) (ap (λ (x : Recording S). x.writes) p) none refl in
      let w2 = ap (λ (x : Recording S). x.writes) q ∙ (λ i. put (w1 i) (k i) d) ∙ funds_put_second f identity a d in
      (ap without_puts q ∙ ap without_puts p, w2)

-- three rows of a reversal of a request
module _ {S : Type 0} (old one two three : Recording S) (identity : Identity) (pan : Pan) (day : List ℕ) (a b : RowVal) (f : Funds) (last : RowKey) (d : RowVal) where
  pub three_puts : old.writes ≡ [] → one ≡ record old { writes = put old.writes (key.Original identity) a } → two ≡ record one { writes = put one.writes (key.Velocity pan day) b }
      → three ≡ record two { writes = put two.writes last d } → last ≡ key_of_funds f
      → (without_puts three ≡ without_puts old) × (three.writes ≡ (key.Original identity, a) ∷ (key.Velocity pan day, b) ∷ (key_of_funds f, d) ∷ [])
  three_puts none p q r k =
      let w1 = next_put old.writes one.writes (key.Original identity) a [] ((key.Original identity, a) ∷ []) (ap (λ (x : Recording S). x.writes) p) none refl in
      let w2 = next_put one.writes two.writes (key.Velocity pan day) b _ ((key.Original identity, a) ∷ (key.Velocity pan day, b) ∷ []) (ap (λ (x : Recording S). x.writes) q) w1 refl in
      let w3 = ap (λ (x : Recording S). x.writes) r ∙ (λ i. put (w2 i) (k i) d) ∙ funds_put_third f identity pan day a b d in
      (ap without_puts r ∙ ap without_puts q ∙ ap without_puts p, w3)
