-- The texts of a transaction are those of its elements, and the transaction is read from them again.
use Rattle.std.proofs.Common.{◌≡◌, ℕ, Bool, true, false, eqb, List, [], ◌∷◌, ◌++◌, Option, Some, None, refl, sym, ap, subst, ◌∙◌}
use Rattle.std.specs.Prelude.{IfSome, IsSome, option_map, not, ◌||◌}
use Rattle.std.specs.List.{list_all}
use Rattle.std.proofs.lemmas.Bool.{and_parts, eqb-true}
use Rattle.iso8583.proofs.NumberLaws.{length-fixed_digits, number_of-fixed_digits, fixed_digits-number_of, is_digits-fixed_digits}
use Rattle.iso8583.specs.declared.retrieval.Retrieval.{Retrieval}
use Rattle.iso8583.specs.declared.transaction.Transaction.{Transaction}
use Rattle.iso_laws.specs.declared.element.Element.{Element}
use Rattle.iso_laws.specs.declared.element.Element.TheVariants as element
use Rattle.iso_laws.specs.declared.mti.Mti.{Mti}
use Rattle.iso_laws.specs.declared.mti.Mti.TheVariants as mti
use Rattle.iso_laws.specs.Elements.{element_number, IsText, Part, required, optional, front_parts, parts_of}
use Rattle.iso_laws.specs.Spelling.{Texts, text_or_none}
use Rattle.iso_laws.specs.Forms.{HasForm}
use Rattle.iso_laws.specs.Reading.{is_listed, is_required}
use Rattle.iso_laws.specs.Transactions.{transaction_texts, IsTransaction, retrieval_from, transaction_from}
use Rattle.iso_laws.proofs.Amounts.{amount_bound}

retrieval_known : (r : Option Retrieval) → IfSome r (λ t. IsText element.Retrieval t.0)
    → IfSome (option_map (λ t. t.0) r) (IsText element.Retrieval)
retrieval_known None h = tt
retrieval_known (Some r) h = h

pub transaction_known : (t : Transaction) → IsTransaction t → (e : Element) → IfSome (transaction_texts t e) (IsText e)
transaction_known t h element.Amount = (length-fixed_digits 12 t.amount, is_digits-fixed_digits 12 t.amount, refl)
transaction_known t h element.Retrieval = retrieval_known t.retrieval h.retrieval
transaction_known t h _ = assumption h

retrieval_again : (r : Option Retrieval) → retrieval_from (option_map (λ t. t.0) r) ≡ r
retrieval_again None = refl
retrieval_again (Some r) = refl

pub transaction_again : (t : Transaction) → IsTransaction t → transaction_from (transaction_texts t) ≡ t
transaction_again t h = rw (number_of-fixed_digits 12 t.amount h.amount, retrieval_again t.retrieval) refl

-- ---- and back

pub some_text : (o : Option (List ℕ)) → IsSome o → Some (text_or_none o) ≡ o
some_text None h = absurd cc
some_text (Some text) h = refl

pub known_text : (P : List ℕ → Type 0) (o : Option (List ℕ)) → IsSome o → IfSome o P → P (text_or_none o)
known_text P None h k = absurd cc
known_text P (Some text) h k = k

retrieval_from_text : (o : Option (List ℕ)) → option_map (λ r. r.0) (retrieval_from o) ≡ o
retrieval_from_text None = refl
retrieval_from_text (Some text) = refl

retrieval_of_text : (o : Option (List ℕ)) → IfSome o (IsText element.Retrieval)
    → IfSome (retrieval_from o) (λ r. IsText element.Retrieval r.0)
retrieval_of_text None h = tt
retrieval_of_text (Some text) h = h

-- the elements that each message and each reply has, and the one that each may have
abbrev common : List Part
common = front_parts ++ (required element.Acquirer ∷ optional element.Retrieval ∷ required element.Terminal ∷ required element.Currency ∷ [])

abbrev is_common : Element → Bool
is_common e = is_required common (element_number e)

abbrev pub is_shared : Element → Bool
is_shared e = is_listed common (element_number e)

pub common_among : (f : ℕ → Bool) (ps : List Part) (n : ℕ) → list_all (λ p. not p.0 || f (element_number p.1)) ps ≡ true
    → is_required ps n ≡ true → f n ≡ true
common_among f [] n h k = absurd cc
common_among f ((true, e, r) ∷ ps) n h k =
    let both = and_parts (f (element_number e)) (list_all (λ p. not p.0 || f (element_number p.1)) ps) h in
    elim (eqb (element_number e) n) as (λ b. eqb (element_number e) n ≡ b → (b || is_required ps n) ≡ true → f n ≡ true) [
      | true ↦ λ same _. (let number : element_number e ≡ n = eqb-true (element_number e) n same in subst (λ (m : ℕ). f m ≡ true) number both.0)
      | false ↦ λ _ l. common_among f ps n both.1 l
    ] refl k
common_among f ((false, e, r) ∷ ps) n h k = common_among f ps n h k

common_required : (t : Mti) → list_all (λ p. not p.0 || is_required (parts_of t) (element_number p.1)) common ≡ true
common_required mti.Request = refl
common_required _ = refl

module _ (t : Mti) (text : Texts) (form : HasForm (parts_of t) text) (texts : (e : Element) → IfSome (text e) (IsText e)) where
  there : (e : Element) → is_common e ≡ true → IsSome (text e)
  there e h = form.required e (common_among (is_required (parts_of t)) common (element_number e) (common_required t) h)

  known : (e : Element) → is_common e ≡ true → IsText e (text_or_none (text e))
  known e h = known_text (IsText e) (text e) (there e h) (texts e)

  pub is_transaction : IsTransaction (transaction_from text)
  is_transaction =
      let amount = known element.Amount refl in
      record {
        pan = known element.Pan refl;
        processing = known element.Processing refl;
        amount = amount_bound (text_or_none (text element.Amount)) amount.0 amount.1;
        transmission = known element.Transmission refl;
        stan = known element.Stan refl;
        stamp = known element.Stamp refl;
        acquirer = known element.Acquirer refl;
        retrieval = retrieval_of_text (text element.Retrieval) (texts element.Retrieval);
        terminal = known element.Terminal refl;
        currency = known element.Currency refl;
      }

  common_text : (e : Element) → is_common e ≡ true → transaction_texts (transaction_from text) e ≡ text e
  common_text element.Amount h =
      let amount = known element.Amount refl in
      ap Some (fixed_digits-number_of 12 (text_or_none (text element.Amount)) amount.0 amount.1) ∙ some_text (text element.Amount) (there element.Amount refl)
  common_text e h = (let found : Some (text_or_none (text e)) ≡ text e = some_text (text e) (there e h) in cc)

  not_shared : (e : Element) → is_shared e ≡ false → transaction_texts (transaction_from text) e ≡ None
  not_shared element.Pan h = cc
  not_shared _ h = cc

  -- the texts of a transaction, where the type has no others
  pub transaction_text_from : (e : Element) → (is_shared e ≡ false → is_listed (parts_of t) (element_number e) ≡ false)
      → transaction_texts (transaction_from text) e ≡ text e
  transaction_text_from element.Retrieval other = retrieval_from_text (text element.Retrieval)
  transaction_text_from e other =
      elim (is_common e) as (λ b. is_common e ≡ b → transaction_texts (transaction_from text) e ≡ text e) [
        | true ↦ λ h. common_text e h
        | false ↦ λ h. (let apart : is_shared e ≡ false = cc in not_shared e apart ∙ sym (form.absent e (other apart)))
      ] refl
