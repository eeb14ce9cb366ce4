-- One token or member more, as text.
use Rattle.std.proofs.Common.{◌≡◌, ℕ, List, [], ◌∷◌, ◌++◌, false, refl, sym, ap, ◌∙◌}
use Rattle.std.proofs.lemmas.List.{append-nil, append_assoc}
use Rattle.json.specs.Print.{escape, token_text, separator, ends, print_from}
use Rattle.json.specs.Token.{Token, key}
use Rattle.book_laws.specs.Text.{Adds, JsonText}
use Rattle.book_laws.proofs.WrittenTokens.{then}

-- nothing is written
pub no_token : (text : JsonText) → Adds text text []
unfolding print_from
no_token text = record { written = sym (append-nil text.text); after = refl }

-- a token, behind a comma where it begins a value or a member behind another
pub one_token : {old new : JsonText} (t : Token) → new ≡ record { text = old.text ++ (separator old.after_value t ++ token_text t); after_value = ends t } → Adds old new (t ∷ [])
unfolding print_from
one_token {old} t is = record {
  written =
      ap (λ (now : JsonText). now.text) is
      ∙ ap (λ (text : List ℕ). old.text ++ (separator old.after_value t ++ text)) (sym (append-nil (token_text t)));
  after = ap (λ (now : JsonText). now.after_value) is;
}

-- a name in quotes with its colon, where it needs no escapes
abbrev quoted_name : List ℕ → List ℕ
quoted_name name = 34 ∷ (name ++ 34 ∷ 58 ∷ [])

named : (name : List ℕ) → escape name ≡ name → quoted_name name ≡ token_text (key name)
named name plain = ap (λ (text : List ℕ). 34 ∷ text) (sym (ap (λ (text : List ℕ). (text ++ 34 ∷ []) ++ 58 ∷ []) plain ∙ append_assoc name (34 ∷ []) (58 ∷ [])))

-- the name of a member
pub one_name : {old new : JsonText} (name : List ℕ) → escape name ≡ name
    → new ≡ record { text = old.text ++ (separator old.after_value (key name) ++ 34 ∷ (name ++ 34 ∷ 58 ∷ [])); after_value = false } → Adds old new (key name ∷ [])
one_name {old} name plain is =
    one_token (key name)
    (is
    ∙ ap (λ (text : List ℕ). record { text = old.text ++ (separator old.after_value (key name) ++ text); after_value = false }) (named name plain))

-- a value behind such a name
pub one_member : {old new : JsonText} (name : List ℕ) (t : Token) → escape name ≡ name
    → new ≡ record { text = old.text ++ (separator old.after_value (key name) ++ ((34 ∷ (name ++ 34 ∷ 58 ∷ [])) ++ token_text t)); after_value = ends t }
    → Adds old new (key name ∷ t ∷ [])
one_member {old} name t plain is =
    let comma = separator old.after_value (key name) in
    let value = token_text t in
    let split : (old.text ++ (comma ++ quoted_name name)) ++ value ≡ old.text ++ (comma ++ (quoted_name name ++ value))
    = append_assoc old.text (comma ++ quoted_name name) value ∙ ap (λ (text : List ℕ). old.text ++ text) (append_assoc comma (quoted_name name) value) in
    then {b = record { text = old.text ++ (comma ++ quoted_name name); after_value = false }} (one_name name plain refl)
    (one_token t (is ∙ ap (λ (text : List ℕ). record { text = text; after_value = ends t }) (sym split)))
