-- The text of a plain value is UTF-8, and is read as the value's tokens.
use Rattle.std.proofs.Common.{◌≡◌, ℕ, List, [], ◌∷◌, Bool, true, false, refl, sym, ap, ◌∙◌, decimal}
use Rattle.std.proofs.lemmas.Fmt.{IsAscii-decimal}
use Rattle.std.proofs.lemmas.Str.{IsUtf8-append, IsUtf8-from_ascii}
use Rattle.std.specs.Str.{IsUtf8}
use Rattle.json.proofs.Printed.Decimals.{IsNumber-decimal}
use Rattle.json.proofs.Printed.Tokens.{tokens-print}
use Rattle.json.proofs.Printed.Trees.{ArePrintable-json_tokens}
use Rattle.json.proofs.Printed.Utf8.{IsUtf8-are_ascii, IsUtf8-quoted, IsUtf8-boolean}
use Rattle.json.specs.Lex.{tokens}
use Rattle.json.specs.Print.{quoted}
use Rattle.json.specs.Tree.{HasNumbers, ItemsHaveNumbers, MembersHaveNumbers}
use Rattle.serde_json.proofs.Texts.{print-outline}
use Rattle.serde_json.specs.Data.{Data, null, boolean, number, unsigned, negative, float, string, array, object, Items, no_items, item, Members, no_members, member}
use Rattle.serde_json.specs.Written.{outline, items_outline, members_outline, comma_if, compact_text, items_text, members_text}
use Rattle.book_laws.specs.Text.{IsPlain, AreItemsPlain, AreMembersPlain, tokens_of}

-- ---- its tokens

mutual
  numbers : (d : Data) → IsPlain d → HasNumbers (outline d)
  numbers null h = tt
  numbers (boolean b) h = tt
  numbers (number (unsigned n)) h = IsNumber-decimal n h
  numbers (number (negative z)) h = absurd h
  numbers (number (float x)) h = absurd h
  numbers (string s) h = tt
  numbers (array ds) h = items_numbers ds h
  numbers (object ms) h = members_numbers ms h

  items_numbers : (ds : Items) → AreItemsPlain ds → ItemsHaveNumbers (items_outline ds)
  items_numbers no_items h = tt
  items_numbers (item d ds) h = (numbers d h.0, items_numbers ds h.1)

  members_numbers : (ms : Members) → AreMembersPlain ms → MembersHaveNumbers (members_outline ms)
  members_numbers no_members h = tt
  members_numbers (member k d ms) h = (numbers d h.1, members_numbers ms h.2)

pub plain_tokens : (d : Data) → IsPlain d → tokens (compact_text d) ≡ tokens_of d
plain_tokens d h = ap tokens (sym (print-outline d)) ∙ tokens-print (tokens_of d) (ArePrintable-json_tokens (outline d) (numbers d h))

-- ---- its bytes

comma_utf8 : (later : Bool) → IsUtf8 (comma_if later)
comma_utf8 true = IsUtf8-are_ascii _ refl
comma_utf8 false = IsUtf8-are_ascii _ refl

-- one character before a text
before : (c : ℕ) (text : List ℕ) → IsUtf8 (c ∷ []) → IsUtf8 text → IsUtf8 (c ∷ text)
before c text first rest = IsUtf8-append (c ∷ []) text first rest

mutual
  pub plain_utf8 : (d : Data) → IsPlain d → IsUtf8 (compact_text d)
  plain_utf8 null h = IsUtf8-are_ascii _ refl
  plain_utf8 (boolean b) h = IsUtf8-boolean b
  plain_utf8 (number (unsigned n)) h = IsUtf8-from_ascii (decimal n) (IsAscii-decimal n h)
  plain_utf8 (number (negative z)) h = absurd h
  plain_utf8 (number (float x)) h = absurd h
  plain_utf8 (string s) h = IsUtf8-quoted s h
  plain_utf8 (array ds) h = before 91 _ (IsUtf8-are_ascii _ refl) (items_utf8 false ds h)
  plain_utf8 (object ms) h = before 123 _ (IsUtf8-are_ascii _ refl) (members_utf8 false ms h)

  items_utf8 : (later : Bool) (ds : Items) → AreItemsPlain ds → IsUtf8 (items_text later ds)
  items_utf8 later no_items h = IsUtf8-are_ascii _ refl
  items_utf8 later (item d ds) h = IsUtf8-append (comma_if later) _ (comma_utf8 later) (IsUtf8-append (compact_text d) _ (plain_utf8 d h.0) (items_utf8 true ds h.1))

  members_utf8 : (later : Bool) (ms : Members) → AreMembersPlain ms → IsUtf8 (members_text later ms)
  members_utf8 later no_members h = IsUtf8-are_ascii _ refl
  members_utf8 later (member k d ms) h =
      IsUtf8-append (comma_if later) _ (comma_utf8 later)
      (IsUtf8-append (quoted k) _ (IsUtf8-quoted k h.0) (before 58 _ (IsUtf8-are_ascii _ refl) (IsUtf8-append (compact_text d) _ (plain_utf8 d h.1) (members_utf8 true ms h.2))))
