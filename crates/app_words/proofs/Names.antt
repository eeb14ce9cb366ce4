-- How names are counted, and streams named, word by word.
use Rattle.std.proofs.Common.{◌≡◌, ◌+◌, ◌++◌, ℕ, Bool, true, false, List, [], ◌∷◌, map, string_bytes, String, refl, sym, ◌∙◌, ap, length}
use Rattle.std.proofs.lemmas.List.{append_assoc, append-nil, nil_from_length}
use Rattle.app_words.specs.Streams.{has_value, is_option, named, names, streamed, streamed_command, valued, with_streams}

pub no_words : {Z : Type 0} (is_value : Bool) (words : List (String Z)) → length words ≡ 0 → 0 ≡ names is_value (map string_bytes words)
unfolding names
no_words is_value words none = rw (nil_from_length words none) refl

added : {A : Type 0} (old mid new rest : List A) (x : A) → mid ≡ old ++ x ∷ [] → new ≡ mid ++ rest → new ≡ old ++ x ∷ rest
added old mid new rest x first then_rest = then_rest ∙ ap (λ l. l ++ rest) first ∙ append_assoc old (x ∷ []) rest

pub none_streamed : {Z : Type 0} (command : List ℕ) (count place : ℕ) (option : List ℕ) (words : List (String Z)) (old : List (List ℕ))
    → length words ≡ 0 → old ≡ old ++ streamed command count place option (map string_bytes words)
unfolding streamed
none_streamed command count place option words old none = rw (nil_from_length words none) (sym (append-nil old))

pub value_streamed : {Z : Type 0} (command : List ℕ) (count place : ℕ) (option : List ℕ) (words rest : List (String Z)) (word : String Z) (old mid new : List (List ℕ))
    → words ≡ word ∷ rest → has_value option ≡ true → mid ≡ old ++ valued command option (string_bytes word) ∷ [] → new ≡ mid ++ streamed command count place [] (map string_bytes rest)
    → new ≡ old ++ streamed command count place option (map string_bytes words)
unfolding streamed
value_streamed command count place option words rest word old mid new there is_so first behind = rw (there, is_so) (added old mid new _ _ first behind)

pub option_streamed : {Z : Type 0} (command : List ℕ) (count place : ℕ) (option : List ℕ) (words rest : List (String Z)) (word : String Z) (old mid new : List (List ℕ))
    → words ≡ word ∷ rest → has_value option ≡ false → is_option (string_bytes word) ≡ true → mid ≡ old ++ string_bytes word ∷ []
    → new ≡ mid ++ streamed command count place (string_bytes word) (map string_bytes rest)
    → new ≡ old ++ streamed command count place option (map string_bytes words)
unfolding streamed
option_streamed command count place option words rest word old mid new there isnt is_so first behind = rw (there, isnt, is_so) (added old mid new _ _ first behind)

pub name_streamed : {Z : Type 0} (command : List ℕ) (count place : ℕ) (option : List ℕ) (words rest : List (String Z)) (word : String Z) (old mid new : List (List ℕ))
    → words ≡ word ∷ rest → has_value option ≡ false → is_option (string_bytes word) ≡ false → mid ≡ old ++ named command count place (string_bytes word) ∷ []
    → new ≡ mid ++ streamed command count (place + 1) [] (map string_bytes rest)
    → new ≡ old ++ streamed command count place option (map string_bytes words)
unfolding streamed
name_streamed command count place option words rest word old mid new there isnt none first behind = rw (there, isnt, none) (added old mid new _ _ first behind)

pub no_command : {Z : Type 0} (words : List (String Z)) (old : List (List ℕ)) → length words ≡ 0 → old ≡ old ++ streamed_command (map string_bytes words)
unfolding streamed_command
no_command words old none = rw (nil_from_length words none) (sym (append-nil old))

pub command_streamed : {Z : Type 0} (words rest : List (String Z)) (command : String Z) (old mid new : List (List ℕ))
    → words ≡ command ∷ rest → mid ≡ old ++ string_bytes command ∷ []
    → new ≡ mid ++ streamed (string_bytes command) (names false (map string_bytes rest)) 0 [] (map string_bytes rest)
    → new ≡ old ++ streamed_command (map string_bytes words)
unfolding streamed_command
command_streamed words rest command old mid new there first behind = rw there (added old mid new _ _ first behind)

pub no_program : {Z : Type 0} (words : List (String Z)) (made : List (List ℕ)) → length words ≡ 0 → made ≡ [] → made ≡ with_streams (map string_bytes words)
unfolding with_streams
no_program words made none empty = rw (nil_from_length words none, empty) refl

pub all_streamed : {Z : Type 0} (words behind : List (String Z)) (program : String Z) (old mid new : List (List ℕ))
    → words ≡ program ∷ behind → old ≡ [] → mid ≡ old ++ string_bytes program ∷ [] → new ≡ mid ++ streamed_command (map string_bytes behind)
    → new ≡ with_streams (map string_bytes words)
unfolding with_streams
all_streamed words behind program old mid new there empty first then_behind =
    rw there (added old mid new _ _ first then_behind ∙ ap (λ l. l ++ string_bytes program ∷ streamed_command (map string_bytes behind)) empty)
