-- Words of which the last is the file that is made.
use Rattle.std.proofs.Common.{◌≡◌, List, [], ◌∷◌, ◌++◌, Option, Some, refl, ap, ap₂}
use Rattle.clap.specs.Walk.{Text}
use Rattle.app_words.specs.Asked.{but_last, last_of, pack_as, pack_by}

but_last_is : (word : Text) (words : List Text) (file : Text) → but_last word (words ++ file ∷ []) ≡ word ∷ words
but_last_is word [] file = refl
but_last_is word (next ∷ words) file = ap (λ (ws : List Text). word ∷ ws) (but_last_is next words file)

last_is : (word : Text) (words : List Text) (file : Text) → last_of word (words ++ file ∷ []) ≡ file
last_is word [] file = refl
last_is word (next ∷ words) file = last_is next words file

-- the texts and the file
pub packed_by : (flag : Option Text) (text : Text) (words : List Text) (file : Text) → pack_by flag text (words ++ file ∷ []) ≡ Some (pack_as flag (text ∷ words) file)
packed_by flag text [] file = refl
packed_by flag text (word ∷ words) file =
    ap₂ (λ (texts : List Text) (made : Text). Some (pack_as flag (text ∷ texts) made)) (but_last_is word words file) (last_is word words file)
