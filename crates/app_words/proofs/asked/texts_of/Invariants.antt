use Rattle.std.proofs.Common.{◌≡◌, ◌++◌, ◌∷◌, drop, map, string_bytes}
use Rattle.app_words.proofs.asked.texts_of.Given as goal

-- the texts so far, and those of the rest
abbrev pub invariant-loop-word : goal.invariant-loop-word
invariant-loop-word l =
    map string_bytes l.texts.items ++ map (λ word. word.now) (drop l.word-index l.words) ≡ l.text ∷ map (λ word. word.now) l.words
