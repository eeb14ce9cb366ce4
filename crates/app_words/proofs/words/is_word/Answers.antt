use Rattle.std.proofs.Common.{◌≡◌, ℕ, List, Some, Option, map, option_map, slice_get, string_bytes, sym, ap, ◌∙◌, arith}
use Rattle.std.proofs.lemmas.Option.{slice_get-get_or, slice_get-map}
use Rattle.std.proofs.lemmas.Slice.Eq.{bytes_eq-Decides}
use Rattle.app_words.proofs.words.is_word.Goals as goal

same_word : (a b : List ℕ) → Path (Option (List ℕ)) (Some a) (Some b) → a ≡ b
same_word a b e = cc

pub returns-clause-yes : goal.returns-clause-yes
returns-clause-yes c same =
    let words = c.args.words.now in
    let word = c.index-words-place.result in
    slice_get-map string_bytes words c.args.place
    ∙ ap (option_map string_bytes) (slice_get-get_or words c.args.place word (omega (arith, c.if-place-words.false)) ∙ ap Some (sym c.index-words-place.is))
    ∙ ap Some (sym c.as_str.ensures.value ∙ (bytes_eq-Decides c.as_str.result.now c.args.word.now).0 (sym c.eq.ensures ∙ same))

pub returns-clause-no : goal.returns-clause-no
returns-clause-no c differs there =
    let words = c.args.words.now in
    let word = c.index-words-place.result in
    let own : slice_get (map string_bytes words) c.args.place ≡ Some (string_bytes word) = slice_get-map string_bytes words c.args.place
    ∙ ap (option_map string_bytes) (slice_get-get_or words c.args.place word (omega (arith, c.if-place-words.false)) ∙ ap Some (sym c.index-words-place.is)) in
    let same = same_word (string_bytes word) c.args.word.now (sym own ∙ there) in
    differs (c.eq.ensures ∙ (bytes_eq-Decides c.as_str.result.now c.args.word.now).1 (c.as_str.ensures.value ∙ same))
