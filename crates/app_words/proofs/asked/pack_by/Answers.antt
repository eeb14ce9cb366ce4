use Rattle.std.proofs.Common.{◌≡◌, ◌∷◌, ◌++◌, [], ◌∙◌, sym, ap, map, option_map, List, Option, Some}
use Rattle.std.proofs.lemmas.List.{map-append}
use Rattle.clap.specs.Walk.{Text}
use Rattle.app_words.specs.Asked.{pack_as, pack_by}
use Rattle.app_words.proofs.PackLemmas.{packed_by}
use Rattle.app_words.proofs.asked.pack_by.Goals as goal

pub returns : goal.returns
returns c =
    let flag : Option Text = option_map (λ flag. flag.now) c.args.flag in
    let text = c.args.text.now in
    let file = c.in-Some.file.now.now in
    let words : List Text = map (λ word. word.now) c.in-Some.words.now in
    let behind : map (λ word. word.now) c.args.behind.now ≡ words ++ file ∷ [] =
    ap (map (λ word. word.now)) c.in-Some.ensures.cases.0 ∙ map-append (λ word. word.now) c.in-Some.words.now (c.in-Some.file.now ∷ []) in
    let made : Some (pack_as flag (text ∷ words) file) ≡ pack_by flag text (map (λ word. word.now) c.args.behind.now) =
    sym (ap (pack_by flag text) behind ∙ packed_by flag text words file) in
    rw c.pack_as.ensures (rw (c.in_ok-texts.ensures, c.in_ok-file.ensures.ok) made)
