-- How options are read, one after another.
use Rattle.std.proofs.Common.{◌≡◌, ◌^◌, ◌-◌, ℕ, true, false, List, [], ◌∷◌, ◌++◌, None, Some, codes, subst, sym, zero, suc, refl, ap, ◌∙◌, drop, length, map, String, string_bytes}
use Rattle.std.proofs.lemmas.List.{nil_from_length}
use Rattle.std.specs.Str.{bytes_eq}
use Rattle.host_commands.specs.Links.{AddsLink, LinkOptions, SayMore, nothing}
use Rattle.host_commands.specs.Settings.{IsNumberTo}
use Rattle.app_words.specs.Numbers.{number_said}

module _ (all rest : List (List ℕ)) (option first : List ℕ) (before mid after : LinkOptions) where
  pub max_said : all ≡ option ∷ first ∷ rest → bytes_eq option (codes "--max-batch") ≡ true
      → IsNumberTo 65536 first × (before.max_batch ≡ None) × (mid ≡ record { max_batch = Some (number_said first); stats = before.stats; links = before.links })
      → SayMore mid rest after → SayMore before all after
  max_said there max heard more = rw (there, max) (heard.0, heard.1, subst (λ (h : LinkOptions). SayMore h rest after) heard.2 more)

  pub max_unsaid : all ≡ option ∷ first ∷ rest → bytes_eq option (codes "--max-batch") ≡ true
      → IsNumberTo 65536 first × (before.max_batch ≡ None) × (mid ≡ record { max_batch = Some (number_said first); stats = before.stats; links = before.links })
      → (SayMore mid rest after → ⊥) → SayMore before all after → ⊥
  max_unsaid there max heard none said =
      let so = rw (there, max) at said in
      none (subst (λ (h : LinkOptions). SayMore h rest after) (sym heard.2) so.2)

  pub stats_said : all ≡ option ∷ first ∷ rest → bytes_eq option (codes "--max-batch") ≡ false → bytes_eq option (codes "--stats") ≡ true
      → IsNumberTo (2 ^ 64 - 1) first × (before.stats ≡ None) × (mid ≡ record { max_batch = before.max_batch; stats = Some (number_said first); links = before.links })
      → SayMore mid rest after → SayMore before all after
  stats_said there max stats heard more = rw (there, max, stats) (heard.0, heard.1, subst (λ (h : LinkOptions). SayMore h rest after) heard.2 more)

  pub stats_unsaid : all ≡ option ∷ first ∷ rest → bytes_eq option (codes "--max-batch") ≡ false → bytes_eq option (codes "--stats") ≡ true
      → IsNumberTo (2 ^ 64 - 1) first × (before.stats ≡ None) × (mid ≡ record { max_batch = before.max_batch; stats = Some (number_said first); links = before.links })
      → (SayMore mid rest after → ⊥) → SayMore before all after → ⊥
  stats_unsaid there max stats heard none said =
      let so = rw (there, max, stats) at said in
      none (subst (λ (h : LinkOptions). SayMore h rest after) (sym heard.2) so.2)

  pub link_said : (second : List ℕ) → all ≡ option ∷ first ∷ second ∷ rest → bytes_eq option (codes "--max-batch") ≡ false → bytes_eq option (codes "--stats") ≡ false
      → bytes_eq option (codes "--link") ≡ true
      → AddsLink before.links first second × (mid ≡ record { max_batch = before.max_batch; stats = before.stats; links = before.links ++ (first, second) ∷ [] })
      → SayMore mid rest after → SayMore before all after
  link_said second there max stats link heard more = rw (there, max, stats, link) (heard.0, subst (λ (h : LinkOptions). SayMore h rest after) heard.1 more)

  pub link_unsaid : (second : List ℕ) → all ≡ option ∷ first ∷ second ∷ rest → bytes_eq option (codes "--max-batch") ≡ false → bytes_eq option (codes "--stats") ≡ false
      → bytes_eq option (codes "--link") ≡ true
      → AddsLink before.links first second × (mid ≡ record { max_batch = before.max_batch; stats = before.stats; links = before.links ++ (first, second) ∷ [] })
      → (SayMore mid rest after → ⊥) → SayMore before all after → ⊥
  link_unsaid second there max stats link heard none said =
      let so = rw (there, max, stats, link) at said in
      none (subst (λ (h : LinkOptions). SayMore h rest after) (sym heard.1) so.1)

  pub link_refused : (second : List ℕ) → all ≡ option ∷ first ∷ second ∷ rest → bytes_eq option (codes "--max-batch") ≡ false → bytes_eq option (codes "--stats") ≡ false
      → bytes_eq option (codes "--link") ≡ true → (AddsLink before.links first second → ⊥) → SayMore before all after → ⊥
  link_refused second there max stats link none said =
      let so = rw (there, max, stats, link) at said in
      none so.0

  link_short : all ≡ option ∷ first ∷ [] → bytes_eq option (codes "--max-batch") ≡ false → bytes_eq option (codes "--stats") ≡ false
      → bytes_eq option (codes "--link") ≡ true → SayMore before all after → ⊥
  link_short there max stats link said =
      let so = rw (there, max, stats, link) at said in
      so

  pub link_cut : {Z : Type 0} (words : List (String Z)) → length words ≡ 0 → all ≡ option ∷ first ∷ map string_bytes words → bytes_eq option (codes "--max-batch") ≡ false
      → bytes_eq option (codes "--stats") ≡ false → bytes_eq option (codes "--link") ≡ true → SayMore before all after → ⊥
  link_cut words none there = link_short (there ∙ ap (λ (w : List (String _)). option ∷ first ∷ map string_bytes w) (nil_from_length words none))

map_drop : {Z : Type 0} (n : ℕ) (words : List (String Z)) → drop n (map string_bytes words) ≡ map string_bytes (drop n words)
map_drop zero words = refl
map_drop (suc n) [] = refl
map_drop (suc n) (word ∷ words) = map_drop n words

-- the options stand behind four words
pub said_behind : {Z : Type 0} (words behind : List (String Z)) (before said : LinkOptions) → behind ≡ drop 4 words → before ≡ nothing
    → SayMore nothing (drop 4 (map string_bytes words)) said → SayMore before (map string_bytes behind) said
said_behind words behind before said there none is =
    subst (λ (h : LinkOptions). SayMore h (map string_bytes behind) said) (sym none)
    (subst (λ (w : List (List ℕ)). SayMore nothing w said) (map_drop 4 words ∙ ap (λ (w : List (String _)). map string_bytes w) (sym there)) is)

pub behind_said : {Z : Type 0} (words behind : List (String Z)) (before said : LinkOptions) → behind ≡ drop 4 words → before ≡ nothing
    → SayMore before (map string_bytes behind) said → SayMore nothing (drop 4 (map string_bytes words)) said
behind_said words behind before said there none is =
    subst (λ (w : List (List ℕ)). SayMore nothing w said) (ap (λ (w : List (String _)). map string_bytes w) there ∙ sym (map_drop 4 words))
    (subst (λ (h : LinkOptions). SayMore h (map string_bytes behind) said) none is)
