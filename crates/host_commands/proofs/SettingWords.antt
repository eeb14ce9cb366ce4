-- Words that say no settings.
use Rattle.std.proofs.Common.{◌≡◌, ◌≢◌, ℕ, List, Option, Some, None, IfNone, length, inl, inr, sym, ap, ◌∙◌, arith}
use Rattle.host_commands.specs.Settings.{SaySettings, SaysMaxBatch, SaysStats}
use Rattle.host_commands.specs.declared.settings.Settings.{Settings}

-- no setting stands in other words than six or eight, or four
pub none_of_others : (words : List (List ℕ)) → length words ≢ 4 → length words ≢ 6 → length words ≢ 8 → (settings : Settings) → SaySettings words settings → ⊥
none_of_others words four six eight settings (inl said) = four said.0
none_of_others words four six eight settings (inr (inl said)) = six said.0
none_of_others words four six eight settings (inr (inr (inl said))) = six said.0
none_of_others words four six eight settings (inr (inr (inr (inl said)))) = eight said.0
none_of_others words four six eight settings (inr (inr (inr (inr said)))) = eight said.0

pub none_of_six : (words : List (List ℕ)) → length words ≡ 6 → ((most : ℕ) → SaysMaxBatch words 4 most → ⊥) → ((every : ℕ) → SaysStats words 4 every → ⊥)
    → (settings : Settings) → SaySettings words settings → ⊥
none_of_six words six most every settings (inl said) = omega (arith, six, said.0)
none_of_six words six most every settings (inr (inl said)) = most said.1 said.2
none_of_six words six most every settings (inr (inr (inl said))) = every said.1 said.2
none_of_six words six most every settings (inr (inr (inr (inl said)))) = omega (arith, six, said.0)
none_of_six words six most every settings (inr (inr (inr (inr said)))) = omega (arith, six, said.0)

-- neither is said first and the other one behind it
pub none_of_eight : (words : List (List ℕ)) → length words ≡ 8 → ((most every : ℕ) → SaysMaxBatch words 4 most → SaysStats words 6 every → ⊥)
    → ((most every : ℕ) → SaysStats words 4 every → SaysMaxBatch words 6 most → ⊥) → (settings : Settings) → SaySettings words settings → ⊥
none_of_eight words eight first second settings (inl said) = omega (arith, eight, said.0)
none_of_eight words eight first second settings (inr (inl said)) = omega (arith, eight, said.0)
none_of_eight words eight first second settings (inr (inr (inl said))) = omega (arith, eight, said.0)
none_of_eight words eight first second settings (inr (inr (inr (inl said)))) = first said.1 said.2 said.3 said.4
none_of_eight words eight first second settings (inr (inr (inr (inr said)))) = second said.1 said.2 said.3 said.4

abbrev size_of : Option (List ℕ) → ℕ
size_of None = 0
size_of (Some word) = length word

-- two words don't say both
pub not_both : (words : List (List ℕ)) (place most every : ℕ) → SaysMaxBatch words place most → SaysStats words place every → ⊥
not_both words place most every max stats =
    let sizes : ◌≡◌ {A = ℕ} 11 7 = ap size_of (sym max.0 ∙ stats.0) in omega (arith, sizes)

-- what holds in any case
pub if_none : {X P : Type 0} (result : Option X) → P → IfNone result P
if_none None holds = holds
if_none (Some x) holds = tt
