-- How words that begin with no hyphen are met, behind the name of a subcommand.
use Rattle.std.proofs.Common.{◌≡◌, ◌==◌, ◌+◌, ℕ, false, List, [], ◌∷◌, Some, None, refl, ap, ap₂, ◌∙◌, arith, fold, min}
use Rattle.std.proofs.lemmas.Bool.Decides.{nat_tests}
use Rattle.std.specs.Str.{bytes_eq}
use Rattle.std.proofs.lemmas.Bool.{false_from_ne_true}
use Rattle.clap.specs.Faults.{check_fault, defaults_fault, positional_fault, settle_fault, step_fault, turn_fault, walk_fault}
use Rattle.clap.specs.Kinds.{Kinds, or_else}
use Rattle.clap.specs.Lexer.{long_of, short_of, usize_max}
use Rattle.clap.specs.Simple.{Shape}
use Rattle.clap.specs.Walk.{Held, Rule, Text, Waiting, Walk, after_step, arg_by_index, finished, idle, is_multiple, nothing_held, option, plain_word, positional, positional_held, settled, walked, word_met}
use Rattle.app_words.specs.Plainly.{IsPlain}

no_hyphen : (d : ℕ) → (d ≡ 45 → ⊥) → (d == 45) ≡ false
no_hyphen d h = false_from_ne_true (d == 45) (λ e. h (grind (arith, nat_tests)))

no_long : (d : ℕ) (rest : Text) → (d == 45) ≡ false → long_of (d ∷ rest) ≡ None
no_long d rest h = rw h refl

no_short : (d : ℕ) (rest : Text) → (d == 45) ≡ false → short_of (d ∷ rest) ≡ None
no_short d rest h = rw h refl

no_dashes : (d : ℕ) (rest : Text) → (d == 45) ≡ false → bytes_eq (d ∷ rest) (45 ∷ 45 ∷ []) ≡ false
no_dashes d rest h = rw h refl

-- between two words, where this waits
abbrev pub between : Held → Waiting → ℕ → Walk
between h waiting position = record { held = h; waiting = waiting; position = position; is_trailing = false; stopped = None }

-- the word is no flag
plain_met : (c : List Rule) (h : Held) (waiting : Waiting) (p : ℕ) (word : Text) → IsPlain word → word_met c [] false waiting p word h ≡ plain_word c waiting word h
plain_met c h waiting p [] plain = absurd plain
plain_met c h idle p (d ∷ rest) plain =
    let e = no_hyphen d plain in rw (no_dashes d rest e, no_long d rest e, no_short d rest e) refl
plain_met c h (option id) p (d ∷ rest) plain =
    let e = no_hyphen d plain in rw (no_dashes d rest e, no_long d rest e, no_short d rest e) refl
plain_met c h positional p (d ∷ rest) plain =
    let e = no_hyphen d plain in rw (no_dashes d rest e, no_long d rest e, no_short d rest e) refl

pub plain_walked : (c : List Rule) (h : Held) (waiting : Waiting) (p : ℕ) (word : Text) → IsPlain word
    → walked c [] (between h waiting p) word ≡ after_step c word (between h waiting p) (plain_word c waiting word h).0 (plain_word c waiting word h).1
unfolding walked
plain_walked c h waiting p word plain = ap (λ met. after_step c word (between h waiting p) met.0 met.1) (plain_met c h waiting p word plain)

-- the operand that is next takes one word
abbrev pub IsOperand : List Rule → ℕ → Rule → Type 0
IsOperand c p a = (arg_by_index c p ≡ Some a) × (is_multiple a ≡ false) × (a.trailing_var_arg ≡ false)

operand_walked : (c : List Rule) (h : Held) (p : ℕ) (a : Rule) (word : Text) → IsOperand c p a → IsPlain word
    → walked c [] (between h idle p) word ≡ between (positional_held c a word h) idle (min (p + 1) usize_max)
operand_walked c h p a word is plain = plain_walked c h idle p word plain ∙ rw (is.0, is.1, is.2) refl

pub plain_turn : (s : Shape) (h : Held) (waiting : Waiting) (p : ℕ) (word : Text) → IsPlain word
    → turn_fault s [] (between h waiting p) word ≡ step_fault s p (plain_word s.rules waiting word h).0 (plain_word s.rules waiting word h).1
plain_turn s h waiting p [] plain = absurd plain
plain_turn s h idle p (d ∷ rest) plain =
    let e = no_hyphen d plain in rw (no_dashes d rest e, no_long d rest e, no_short d rest e) refl
plain_turn s h (option id) p (d ∷ rest) plain =
    let e = no_hyphen d plain in rw (no_dashes d rest e, no_long d rest e, no_short d rest e) refl
plain_turn s h positional p (d ∷ rest) plain =
    let e = no_hyphen d plain in rw (no_dashes d rest e, no_long d rest e, no_short d rest e) refl

operand_turn : (s : Shape) (h : Held) (p : ℕ) (a : Rule) (word : Text) → IsOperand s.rules p a → IsPlain word
    → turn_fault s [] (between h idle p) word ≡ positional_fault s.rules s.args_override_self a h
operand_turn s h p a word is plain = plain_turn s h idle p word plain ∙ rw (is.0) refl

-- four operands, and what is held behind them
abbrev pub four_held : List Rule → Rule → Rule → Rule → Rule → Text → Text → Text → Text → Held
four_held c a1 a2 a3 a4 w1 w2 w3 w4 =
    positional_held c a4 w4 (positional_held c a3 w3 (positional_held c a2 w2 (positional_held c a1 w1 nothing_held)))

pub record FourOperands (c : List Rule) (a1 a2 a3 a4 : Rule) : Type 0 where
  pub first : IsOperand c 1 a1
  pub second : IsOperand c 2 a2
  pub third : IsOperand c 3 a3
  pub fourth : IsOperand c 4 a4

pub record FourPlain (w1 w2 w3 w4 : Text) : Type 0 where
  pub first : IsPlain w1
  pub second : IsPlain w2
  pub third : IsPlain w3
  pub fourth : IsPlain w4

pub four_walked : (c : List Rule) (a1 a2 a3 a4 : Rule) → FourOperands c a1 a2 a3 a4 → (w1 w2 w3 w4 : Text) → FourPlain w1 w2 w3 w4 → (behind : List Text)
    → fold (walked c []) (between nothing_held idle 1) (w1 ∷ w2 ∷ w3 ∷ w4 ∷ behind) ≡ fold (walked c []) (between (four_held c a1 a2 a3 a4 w1 w2 w3 w4) idle 5) behind
four_walked c a1 a2 a3 a4 are w1 w2 w3 w4 plain behind =
    ap (λ w. fold (walked c []) w (w2 ∷ w3 ∷ w4 ∷ behind)) (operand_walked c nothing_held 1 a1 w1 are.first plain.first)
    ∙ ap (λ w. fold (walked c []) w (w3 ∷ w4 ∷ behind)) (operand_walked c (positional_held c a1 w1 nothing_held) 2 a2 w2 are.second plain.second)
    ∙ ap (λ w. fold (walked c []) w (w4 ∷ behind)) (operand_walked c (positional_held c a2 w2 (positional_held c a1 w1 nothing_held)) 3 a3 w3 are.third plain.third)
    ∙ ap (λ w. fold (walked c []) w behind)
    (operand_walked c (positional_held c a3 w3 (positional_held c a2 w2 (positional_held c a1 w1 nothing_held))) 4 a4 w4 are.fourth plain.fourth)

fault_step : (s : Shape) (h : Held) (p : ℕ) (a : Rule) (word : Text) (rest : List Text) → IsOperand s.rules p a → IsPlain word
    → walk_fault s [] (between h idle p) (word ∷ rest)
    ≡ or_else (positional_fault s.rules s.args_override_self a h) (walk_fault s [] (between (positional_held s.rules a word h) idle (min (p + 1) usize_max)) rest)
unfolding walk_fault
fault_step s h p a word rest is plain =
    ap₂ (λ (k : Kinds) (w : Walk). or_else k (walk_fault s [] w rest)) (operand_turn s h p a word is plain) (operand_walked s.rules h p a word is plain)

-- their faults, and those of what is behind them
abbrev pub four_faults : Shape → Rule → Rule → Rule → Rule → Text → Text → Text → Kinds → Kinds
four_faults s a1 a2 a3 a4 w1 w2 w3 behind =
    let fault : Rule → Held → Kinds = positional_fault s.rules s.args_override_self in
    let held_1 = positional_held s.rules a1 w1 nothing_held in
    let held_2 = positional_held s.rules a2 w2 held_1 in
    or_else (fault a1 nothing_held) (or_else (fault a2 held_1) (or_else (fault a3 held_2) (or_else (fault a4 (positional_held s.rules a3 w3 held_2)) behind)))

pub four_fault : (s : Shape) (a1 a2 a3 a4 : Rule) → FourOperands s.rules a1 a2 a3 a4 → (w1 w2 w3 w4 : Text) → FourPlain w1 w2 w3 w4 → (behind : List Text)
    → walk_fault s [] (between nothing_held idle 1) (w1 ∷ w2 ∷ w3 ∷ w4 ∷ behind)
    ≡ four_faults s a1 a2 a3 a4 w1 w2 w3 (walk_fault s [] (between (four_held s.rules a1 a2 a3 a4 w1 w2 w3 w4) idle 5) behind)
four_fault s a1 a2 a3 a4 are w1 w2 w3 w4 plain behind =
    let fault : Rule → Held → Kinds = positional_fault s.rules s.args_override_self in
    let held_1 = positional_held s.rules a1 w1 nothing_held in
    let held_2 = positional_held s.rules a2 w2 held_1 in
    let held_3 = positional_held s.rules a3 w3 held_2 in
    fault_step s nothing_held 1 a1 w1 (w2 ∷ w3 ∷ w4 ∷ behind) are.first plain.first
    ∙ ap (or_else (fault a1 nothing_held)) (fault_step s held_1 2 a2 w2 (w3 ∷ w4 ∷ behind) are.second plain.second
    ∙ ap (or_else (fault a2 held_1)) (fault_step s held_2 3 a3 w3 (w4 ∷ behind) are.third plain.third
    ∙ ap (or_else (fault a3 held_2)) (fault_step s held_3 4 a4 w4 behind are.fourth plain.fourth)))

-- what a subcommand comes to, by how its walk ends and the faults of its words
abbrev pub level_by : Shape → Held → Kinds → Kinds
level_by s end walking =
    or_else walking (or_else (settle_fault s.rules s.args_override_self end)
    (or_else (defaults_fault (settled s.rules end).rows s.rules) (check_fault s (finished s.rules end) false)))
