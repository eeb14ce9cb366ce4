-- One reader for all types: a bitmap without fault says which elements are there.
use Rattle.std.proofs.Common.{◌≡◌, ℕ, Bool, true, false, List, [], ◌∷◌, None, Result, Ok, Err, refl, sym, ap, ◌∙◌, cond}
use Rattle.std.specs.Prelude.{not, ◌||◌, map, filter}
use Rattle.std.specs.List.{list_all}
use Rattle.std.proofs.lemmas.Bool.{or_right}
use mathlib.Core.Path.{fun_ext}
use Rattle.iso8583.specs.declared.codec_fault.CodecFault.{CodecFault}
use Rattle.iso_laws.specs.declared.element.Element.{Element}
use Rattle.iso_laws.specs.declared.mti.Mti.{Mti}
use Rattle.iso_laws.specs.declared.mti.Mti.TheVariants as mti
use Rattle.iso_laws.specs.declared.rule.Rule.{Rule}
use Rattle.iso_laws.specs.Elements.{element_number, Part, parts_of}
use Rattle.iso_laws.specs.Spelling.{Field, is_set}
use Rattle.iso_laws.specs.Reading.{◌>>=◌, is_listed, is_required, presence_at, optional_at, with_first, rule_at, fields_at, whole_at}
use Rattle.iso_laws.proofs.FirstWrong.{sound_bitmap, same_number}
use Rattle.iso_laws.proofs.Present.{no_rule}
use Rattle.iso_laws.proofs.Transactions.{common_among}
use Rattle.iso_laws.proofs.Forms.{unlisted_unset}
use Rattle.iso_codec.specs.Texts.{read_parts}

abbrev Read : Type 0
Read = Result (List Field × List ℕ) CodecFault

-- a part that is read where the bitmap says that it is there
abbrev by_bitmap : Part → Part
by_bitmap p = (false, p.1, p.2)

-- one part, and what is read behind it
abbrev read_first : ℕ → Bool → Element → Rule → List ℕ → (List ℕ → Read) → Read
read_first bitmap there e rule bytes next = optional_at there e bytes >>= λ x. rule_at rule bitmap x.0 >>= λ _. with_first e x.0 (next x.1)

-- elements that must be there are, so that all can be read by the bitmap
all_by_bitmap : (bitmap : ℕ) (ps : List Part) (bytes : List ℕ)
    → ((n : ℕ) → is_required ps n ≡ true → is_set bitmap n ≡ true)
    → fields_at bitmap (map by_bitmap ps) bytes ≡ fields_at bitmap ps bytes
unfolding fields_at
all_by_bitmap bitmap [] bytes h = refl
all_by_bitmap bitmap ((true, e, r) ∷ ps) bytes h =
    let set : is_set bitmap (element_number e) ≡ true = h (element_number e) (rw (same_number (element_number e)) refl) in
    rw set (ap (read_first bitmap true e r bytes) (fun_ext (λ rest. all_by_bitmap bitmap ps rest (λ n k. h n (or_right _ (is_required ps n) k)))))
all_by_bitmap bitmap ((false, e, r) ∷ ps) bytes h =
    ap (read_first bitmap (is_set bitmap (element_number e)) e r bytes) (fun_ext (λ rest. all_by_bitmap bitmap ps rest h))

without_first : (e : Element) (read : Read) → with_first e None read ≡ read
without_first e (Ok x) = refl
without_first e (Err f) = refl

-- those that a type never has are absent, and reading passes over them
none_of_others : (bitmap : ℕ) (known : ℕ → Bool) (ps : List Part) (bytes : List ℕ)
    → ((e : Element) → known (element_number e) ≡ false → is_set bitmap (element_number e) ≡ false)
    → fields_at bitmap (filter (λ p. known (element_number p.1)) (map by_bitmap ps)) bytes ≡ fields_at bitmap (map by_bitmap ps) bytes
unfolding fields_at optional_at
none_of_others bitmap known [] bytes h = refl
none_of_others bitmap known ((b, e, r) ∷ ps) bytes h =
    elim (known (element_number e)) as (λ k. known (element_number e) ≡ k
    → fields_at bitmap (cond k ((false, e, r) ∷ filter (λ p. known (element_number p.1)) (map by_bitmap ps)) (filter (λ p. known (element_number p.1)) (map by_bitmap ps))) bytes
    ≡ read_first bitmap (is_set bitmap (element_number e)) e r bytes (fields_at bitmap (map by_bitmap ps))) [
      | true ↦ λ _. ap (read_first bitmap (is_set bitmap (element_number e)) e r bytes) (fun_ext (λ rest. none_of_others bitmap known ps rest h))
      | false ↦ λ k. none_of_others bitmap known ps bytes h ∙ sym (rw (h e k, no_rule r bitmap) (without_first e (fields_at bitmap (map by_bitmap ps) bytes)))
    ] refl

those_of_type : (t : Mti)
    → filter (λ p. is_listed (parts_of t) (element_number p.1)) (map by_bitmap (read_parts t)) ≡ map by_bitmap (parts_of t)
those_of_type mti.Request = refl
those_of_type _ = refl

always_required : (t : Mti) → list_all (λ p. not p.0 || is_required (parts_of t) (element_number p.1)) (read_parts t) ≡ true
always_required mti.Request = refl
always_required _ = refl

-- so the one reader reads what the type has
pub read_is : (t : Mti) (bitmap : ℕ) (bytes : List ℕ) → presence_at (parts_of t) bitmap ≡ Ok tt
    → whole_at bitmap (parts_of t) bytes ≡ whole_at bitmap (read_parts t) bytes
unfolding whole_at
read_is t bitmap bytes sound =
    let right = sound_bitmap t bitmap sound in
    let there = λ (n : ℕ) (k : is_required (read_parts t) n ≡ true). right.1 n (common_among (is_required (parts_of t)) (read_parts t) n (always_required t) k) in
    let same : fields_at bitmap (parts_of t) bytes ≡ fields_at bitmap (read_parts t) bytes =
    sym (all_by_bitmap bitmap (parts_of t) bytes right.1) ∙ (ap (λ (ps : List Part). fields_at bitmap ps bytes) (sym (those_of_type t))
    ∙ (none_of_others bitmap (is_listed (parts_of t)) (read_parts t) bytes (λ e k. unlisted_unset t bitmap e sound k) ∙ all_by_bitmap bitmap (read_parts t) bytes there)) in
    rw same refl
