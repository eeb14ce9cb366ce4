-- The text of an element that was read is the one that was spelled, and what was spelled is read again.
use Rattle.std.proofs.Common.{◌≡◌, ◌⊎◌, ℕ, ◌<◌, ◌≤◌, Bool, true, false, cond, ltb, leb, List, ◌++◌, length, take, drop, Result, Ok, Err, refl, sym, ap, subst, ◌∙◌, append_assoc, arith, rules, inl, inr}
use Rattle.std.specs.Prelude.{not, ◌&&◌}
use Rattle.std.proofs.lemmas.Bool.{ltb-false, le-ltb, leb-true, le-leb}
use Rattle.std.proofs.lemmas.List.{take_at, drop_at, take-append-drop, length-append, length-take-le}
use Rattle.iso8583.specs.declared.codec_fault.CodecFault.{CodecFault}
use Rattle.iso8583.specs.declared.codec_fault.CodecFault.TheVariants.{Short, BadLength, BadCharacter, BadValue}
use Rattle.iso8583.specs.Class.{is_digits}
use Rattle.iso8583.specs.Number.{number_of, fixed_digits}
use Rattle.iso8583.proofs.NumberLaws.{length-fixed_digits, number_of-fixed_digits, fixed_digits-number_of, is_digits-fixed_digits}
use Rattle.iso_laws.specs.declared.element.Element.{Element}
use Rattle.iso_laws.specs.declared.element.Element.TheVariants as element
use Rattle.iso_laws.specs.declared.shape.Shape.{Shape}
use Rattle.iso_laws.specs.declared.shape.Shape.TheVariants.{Fixed, UpTo}
use Rattle.iso_laws.specs.Elements.{element_number, shape_of, class_of, is_of_class, has_value, HasShape, IsText}
use Rattle.iso_laws.specs.Spelling.{field, length_prefix}
use Rattle.iso_laws.proofs.Conjunctions.{all_three_true}
use Rattle.iso_laws.specs.Reading.{◌>>=◌, bytes_at, is_length, shaped_at, element_at}

-- the value of a step that did not fail
pub bind_ok : {A B : Type 0} (r : Result A CodecFault) (f : A → Result B CodecFault) (y : B) → (r >>= f) ≡ Ok y → (x : A) × (r ≡ Ok x) × (f x ≡ Ok y)
bind_ok (Ok x) f y e = (x, refl, e)
bind_ok (Err d) f y e = absurd cc

-- a step that failed, or the one after it
pub bind_err : {A B : Type 0} (r : Result A CodecFault) (f : A → Result B CodecFault) (d : CodecFault) → (r >>= f) ≡ Err d → (r ≡ Err d) ⊎ ((x : A) × (r ≡ Ok x) × (f x ≡ Err d))
bind_err (Ok x) f d h = inr (x, refl, h)
bind_err (Err e) f d h = inl cc

-- a test that did not fail
pub guard_ok : {A : Type 0} (b : Bool) (d : CodecFault) (x y : A) → cond b (Err d) (Ok x) ≡ Ok y → (b ≡ false) × (x ≡ y)
guard_ok true d x y e = absurd cc
guard_ok false d x y e = (refl, cc)

-- a test that held
pub test_ok : {A : Type 0} (b : Bool) (d : CodecFault) (r : Result A CodecFault) (y : A) → cond b r (Err d) ≡ Ok y → (b ≡ true) × (r ≡ Ok y)
test_ok true d r y e = (refl, e)
test_ok false d r y e = absurd cc

not_true : {A : Type 0} (b : Bool) (d : CodecFault) (r : Result A CodecFault) (y : A) → cond (not b) (Err d) r ≡ Ok y → (b ≡ true) × (r ≡ Ok y)
not_true true d r y e = (refl, e)
not_true false d r y e = absurd cc

pub ok_is : {A : Type 0} {x y : A} (view : Result A CodecFault) → view ≡ Ok x → view ≡ Ok y → x ≡ y
ok_is view h k = cc

pub bytes_taken : (n size : ℕ) (bytes text rest : List ℕ) → bytes_at n size bytes ≡ Ok (text, rest) → (bytes ≡ text ++ rest) × (length text ≡ size)
bytes_taken n size bytes text rest e =
    let g = guard_ok (ltb (length bytes) size) (Short n) (take size bytes, drop size bytes) (text, rest) e in
    let long : size ≤ length bytes = ltb-false _ _ g.0 in
    let text-is : take size bytes ≡ text = ap (λ (p : List ℕ × List ℕ). p.0) g.1 in
    let rest-is : drop size bytes ≡ rest = ap (λ (p : List ℕ × List ℕ). p.1) g.1 in
    (rw (← text-is, ← rest-is) (sym (take-append-drop size bytes)), rw (← text-is) (length-take-le size bytes long))

pub bytes_again : (n size : ℕ) (text rest : List ℕ) → length text ≡ size → bytes_at n size (text ++ rest) ≡ Ok (text, rest)
bytes_again n size text rest len =
    let long : ltb (length (text ++ rest)) size ≡ false = le-ltb _ _ (omega (arith, length-append text rest)) in
    rw (long, take_at text rest size len, drop_at text rest size len) refl

pub shaped_taken : (n : ℕ) (shape : Shape) (bytes text rest : List ℕ) → shaped_at n shape bytes ≡ Ok (text, rest) → (bytes ≡ (length_prefix shape text ++ text) ++ rest) × HasShape shape text
unfolding shaped_at
shaped_taken n (Fixed size) bytes text rest e = bytes_taken n size bytes text rest e
shaped_taken n (UpTo min max) bytes text rest e =
    let p = bind_ok (bytes_at n 2 bytes) (λ x. cond (is_length min max x.0) (bytes_at n (number_of x.0) x.1) (Err (BadLength n))) (text, rest) e in
    let digits = p.0.0 in
    let behind = p.0.1 in
    let t = test_ok (is_length min max digits) (BadLength n) (bytes_at n (number_of digits) behind) (text, rest) p.2 in
    let front = bytes_taken n 2 bytes digits behind p.1 in
    let back = bytes_taken n (number_of digits) behind text rest t.1 in
    let parts = all_three_true (is_digits digits) (leb min (number_of digits)) (leb (number_of digits) max) t.0 in
    let size : fixed_digits 2 (length text) ≡ digits = rw back.1 (fixed_digits-number_of 2 digits front.1 parts.0) in (
      front.0 ∙ (ap (λ (x : List ℕ). digits ++ x) back.0 ∙ rw size (sym (append_assoc digits text rest))),
      (rw back.1 (leb-true _ _ parts.1), rw back.1 (leb-true _ _ parts.2)),
    )

-- two digits say each length that the shape has
abbrev pub IsShort : Shape → Type 0
IsShort (Fixed size) = Unit {0}
IsShort (UpTo min max) = max < 100

pub is_short : (e : Element) → IsShort (shape_of e)
is_short element.Pan = search rules
is_short _ = search rules

all_true : (a b c : Bool) → a ≡ true → b ≡ true → c ≡ true → (a && b && c) ≡ true
all_true true true true h k l = refl
all_true true true false h k l = l
all_true true false c h k l = k
all_true false b c h k l = h

pub shaped_again : (n : ℕ) (shape : Shape) (text rest : List ℕ) → IsShort shape → HasShape shape text → shaped_at n shape ((length_prefix shape text ++ text) ++ rest) ≡ Ok (text, rest)
unfolding shaped_at
shaped_again n (Fixed size) text rest short len = bytes_again n size text rest len
shaped_again n (UpTo min max) text rest short len =
    let digits = fixed_digits 2 (length text) in
    let number : number_of digits ≡ length text = number_of-fixed_digits 2 (length text) (omega arith) in
    let within : is_length min max digits ≡ true =
    rw number (all_true (is_digits digits) (leb min (length text)) (leb (length text) max) (is_digits-fixed_digits 2 (length text)) (le-leb _ _ len.0) (le-leb _ _ len.1)) in
    rw (append_assoc digits text rest, bytes_again n 2 digits (text ++ rest) (length-fixed_digits 2 (length text)), within, number, bytes_again n (length text) text rest refl) refl

pub element_taken : (e : Element) (bytes text rest : List ℕ) → element_at e bytes ≡ Ok (text, rest) → (bytes ≡ field (e, text) ++ rest) × IsText e text
unfolding element_at
element_taken e bytes text rest h =
    let n = element_number e in
    let p = bind_ok (shaped_at n (shape_of e) bytes) (λ x. cond (not (is_of_class (class_of e) x.0)) (Err (BadCharacter n)) (cond (has_value e x.0) (Ok x) (Err (BadValue n)))) (text, rest) h in
    let x = p.0 in
    let class = not_true (is_of_class (class_of e) x.0) (BadCharacter n) (cond (has_value e x.0) (Ok x) (Err (BadValue n))) (text, rest) p.2 in
    let value = test_ok (has_value e x.0) (BadValue n) (Ok x) (text, rest) class.1 in
    let same : x ≡ (text, rest) = ok_is (Ok x) refl value.1 in
    let shaped = shaped_taken n (shape_of e) bytes x.0 x.1 p.1 in
    subst (λ (y : List ℕ × List ℕ). (bytes ≡ field (e, y.0) ++ y.1) × IsText e y.0) same (shaped.0, (shaped.1, class.0, value.0))

pub element_again : (e : Element) (text rest : List ℕ) → IsText e text → element_at e (field (e, text) ++ rest) ≡ Ok (text, rest)
unfolding element_at
element_again e text rest h =
    let class : is_of_class (class_of e) text ≡ true = h.1 in
    let value : has_value e text ≡ true = h.2 in
    rw (shaped_again (element_number e) (shape_of e) text rest (is_short e) h.0, class, value) refl
