-- A text that is read is the one spelling of what was read, and no spelling begins another.
use Rattle.std.proofs.Common.{◌≡◌, ℕ, ◌^◌, ◌<◌, Bool, true, false, cond, eqb, List, [], ◌∷◌, ◌++◌, length, Result, Ok, Err, refl, sym, ap, subst, ◌∙◌, append_assoc, arith}
use Rattle.std.specs.Prelude.{◌||◌}
use Rattle.std.specs.List.{flat_map}
use Rattle.std.specs.Str.{bytes_eq}
use Rattle.std.proofs.lemmas.Bool.{eqb-true, ne_eqb}
use Rattle.std.proofs.lemmas.List.{append-nil, nil_from_length}
use Rattle.std.proofs.lemmas.Slice.Eq.{bytes_eq-Decides}
use Rattle.iso8583.specs.declared.codec_fault.CodecFault.{CodecFault}
use Rattle.iso8583.specs.declared.codec_fault.CodecFault.TheVariants.{Trailing}
use Rattle.iso_laws.specs.Elements.{Part, parts_of}
use Rattle.iso_laws.specs.declared.mti.Mti.{Mti}
use Rattle.iso_laws.specs.declared.mti.Mti.TheVariants as mti
use Rattle.iso_laws.specs.Types.{mti_text, is_among, bits_of}
use Rattle.iso_laws.specs.Spelling.{Field, field, bitmap_of, bitmap_bytes, spelling}
use Rattle.iso_laws.specs.Reading.{◌>>=◌, fields_at, whole_at, presence_at, header_at, reading}
use Rattle.iso_laws.proofs.Elements.{bind_ok}
use Rattle.iso_laws.proofs.Present.{present, present_parts, are_ruled, elements_of, AreTexts, Taken, fields_taken, fields_again}
use Rattle.iso_laws.proofs.Bits.{bitmap_of-elements, is_rising, bitmap_is}
use Rattle.iso_laws.proofs.Headers.{IsBytes, Header, Headed, header_taken, header_again}

-- fields that a message of the type has
pub record AreFields (t : Mti) (fields : List Field) : Type 0 where
  pub texts : AreTexts fields
  pub elements : elements_of fields ≡ present (bitmap_of fields) (parts_of t)
  pub rules : are_ruled (bitmap_of fields) (present_parts (bitmap_of fields) (parts_of t)) fields ≡ true
  pub fits : bitmap_of fields < 2 ^ 127
  pub sound : presence_at (parts_of t) (bitmap_of fields) ≡ Ok tt

pub rising : (t : Mti) → is_rising 1 (parts_of t) ≡ true
rising mti.Request = refl
rising _ = refl

test_ok : {A : Type 0} (b : Bool) (d : CodecFault) (x y : A) → cond b (Ok x) (Err d) ≡ Ok y → (b ≡ true) × (x ≡ y)
test_ok true d x y h = (refl, cc)
test_ok false d x y h = absurd cc

whole_taken : (bitmap : ℕ) (ps : List Part) (bytes : List ℕ) (fields : List Field) → whole_at bitmap ps bytes ≡ Ok fields → Taken bitmap ps bytes fields []
unfolding whole_at
whole_taken bitmap ps bytes fields h =
    let a = bind_ok (fields_at bitmap ps bytes) (λ x. let r : Result (List Field) CodecFault = cond (eqb (length x.1) 0) (Ok x.0) (Err Trailing) in r) fields h in
    let end = test_ok (eqb (length a.0.1) 0) Trailing a.0.0 fields a.2 in
    let none : a.0.1 ≡ [] = nil_from_length a.0.1 (eqb-true (length a.0.1) 0 end.0) in
    subst (λ (r : List ℕ). Taken bitmap ps bytes fields r) none (subst (λ (fs : List Field). Taken bitmap ps bytes fs a.0.1) end.1 (fields_taken bitmap ps bytes a.0 a.1))

pub whole_again : (bitmap : ℕ) (ps : List Part) (fields : List Field) → elements_of fields ≡ present bitmap ps → AreTexts fields → are_ruled bitmap (present_parts bitmap ps) fields ≡ true → whole_at bitmap ps (flat_map field fields) ≡ Ok fields
unfolding whole_at
whole_again bitmap ps fields same texts rules =
    let read : fields_at bitmap ps (flat_map field fields) ≡ Ok (fields, []) = subst (λ (x : List ℕ). fields_at bitmap ps x ≡ Ok (fields, [])) (append-nil (flat_map field fields)) (fields_again bitmap ps fields [] same texts rules) in
    rw read refl

-- what was read of a whole text
pub record Found (types : List Mti) (bytes : List ℕ) (t : Mti) (fields : List Field) : Type 0 where
  pub are : AreFields t fields
  pub among : is_among types t ≡ true
  pub spelled : bytes ≡ spelling t fields

found : (types : List Mti) (bytes : List ℕ) (t : Mti) (bitmap : ℕ) (rest : List ℕ) (fields : List Field) → Headed types bytes t bitmap rest → Taken bitmap (parts_of t) rest fields [] → Found types bytes t fields
found types bytes t bitmap rest fields head body =
    let bits : bitmap ≡ bitmap_of fields = bitmap_is (parts_of t) bitmap (rising t) head.fits head.sound ∙ (ap bits_of (sym body.elements) ∙ sym (bitmap_of-elements fields)) in
    let behind : rest ≡ flat_map field fields = body.spelled ∙ append-nil (flat_map field fields) in
    record {
      are = record {
        texts = body.texts;
        elements = subst (λ (b : ℕ). elements_of fields ≡ present b (parts_of t)) bits body.elements;
        rules = subst (λ (b : ℕ). are_ruled b (present_parts b (parts_of t)) fields ≡ true) bits body.rules;
        fits = subst (λ (b : ℕ). b < 2 ^ 127) bits head.fits;
        sound = subst (λ (b : ℕ). presence_at (parts_of t) b ≡ Ok tt) bits head.sound;
      };
      among = head.among;
      spelled = head.spelled ∙ (ap (λ (b : ℕ). (mti_text t ++ bitmap_bytes b) ++ rest) bits ∙ ap (λ (x : List ℕ). (mti_text t ++ bitmap_bytes (bitmap_of fields)) ++ x) behind);
    }

abbrev pub Message : Type 0
Message = Mti × List Field

-- what is read is spelled so
pub reading_found : (types : List Mti) (bytes : List ℕ) (x : Message) → IsBytes bytes → reading types bytes ≡ Ok x → Found types bytes x.0 x.1
unfolding reading
reading_found types bytes x fits h =
    let a = bind_ok (header_at types bytes) (λ head. whole_at head.1 (parts_of head.0) head.2 >>= λ fields. let r : Result Message CodecFault = Ok (head.0, fields) in r) x h in
    let b = bind_ok (whole_at a.0.1 (parts_of a.0.0) a.0.2) (λ fields. let r : Result Message CodecFault = Ok (a.0.0, fields) in r) x a.2 in
    let same : (a.0.0, b.0) ≡ x = cc in
    subst (λ (y : Message). Found types bytes y.0 y.1) same (found types bytes a.0.0 a.0.1 a.0.2 b.0 (header_taken types bytes a.0 fits a.1) (whole_taken a.0.1 (parts_of a.0.0) a.0.2 b.0 b.1))

-- what is spelled so is read
pub reading_again : (types : List Mti) (t : Mti) (fields : List Field) → AreFields t fields → is_among types t ≡ true → reading types (spelling t fields) ≡ Ok (t, fields)
unfolding reading
reading_again types t fields are among =
    rw (header_again types t (bitmap_of fields) (flat_map field fields) among are.fits are.sound, whole_again (bitmap_of fields) (parts_of t) fields are.elements are.texts are.rules) refl

-- ---- a text that begins with a spelling

same_here : (t : Mti) → bytes_eq (mti_text t) (mti_text t) ≡ true
same_here t = (bytes_eq-Decides (mti_text t) (mti_text t)).1 refl

first_among : (t u : Mti) → is_among (t ∷ u ∷ []) t ≡ true
first_among t u = rw (same_here t) refl

second_among : (t u : Mti) → is_among (t ∷ u ∷ []) u ≡ true
second_among t u = rw (same_here u) (elim (bytes_eq (mti_text t) (mti_text u)) as (λ b. (b || true) ≡ true) [ true ↦ refl | false ↦ refl ])

-- what a text that begins with the spelling is read as
front_read : (types : List Mti) (t : Mti) (fields : List Field) (rest : List ℕ) → AreFields t fields → is_among types t ≡ true → header_at types (spelling t fields ++ rest) ≡ Ok (t, bitmap_of fields, flat_map field fields ++ rest)
front_read types t fields rest are among =
    subst (λ (x : List ℕ). header_at types x ≡ Ok (t, bitmap_of fields, flat_map field fields ++ rest)) (sym (append_assoc (mti_text t ++ bitmap_bytes (bitmap_of fields)) (flat_map field fields) rest))
    (header_again types t (bitmap_of fields) (flat_map field fields ++ rest) among are.fits are.sound)

-- with a byte behind it
pub trailing_read : (types : List Mti) (t : Mti) (fields : List Field) (byte : ℕ) (rest : List ℕ) → AreFields t fields → is_among types t ≡ true → reading types (spelling t fields ++ (byte ∷ rest)) ≡ Err Trailing
unfolding reading whole_at
trailing_read types t fields byte rest are among =
    let some : eqb (length (byte ∷ rest)) 0 ≡ false = ne_eqb (length (byte ∷ rest)) 0 (λ e. omega arith) in
    rw (front_read types t fields (byte ∷ rest) are among, fields_again (bitmap_of fields) (parts_of t) fields (byte ∷ rest) are.elements are.texts are.rules, some) refl

-- ---- no spelling begins another

abbrev header_of : Header → Result Header CodecFault
header_of x = Ok x

abbrev fields_of : List Field × List ℕ → Result (List Field × List ℕ) CodecFault
fields_of x = Ok x

same_header : (x y : Header) → header_of x ≡ header_of y → (x.0 ≡ y.0) × (x.1 ≡ y.1) × (x.2 ≡ y.2)
same_header x y h = (cc, cc, cc)

same_fields : (x y : List Field × List ℕ) → fields_of x ≡ fields_of y → (x.0 ≡ y.0) × (x.1 ≡ y.1)
same_fields x y h = (cc, cc)

pub no_spelling_begins_another : (t u : Mti) (fs gs : List Field) (x y : List ℕ) → AreFields t fs → AreFields u gs → spelling t fs ++ x ≡ spelling u gs ++ y → (t ≡ u) × (fs ≡ gs) × (x ≡ y)
no_spelling_begins_another t u fs gs x y a b h =
    let types = t ∷ u ∷ [] in
    let one = front_read (t ∷ u ∷ []) t fs x a (first_among t u) in
    let two = front_read (t ∷ u ∷ []) u gs y b (second_among t u) in
    let heads = same_header (t, bitmap_of fs, flat_map field fs ++ x) (u, bitmap_of gs, flat_map field gs ++ y) (sym one ∙ (ap (header_at (t ∷ u ∷ [])) h ∙ two)) in
    let left = fields_again (bitmap_of fs) (parts_of t) fs x a.elements a.texts a.rules in
    let right = fields_again (bitmap_of gs) (parts_of u) gs y b.elements b.texts b.rules in
    let moved : fields_at (bitmap_of fs) (parts_of t) (flat_map field fs ++ x) ≡ fields_at (bitmap_of gs) (parts_of u) (flat_map field gs ++ y) =
    ap (λ (z : Header). fields_at z.1 (parts_of z.0) z.2) (let triple : (t, bitmap_of fs, flat_map field fs ++ x) ≡ (u, bitmap_of gs, flat_map field gs ++ y) = cc in triple) in
    let rest = same_fields (fs, x) (gs, y) (sym left ∙ (moved ∙ right)) in
    (heads.0, rest.0, rest.1)
