-- Replies that were written are read back.
use Rattle.std.proofs.Common.{◌≡◌, ℕ, zero, suc, ◌+◌, ◌/◌, ◌%◌, ◌^◌, ◌<◌, ◌≤◌, true, false, cond, List, [], ◌∷◌, ◌++◌, length, get_or, take, drop, map, Option, Some, None, Ok, refl, sym, ap, subst, ◌∙◌, arith}
use Rattle.std.specs.Prelude.{◌==◌, IfSome}
use Rattle.std.specs.List.{flat_map, AllByRecursion}
use Rattle.std.specs.Int.{w64, to_be_bytes}
use Rattle.std.proofs.lemmas.List.{take_at, drop_at, length-append, length-map}
use Rattle.std.proofs.lemmas.List.Folds.{flat_map-map}
use Rattle.iso8583.proofs.NumberLaws.{length-fixed_digits, number_of-fixed_digits}
use Rattle.issuer_words.specs.Words.{CodecFault, ReplyBody, element_of_fault, fault_body, fixed_digits, number_of, number_of_fault}
use Rattle.iso8583.specs.declared.codec_fault.CodecFault.TheVariants.{Short, BadMti, SecondaryBitmap, Unexpected, Missing, BadLength, BadCharacter, Trailing, BadValue, OutOfMemory}
use Rattle.iso8583.specs.declared.reply.Reply.{Reply as ReplyValue}
use Rattle.iso_laws.specs.declared.element.Element.{Element}
use Rattle.iso_laws.specs.declared.shape.Shape.{Shape}
use Rattle.iso_laws.specs.declared.shape.Shape.TheVariants.{Fixed, UpTo}
use Rattle.iso_laws.specs.Elements.{elements, shape_of, HasShape, IsText}
use Rattle.iso_laws.specs.Spelling.{Field, Texts, with_field, fields_among, length_prefix, field, bitmap_of, bitmap_bytes}
use Rattle.iso_laws.specs.Types.{mti_text}
use Rattle.iso_laws.specs.Replies.{IsReply, reply_mti, reply_texts, reply_fields, reply_spelling}
use Rattle.iso_laws.proofs.Headers.{length-mti_text}
use Rattle.iso_laws.proofs.Replies.{reply_known, replies_apart}
use Rattle.issuer_rows.specs.declared.reply_body.ReplyBody.TheVariants.{Reply, Fault}
use Rattle.file_laws.specs.Files.{framed, head_text, IsBody, AreBodies, reply_text, replies_text}
use Rattle.file_laws.specs.Reading.{bodies_of, replies_magic}
use Rattle.file_laws.specs.Replies.{IsReplyText, AreRepliesOf, IsReplyFileOf, IsReplyBody, AreReplyBodies}
use Rattle.file_laws.proofs.Again.{file_again}
use Rattle.file_laws.proofs.Steps.{ok_injective}

-- ---- a reply is no longer than a body

abbrev most : Shape → ℕ
most (Fixed size) = size
most (UpTo min max) = 2 + max

shaped : (s : Shape) (text : List ℕ) → HasShape s text → length (length_prefix s text ++ text) ≤ most s
shaped (Fixed size) text is = omega (arith, is)
shaped (UpTo min max) text is = omega (arith, is.1, length-append (fixed_digits 2 (length text)) text, length-fixed_digits 2 (length text))

field_short : (e : Element) (text : Option (List ℕ)) (fields : List Field) → IfSome text (IsText e) → length (flat_map field (with_field e text fields)) ≤ most (shape_of e) + length (flat_map field fields)
field_short e None fields known = omega arith
field_short e (Some text) fields known =
    omega (arith, shaped (shape_of e) text known.0, length-append (field (e, text)) (flat_map field fields))

abbrev most_of : List Element → ℕ
most_of [] = 0
most_of (e ∷ es) = most (shape_of e) + most_of es

fields_short : (text : Texts) (es : List Element) → ((e : Element) → IfSome (text e) (IsText e)) → length (flat_map field (fields_among es text)) ≤ most_of es
fields_short text [] known = omega arith
fields_short text (e ∷ es) known =
    let others = fields_short text es known in
    let here : length (flat_map field (with_field e (text e) (fields_among es text))) ≤ most (shape_of e) + most_of es =
    omega (arith, field_short e (text e) (fields_among es text) (known e)) in
    here

length-bitmap : (bitmap : ℕ) → length (bitmap_bytes bitmap) ≤ 16
unfolding bitmap_bytes
length-bitmap bitmap =
    elim (bitmap % 2 ^ 64 == 0) as (λ b. length (cond b (to_be_bytes w64 (bitmap / 2 ^ 64)) (to_be_bytes w64 (2 ^ 63 + bitmap / 2 ^ 64) ++ to_be_bytes w64 (bitmap % 2 ^ 64))) ≤ 16) [ true ↦ omega arith | false ↦ omega arith ]

spelling_short : (r : ReplyValue) → IsReply r → length (reply_spelling r) ≤ 226
spelling_short r is =
    let fields = reply_fields r in
    let bitmap = bitmap_bytes (bitmap_of fields) in
    let texts : length (flat_map field fields) ≤ 206 = fields_short (reply_texts r) elements (reply_known r is) in
    omega (
      arith,
      texts,
      length-bitmap (bitmap_of fields),
      length-mti_text (reply_mti r),
      length-append (mti_text (reply_mti r) ++ bitmap) (flat_map field fields),
      length-append (mti_text (reply_mti r)) bitmap,
    )

text_is_body : (r : ReplyBody) → IsReplyBody r → IsBody (reply_text r)
text_is_body (Reply r) is = (omega arith, omega (arith, spelling_short r is))
text_is_body (Fault f) is =
    let len : length (fault_body f) ≡ 6 = omega (arith, length-append (fixed_digits 2 (number_of_fault f)) (fixed_digits 3 (element_of_fault f)), length-fixed_digits 2 (number_of_fault f), length-fixed_digits 3 (element_of_fault f)) in
    (omega (arith, len), omega (arith, len))

-- ---- a text is that of one reply

abbrev fault_from : ℕ → ℕ → CodecFault
fault_from zero n = OutOfMemory
fault_from (suc zero) n = Short n
fault_from (suc (suc zero)) n = BadMti
fault_from (suc (suc (suc zero))) n = SecondaryBitmap
fault_from (suc (suc (suc (suc zero)))) n = Unexpected n
fault_from (suc (suc (suc (suc (suc zero))))) n = Missing n
fault_from (suc (suc (suc (suc (suc (suc zero)))))) n = BadLength n
fault_from (suc (suc (suc (suc (suc (suc (suc zero))))))) n = BadCharacter n
fault_from (suc (suc (suc (suc (suc (suc (suc (suc zero)))))))) n = Trailing
fault_from (suc (suc (suc (suc (suc (suc (suc (suc (suc zero))))))))) n = BadValue n
fault_from (suc (suc (suc (suc (suc (suc (suc (suc (suc (suc k)))))))))) n = OutOfMemory

fault_again : (f : CodecFault) → fault_from (number_of_fault f) (element_of_fault f) ≡ f
fault_again BadMti = refl
fault_again _ = refl

number_below : (f : CodecFault) → number_of_fault f < 10 ^ 2
number_below BadMti = omega arith
number_below _ = omega arith

-- the digits of a fault's text are its number and its element
pub number_in : (f : CodecFault) → number_of (take 2 (drop 1 (fault_body f))) ≡ number_of_fault f
number_in f =
    let a = number_of_fault f in
    ap number_of (take_at (fixed_digits 2 a) (fixed_digits 3 (element_of_fault f)) 2 (length-fixed_digits 2 a)) ∙ number_of-fixed_digits 2 a (number_below f)

pub element_in : (f : CodecFault) → element_of_fault f < 256 → number_of (drop 2 (drop 1 (fault_body f))) ≡ element_of_fault f
element_in f lt =
    let a = number_of_fault f in
    ap number_of (drop_at (fixed_digits 2 a) (fixed_digits 3 (element_of_fault f)) 2 (length-fixed_digits 2 a)) ∙ number_of-fixed_digits 3 (element_of_fault f) (omega (arith, lt))

same_fault : (f g : CodecFault) → element_of_fault f < 256 → element_of_fault g < 256 → fault_body f ≡ fault_body g → f ≡ g
same_fault f g low lower e =
    let number : number_of_fault f ≡ number_of_fault g = sym (number_in f) ∙ ap (λ (t : List ℕ). number_of (take 2 (drop 1 t))) e ∙ number_in g in
    let elem : element_of_fault f ≡ element_of_fault g = sym (element_in f low) ∙ ap (λ (t : List ℕ). number_of (drop 2 (drop 1 t))) e ∙ element_in g lower in
    sym (fault_again f) ∙ rw (number, elem) refl ∙ fault_again g

other_letter : (xs ys : List ℕ) → 82 ∷ xs ≡ 70 ∷ ys → ⊥
other_letter xs ys e =
    let first : 82 ≡ 70 = ap (λ (l : List ℕ). get_or l 0 0) e in
    absurd (omega (arith, first))

one_reply : (r s : ReplyBody) → IsReplyBody r → IsReplyText (reply_text r) s → s ≡ r
one_reply (Reply r) (Reply s) is text =
    let spelled : reply_spelling s ≡ reply_spelling r = sym (ap (drop 1) text.1) in
    let same : reply_spelling s ++ [] ≡ reply_spelling r ++ [] = ap (λ (t : List ℕ). t ++ []) spelled in
    ap Reply (replies_apart s r [] [] text.0 is same).0
one_reply (Reply r) (Fault g) is text = absurd (other_letter (reply_spelling r) (drop 1 (fault_body g)) text.2)
one_reply (Fault f) (Reply s) is text = absurd (other_letter (reply_spelling s) (drop 1 (fault_body f)) (sym text.1))
one_reply (Fault f) (Fault g) is text = ap Fault (same_fault g f text.1 is.1 (sym text.2))

-- ---- all of them

abbrev pub texts_of : List ReplyBody → List (List ℕ)
texts_of replies = map reply_text replies

pub all_bodies : (replies : List ReplyBody) → AllByRecursion IsReplyBody replies → AllByRecursion IsBody (texts_of replies)
all_bodies [] all = tt
all_bodies (r ∷ replies) all = (text_is_body r all.0, all_bodies replies all.1)

is_text_of : (r : ReplyBody) → IsReplyBody r → IsReplyText (reply_text r) r
is_text_of (Reply r) is = (is, refl)
is_text_of (Fault f) is = (is.0, is.1, refl)

pub are_texts : (replies : List ReplyBody) → AllByRecursion IsReplyBody replies → AreRepliesOf (texts_of replies) replies
are_texts [] all = tt
are_texts (r ∷ replies) all = (is_text_of r all.0, are_texts replies all.1)

pub same_replies : (replies others : List ReplyBody) → AllByRecursion IsReplyBody replies → AreRepliesOf (texts_of replies) others → others ≡ replies
same_replies [] [] all are = refl
same_replies [] (s ∷ others) all are = absurd are
same_replies (r ∷ replies) [] all are = absurd are
same_replies (r ∷ replies) (s ∷ others) all are =
    let first : s ≡ r = one_reply r s all.0 are.0 in
    let rest : others ≡ replies = same_replies replies others all.1 are.1 in
    rw (first, rest) refl

pub framed_texts : (replies : List ReplyBody) → flat_map framed (texts_of replies) ≡ flat_map (λ reply. framed (reply_text reply)) replies
framed_texts replies = flat_map-map framed reply_text replies

file_of_texts : (replies : List ReplyBody) → AreReplyBodies replies → bodies_of replies_magic (replies_text replies) ≡ Ok (texts_of replies)
file_of_texts replies are =
    let number : length (texts_of replies) ≡ length replies = length-map replies reply_text in
    let text : replies_text replies ≡ head_text replies_magic (length (texts_of replies)) ++ flat_map framed (texts_of replies) = rw (number, framed_texts replies) refl in
    let bodies : AreBodies (texts_of replies) = (rw number are.0, all_bodies replies are.1) in
    ap (bodies_of replies_magic) text ∙ file_again replies_magic (texts_of replies) refl refl bodies

pub replies_again : (replies : List ReplyBody) → AreReplyBodies replies → IsReplyFileOf (replies_text replies) replies
replies_again replies are = (texts_of replies, file_of_texts replies are, are_texts replies are.1)

pub replies_alone : (replies others : List ReplyBody) → AreReplyBodies replies → IsReplyFileOf (replies_text replies) others → others ≡ replies
replies_alone replies others are file =
    let same : file.0 ≡ texts_of replies = ok_injective file.0 (texts_of replies) (sym file.1 ∙ file_of_texts replies are) in
    same_replies replies others are.1 (subst (λ (bodies : List (List ℕ)). AreRepliesOf bodies others) same file.2)
