-- Which texts are those of events and of entries.
use Rattle.std.proofs.Common.{◌≡◌, ◌≢◌, ℕ, ◌<◌, ◌^◌, List, ◌∷◌, ◌++◌, refl, sym, ap, subst, ◌∙◌}
use Rattle.std.specs.Prelude.{codes}
use Rattle.std.specs.Fmt.{decimal}
use Rattle.stm_memory.specs.declared.version.Version.{Version}
use Rattle.issuer_rows.specs.declared.row_key.RowKey.{RowKey}
use Rattle.stm_journal_text.specs.Marks.{Lacks}
use Rattle.stm_journal_text.specs.Texts.{IsEvent, IsKey, IsVersion, event_text, key_text, version_text}
use Rattle.stm_journal_text.specs.declared.event.Event.{Event}
use Rattle.stm_journal_text.specs.declared.event.Event.TheVariants as event
use Rattle.stm_journal_text.proofs.Back.{number_back, version_back, key_back, event_back, event_back_is, version_lacks}
use Rattle.stm_journal_text.proofs.Marks.{before, after, parted, not_lacking, other_lacks}

letter_at : (letter rest other body : List ℕ) → Lacks 32 letter → Lacks 32 other → letter ++ 32 ∷ rest ≡ other ++ 32 ∷ body → letter ≡ other
letter_at letter rest other body lacks more same = (parted 32 letter rest other body lacks more same).0

-- a text with a space behind none of these letters is no event
pub of_no_letter : (letter rest : List ℕ) (e : Event) → Lacks 32 letter → letter ≢ codes "r" → letter ≢ codes "b" → letter ≢ codes "f" → letter ≢ codes "c"
    → letter ++ 32 ∷ rest ≢ event_text e
of_no_letter letter rest event.Claim lacks a b c d same =
    not_lacking 32 letter rest (subst (Lacks 32) (sym same) (other_lacks 32 (codes "n") refl))
of_no_letter letter rest (event.Read v row) lacks a b c d same =
    a (letter_at letter rest (codes "r") (version_text v ++ 32 ∷ key_text row) lacks (other_lacks 32 (codes "r") refl) same)
of_no_letter letter rest (event.Block v on) lacks a b c d same =
    b (letter_at letter rest (codes "b") (version_text v ++ 32 ∷ decimal on) lacks (other_lacks 32 (codes "b") refl) same)
of_no_letter letter rest (event.Finish v) lacks a b c d same =
    c (letter_at letter rest (codes "f") (version_text v) lacks (other_lacks 32 (codes "f") refl) same)
of_no_letter letter rest (event.BeginValidation v) lacks a b c d same =
    d (letter_at letter rest (codes "c") (version_text v) lacks (other_lacks 32 (codes "c") refl) same)
of_no_letter letter rest event.ValidateOne lacks a b c d same =
    not_lacking 32 letter rest (subst (Lacks 32) (sym same) (other_lacks 32 (codes "o") refl))
of_no_letter letter rest event.EndValidation lacks a b c d same =
    not_lacking 32 letter rest (subst (Lacks 32) (sym same) (other_lacks 32 (codes "e") refl))
of_no_letter letter rest event.Commit lacks a b c d same =
    not_lacking 32 letter rest (subst (Lacks 32) (sym same) (other_lacks 32 (codes "k") refl))

back_of : (text : List ℕ) (e : Event) → IsEvent e → text ≡ event_text e → e ≡ event_back text
back_of text e h same = sym (event_back_is e h) ∙ ap event_back (sym same)

pub read_only : (rest : List ℕ) (e : Event) → IsEvent e → codes "r " ++ rest ≡ event_text e
    → (v : Version) × (row : RowKey) × IsVersion v × IsKey row × (rest ≡ version_text v ++ 32 ∷ key_text row)
read_only rest e h same =
    let back = back_of (codes "r " ++ rest) e h same in
    let found = subst IsEvent back h in
    (version_back (before 32 rest), key_back (after 32 rest), found.0, found.1, ap (after 32) (same ∙ ap event_text back))

pub block_only : (rest : List ℕ) (e : Event) → IsEvent e → codes "b " ++ rest ≡ event_text e
    → (v : Version) × (on : ℕ) × IsVersion v × (on < 2 ^ 32) × (rest ≡ version_text v ++ 32 ∷ decimal on)
block_only rest e h same =
    let back = back_of (codes "b " ++ rest) e h same in
    let found = subst IsEvent back h in
    (version_back (before 32 rest), number_back (after 32 rest), found.0, found.1, ap (after 32) (same ∙ ap event_text back))

-- a version and what stands behind it
pub behind_version : (text a b body : List ℕ) (v : Version) → text ≡ a ++ 32 ∷ b → Lacks 32 a → IsVersion v → text ≡ version_text v ++ 32 ∷ body
    → (a ≡ version_text v) × (b ≡ body)
behind_version text a b body v is lacks h same =
    parted 32 a b (version_text v) body lacks (version_lacks 32 v refl refl h) (sym is ∙ same)
