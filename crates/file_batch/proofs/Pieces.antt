-- Writing in pieces.
use Rattle.std.proofs.Common.{◌≡◌, ℕ, ◌+◌, ◌<◌, ◌≤◌, List, [], ◌∷◌, ◌++◌, length, get_or, take, drop, refl, sym, ap, subst, ◌∙◌, append_assoc}
use Rattle.std.specs.List.{flat_map, AllByRecursion}
use Rattle.std.proofs.lemmas.List.{append-nil, take-append-drop, take_more, take_all}
use Rattle.std.proofs.lemmas.List.Concat.{flat_map-append}
use Rattle.file_laws.specs.Files.{framed}
use Rattle.file_batch.specs.Writing.{AppendsPart, Moves}
use Rattle.file_laws.proofs.Lists.{each_more}

-- what was written since the beginning, and what is about to be written, are the text so far
abbrev pub Progress : List ℕ → List ℕ → List ℕ → List ℕ → Type 0
Progress old new out text = (front : List ℕ) × (new ≡ old ++ front) × (front ++ out ≡ text)

pub begins : (old out text : List ℕ) → out ≡ text → Progress old old out text
begins old out text same = ([], sym (append-nil old), same)

pub nothing_put : (old text : List ℕ) → AppendsPart old old text
nothing_put old text = ([], text, sym (append-nil old), refl)

pub adds : (old new out text out' text' more : List ℕ) → out' ≡ out ++ more → text' ≡ text ++ more → Progress old new out text → Progress old new out' text'
adds old new out text out' text' more e f p =
    (p.0, p.1, rw (e, f, ← p.2) (sym (append_assoc p.0 out more)))

pub moves : (old new new' out out' text : List ℕ) → Moves new new' out out' → Progress old new out text → Progress old new' out' text
moves old new new' out out' text m p =
    (p.0 ++ m.0, rw (m.1, p.1) (append_assoc old p.0 m.0), append_assoc p.0 m.0 out' ∙ ap (λ (x : List ℕ). p.0 ++ x) (sym m.2) ∙ p.2)

pub stops : (old new new' out text rest whole : List ℕ) → AppendsPart new new' out → whole ≡ text ++ rest → Progress old new out text → AppendsPart old new' whole
stops old new new' out text rest whole a e p =
    (p.0 ++ a.0, a.1 ++ rest, rw (a.2, p.1) (append_assoc old p.0 a.0), e ∙ rw (← p.2, a.3) (simp append_assoc))

pub halts : (old new out text rest whole : List ℕ) → whole ≡ text ++ rest → Progress old new out text → AppendsPart old new whole
halts old new out text rest whole e p = (p.0, out ++ rest, p.1, e ∙ rw (← p.2) (append_assoc p.0 out rest))

pub ends : (old new new' out text : List ℕ) → new' ≡ new ++ out → Progress old new out text → new' ≡ old ++ text
ends old new new' out text e p = rw (e, p.1, append_assoc, p.2) refl

-- the text of an item behind its length
abbrev pub behind_length : {A : Type 0} → (A → List ℕ) → A → List ℕ
behind_length text item = framed (text item)

-- the texts of the first of these, behind a head
abbrev pub so_many : {A : Type 0} → (A → List ℕ) → List ℕ → List A → ℕ → List ℕ
so_many text head items i = head ++ flat_map text (take i items)

one_more : {A : Type 0} (text : A → List ℕ) (head : List ℕ) (items : List A) (i : ℕ) (item : A) → i < length items
    → so_many text head items (i + 1) ≡ so_many text head items i ++ text (get_or items i item)
one_more {A = A} text head items i item lt =
    let more = take_more items i item lt in
    let texts : flat_map text (take (i + 1) items) ≡ flat_map text (take i items) ++ text (get_or items i item) =
    ap (flat_map text) more ∙ flat_map-append text (take i items) (get_or items i item ∷ []) ∙ ap (λ (x : List ℕ). flat_map text (take i items) ++ x) (append-nil (text (get_or items i item))) in
    ap (λ (x : List ℕ). head ++ x) texts ∙ sym (append_assoc head (flat_map text (take i items)) (text (get_or items i item)))

pub the_rest : {A : Type 0} (text : A → List ℕ) (head : List ℕ) (items : List A) (i : ℕ) → head ++ flat_map text items ≡ so_many text head items i ++ flat_map text (drop i items)
the_rest text head items i =
    let parts : flat_map text items ≡ flat_map text (take i items) ++ flat_map text (drop i items) =
    ap (flat_map text) (sym (take-append-drop i items)) ∙ flat_map-append text (take i items) (drop i items) in
    ap (λ (x : List ℕ). head ++ x) parts ∙ sym (append_assoc head (flat_map text (take i items)) (flat_map text (drop i items)))

pub one_more_at : {A : Type 0} (text : A → List ℕ) (head : List ℕ) (items : List A) (i : ℕ) (item : A) → i < length items → item ≡ get_or items i item
    → so_many text head items (i + 1) ≡ so_many text head items i ++ text item
one_more_at {A = A} text head items i item lt is =
    one_more text head items i item lt ∙ ap (λ (x : A). so_many text head items i ++ text x) (sym is)

pub all_of_them : {A : Type 0} (text : A → List ℕ) (head : List ℕ) (items : List A) (i : ℕ) → length items ≤ i → so_many text head items i ≡ head ++ flat_map text items
all_of_them {A = A} text head items i le = ap (λ (xs : List A). head ++ flat_map text xs) (take_all i items le)

-- what holds of the first of these, and of the next one
pub one_more_holds : {A : Type 0} (P : A → Type 0) (items : List A) (i : ℕ) (item : A) → i < length items → item ≡ get_or items i item → P item
    → AllByRecursion P (take i items) → AllByRecursion P (take (i + 1) items)
one_more_holds P items i item lt is holds before =
    subst (AllByRecursion P) (sym (take_more items i item lt)) (each_more P (take i items) (get_or items i item ∷ []) before (subst P is holds, tt))

pub all_hold : {A : Type 0} (P : A → Type 0) (items : List A) (i : ℕ) → length items ≤ i → AllByRecursion P (take i items) → AllByRecursion P items
all_hold P items i le = subst (AllByRecursion P) (take_all i items le)
