-- How a decision follows its plan from one row to the next, and what it has come to at its end.
use Rattle.std.proofs.Common.{◌≡◌, ℕ, Bool, true, false, not, ◌&&◌, ◌==◌, if◌then◌else◌, List, [], ◌∷◌, ◌++◌, length, take, Option, Some, None, Result, IfSome, IfErr, refl, sym, ap, subst, ◌∙◌, rules, arith, cond, Contains}
use Rattle.std.proofs.lemmas.Bool.{false≢true}
use Rattle.std.proofs.lemmas.Bool.Decides.{nat_tests}
use Rattle.std.proofs.lemmas.List.Elements.{recursion_from_All, All-contains_itself}
use Rattle.std.specs.List.{list_all}
use Rattle.issuer_words.specs.Words.{Agrees, AreRead, ComesTo, Frame, IsLocal, Reads, ReplyBody, RowKey, RowVal, Rows, decision, key_eq, keys_read, kind_of, plan_of}
use Rattle.issuer_rows.specs.Plan.{Plan, Answer, Look, Writes, Lookup, Decided, after_look, carried_out}
use Rattle.issuer_rules.specs.Following.{Follows, Concludes, after_looks, kinds_read}
use Rattle.issuer_rules.specs.Needs.{ReadsNeeds, ReadsAllNeeds}
use Rattle.issuer_view.specs.Recording.{Recording, kept, first_kept}
use Rattle.issuer_view.specs.RowSets.{value_in, logged, put}
use Rattle.issuer_view.specs.declared.stop.Stop.{Stop}
use Rattle.issuer_view.specs.declared.stop.Stop.TheVariants.{OutOfMemory}

-- a test whose negation holds, or fails
pub not_true : (b : Bool) → not b ≡ true → b ≡ false
not_true true h = sym h
not_true false h = refl

pub not_false : (b : Bool) → not b ≡ false → b ≡ true
not_false true h = refl
not_false false h = sym h

-- the test whether two numbers are the same
pub same_number : (m n : ℕ) → m ≡ n → (m == n) ≡ true
same_number m n e = grind (arith, nat_tests)

pub other_number : (m n : ℕ) → (m ≡ n → ⊥) → (m == n) ≡ false
other_number m n e = grind (arith, nat_tests)

-- ---- rows that were not read yet

-- the test whether none of these kinds is the key's
abbrev pub has_no_kind : List ℕ → RowKey → Bool
has_no_kind kinds key = list_all (λ kind. not (kind_of key == kind)) kinds

split : (a b : Bool) → (a && b) ≡ true → (a ≡ true) × (b ≡ true)
split true b h = (refl, h)
split false b h = absurd (false≢true h)

other_kind : (a b : RowKey) → not (kind_of a == kind_of b) ≡ true → key_eq a b ≡ false
other_kind a b e = by (kind_of a == kind_of b) _ e where
  by : (same rest : Bool) → not same ≡ true → (same && rest) ≡ false
  by true rest h = absurd (false≢true h)
  by false rest h = refl

not_found : (reads : Reads) (key : RowKey) → has_no_kind (kinds_read reads) key ≡ true → value_in reads key ≡ None
not_found [] key h = refl
not_found (read ∷ reads) key h =
    let parts = split (not (kind_of key == kind_of read.0)) (has_no_kind (kinds_read reads) key) h in
    ap (λ t. cond t (Some read.1) (value_in reads key)) (other_kind key read.0 parts.0) ∙ not_found reads key parts.1

-- a row whose kind was not read yet is neither read nor written
pub unread : {S : Type 0} (rows : Recording S) (frame : Frame) (plan : Plan) (kinds : List ℕ) (key : RowKey)
    → Follows frame rows.reads rows.writes plan → kinds_read rows.reads ≡ kinds → has_no_kind kinds key ≡ true → kept rows key ≡ None
unread rows frame plan kinds key follows are none =
    ap (λ (ws : Writes). first_kept (value_in ws key) (value_in rows.reads key)) follows.unput
    ∙ not_found rows.reads key (ap (λ ks. has_no_kind ks key) are ∙ none)

kinds_logged : (reads : Reads) (key : RowKey) (row : Option RowVal) → kinds_read (logged reads key row) ≡ kinds_read reads ++ kind_of key ∷ []
kinds_logged [] key row = refl
kinds_logged (read ∷ reads) key row = ap (λ ks. kind_of read.0 ∷ ks) (kinds_logged reads key row)

-- the kinds that were read, with one more
pub kinds_more : (reads now : Reads) (kinds : List ℕ) (key : RowKey) (row : Option RowVal) → kinds_read reads ≡ kinds → now ≡ logged reads key row → kinds_read now ≡ kinds ++ kind_of key ∷ []
kinds_more reads now kinds key row are is = ap kinds_read is ∙ kinds_logged reads key row ∙ ap (λ ks. ks ++ kind_of key ∷ []) are

-- ---- from one row to the next

-- the plan, in other words
pub follows_as : (frame : Frame) (reads : Reads) (writes : Writes) (plan other : Plan) → plan ≡ other → Follows frame reads writes plan → Follows frame reads writes other
follows_as frame reads writes plan other same = subst (Follows frame reads writes) same

-- a decision that has read nothing follows its whole plan
pub begins : (frame : Frame) (reads : Reads) (writes : Writes) → reads ≡ [] → writes ≡ [] → Follows frame reads writes (plan_of frame)
unfolding decision
begins frame reads writes none unput =
    let from_start : (look : Lookup) → Agrees reads look → decision look frame ≡ after_looks (keys_read reads) (carried_out (plan_of frame) look) =
    λ look _. sym (ap (λ (rs : Reads). after_looks (keys_read rs) (carried_out (plan_of frame) look)) none) in
    record { unput = unput; left = from_start }

agrees_before : (reads : Reads) (key : RowKey) (row : Option RowVal) (look : Lookup) → Agrees (logged reads key row) look → Agrees reads look × (look key ≡ row)
agrees_before [] key row look h = (tt, h.0)
agrees_before (read ∷ reads) key row look h = let rest = agrees_before reads key row look h.1 in ((h.0, rest.0), rest.1)

keys_logged : (reads : Reads) (key : RowKey) (row : Option RowVal) (d : Decided) → after_looks (keys_read (logged reads key row)) d ≡ after_looks (keys_read reads) (after_look key d)
keys_logged [] key row d = refl
keys_logged (read ∷ reads) key row d = ap (after_look read.0) (keys_logged reads key row d)

-- the row that the plan looks at was read: what is left is the plan behind it
pub looked : (frame : Frame) (reads now : Reads) (writes puts : Writes) (key : RowKey) (next : Option RowVal → Plan) (row : Option RowVal)
    → Follows frame reads writes (Look key next) → now ≡ logged reads key row → puts ≡ writes → Follows frame now puts (next row)
looked frame reads now writes puts key next row follows is same =
    let left : (look : Lookup) → Agrees (logged reads key row) look → decision look frame ≡ after_looks (keys_read (logged reads key row)) (carried_out (next row) look) =
    λ look agrees.
    let before = agrees_before reads key row look agrees in
    follows.left look before.0
    ∙ ap (λ (r : Option RowVal). after_looks (keys_read reads) (after_look key (carried_out (next r) look))) before.1
    ∙ sym (keys_logged reads key row (carried_out (next row) look)) in
    subst (λ (rs : Reads). Follows frame rs puts (next row)) (sym is) (record { unput = same ∙ follows.unput; left = left })

-- the same, where the key and what is left are said in other words
pub looked_as : (frame : Frame) (reads now : Reads) (writes puts : Writes) (k key : RowKey) (next : Option RowVal → Plan) (row : Option RowVal) (plan : Plan)
    → Follows frame reads writes (Look key next) → now ≡ logged reads k row → puts ≡ writes → k ≡ key → next row ≡ plan → Follows frame now puts plan
looked_as frame reads now writes puts k key next row plan follows is same named left =
    follows_as frame now puts (next row) plan left
    (looked frame reads now writes puts key next row follows (is ∙ ap (λ (q : RowKey). logged reads q row) named) same)

-- what was found in the row that was read, as its type says
pub read_as : {A B : Type 0} (typed : A → B) {row latest : A} {found value : B} → latest ≡ row → found ≡ typed latest → found ≡ value → typed row ≡ value
read_as typed is found same = ap typed (sym is) ∙ sym found ∙ same

-- a test of the plan holds
pub follows_then : (frame : Frame) (reads : Reads) (writes : Writes) (test : Bool) (plan other : Plan)
    → Follows frame reads writes (if test then plan else other) → test ≡ true → Follows frame reads writes plan
follows_then frame reads writes test plan other follows holds = subst (λ (t : Bool). Follows frame reads writes (if t then plan else other)) holds follows

-- a test of the plan fails
pub follows_else : (frame : Frame) (reads : Reads) (writes : Writes) (test : Bool) (plan other : Plan)
    → Follows frame reads writes (if test then plan else other) → test ≡ false → Follows frame reads writes other
follows_else frame reads writes test plan other follows fails = subst (λ (t : Bool). Follows frame reads writes (if t then plan else other)) fails follows

-- where a book stays, what stops a decision there is what stopped it before
pub stops_kept : {T : Type 0} (before after : Option Rows) (result : Result T Stop) → after ≡ before → IfSome after (λ _. IfErr result (λ stop. stop ≡ OutOfMemory)) → IfSome before (λ _. IfErr result (λ stop. stop ≡ OutOfMemory))
stops_kept before after result same stops = subst (λ (book : Option Rows). IfSome book (λ _. IfErr result (λ stop. stop ≡ OutOfMemory))) same stops

-- ---- at the end

after_all : (reads : Reads) (reply : ReplyBody) (writes : Writes) → after_looks (keys_read reads) (record { reply = reply; writes = writes; needs = [] }) ≡ record { reply = reply; writes = writes; needs = keys_read reads }
after_all [] reply writes = refl
after_all (read ∷ reads) reply writes = ap (after_look read.0) (after_all reads reply writes)

-- the plan is an answer, and that is given
pub concluded : (frame : Frame) (reads now : Reads) (writes puts : Writes) (reply given : ReplyBody) (answer : Writes)
    → Follows frame reads writes (Answer reply answer) → now ≡ reads → puts ≡ answer → given ≡ reply → Concludes frame now puts given
concluded frame reads now writes puts reply given answer follows same put is look agrees =
    follows.left look (subst (λ (rs : Reads). Agrees rs look) same agrees)
    ∙ after_all reads reply answer
    ∙ (λ i. record { reply = sym is i; writes = sym put i; needs = keys_read (sym same i) })

first_needs : (reads : Reads) (d : Decided) → keys_read reads ≡ take (length reads) (after_looks (keys_read reads) d).needs
first_needs [] d = sym (search rules)
first_needs (read ∷ reads) d = ap (λ ks. read.0 ∷ ks) (first_needs reads d)

-- a decision that follows its plan has read the first of the rows that are needed
pub follows_needs : (frame : Frame) (reads now : Reads) (writes : Writes) (plan : Plan) → Follows frame reads writes plan → now ≡ reads → ReadsNeeds frame now
follows_needs frame reads now writes plan follows same =
    let needs : ReadsNeeds frame reads = λ look agrees. first_needs reads (carried_out plan look) ∙ ap (λ (d : Decided). take (length reads) d.needs) (sym (follows.left look agrees)) in
    subst (ReadsNeeds frame) (sym same) needs

all_of : (reads : Reads) → keys_read reads ≡ take (length reads) (keys_read reads)
all_of [] = sym (search rules)
all_of (read ∷ reads) = ap (λ ks. read.0 ∷ ks) (all_of reads)

-- a decision that has come to its end has read all the rows that are needed
pub concluded_all : (frame : Frame) (reads : Reads) (writes : Writes) (reply : ReplyBody) → Concludes frame reads writes reply → ReadsAllNeeds frame reads
concluded_all frame reads writes reply done look agrees = sym (ap (λ (d : Decided). d.needs) (done look agrees))

pub concluded_needs : (frame : Frame) (reads : Reads) (writes : Writes) (reply : ReplyBody) → Concludes frame reads writes reply → ReadsNeeds frame reads
concluded_needs frame reads writes reply done look agrees = all_of reads ∙ ap (λ (ks : List RowKey). take (length reads) ks) (concluded_all frame reads writes reply done look agrees)

read_is_among : (reads : Reads) → AreRead (keys_read reads) reads
read_is_among reads = recursion_from_All (Contains (keys_read reads)) (keys_read reads) (All-contains_itself (keys_read reads))

-- a decision that has come to its end is what it comes to on all rows that agree with what it read
pub concluded_local : (frame : Frame) (reads : Reads) (writes : Writes) (reply : ReplyBody) → Concludes frame reads writes reply → IsLocal frame reads writes reply
concluded_local frame reads writes reply done look agrees =
    subst (λ (d : Decided). ComesTo d reads writes reply) (sym (done look agrees)) (refl, refl, read_is_among reads)

-- ---- with one row written, or none

-- a row that is written first
pub first_put : (writes now : Writes) (key : RowKey) (value : RowVal) (entry : RowKey × RowVal) → writes ≡ [] → now ≡ put writes key value → (key, value) ≡ entry → now ≡ entry ∷ []
first_put writes now key value entry none is same = is ∙ ap (λ (ws : Writes). put ws key value) none ∙ ap (λ (e : RowKey × RowVal). e ∷ []) same

-- an answer that writes nothing
pub concluded_with_none : {S : Type 0} (frame : Frame) (rows : Recording S) (reply given : ReplyBody)
    → Follows frame rows.reads rows.writes (Answer reply []) → given ≡ reply → Concludes frame rows.reads rows.writes given
concluded_with_none frame rows reply given follows gives =
    concluded frame rows.reads rows.reads rows.writes rows.writes reply given [] follows refl follows.unput gives
